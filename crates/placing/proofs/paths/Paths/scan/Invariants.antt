-- `scan` meets its contract: the labels so far were reached.
use Rattle.placing.specs.Words.{entry}
use Rattle.placing.specs.Paths.{Bounded}
use Rattle.placing.proofs.Reaching.{Scanning}
use Rattle.placing.proofs.paths.Paths.scan.Given as goal

abbrev pub invariant-loop-k : goal.invariant-loop-k
invariant-loop-k l = Scanning l.offers l.initial.self l.self l.u l.base (entry l.labels) l.k × Bounded l.free l.self
