-- `nearest` meets its contract: the best so far is the nearest but for those of the rest.
use Rattle.placing.proofs.Nearest.{Choosing}
use Rattle.placing.proofs.paths.Paths.nearest.Given as goal

abbrev pub invariant-loop-rest : goal.invariant-loop-rest
invariant-loop-rest l = Choosing l.self l.best l.least l.rest

abbrev pub decreases-loop-rest : goal.decreases-loop-rest
decreases-loop-rest l = l.rest
