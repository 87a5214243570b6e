-- `lower_all` meets its contract: the nodes below u are where they are to be.
use mathlib.Core.Path.{◌≡◌}
use Rattle.placing.specs.Words.{Lowered}
use Rattle.placing.proofs.seats.Seats.lower_all.Given as goal

abbrev pub invariant-loop-u : goal.invariant-loop-u
invariant-loop-u l = (l.self.nodes.now ≡ l.initial.self.nodes.now) × Lowered l.self.nodes.now.count l.self.nodes.now.sets l.self.nodes.now.own l.idle l.self.taken l.closed l.u
