-- `settle` meets its contract: each turn is one of `Trying`.
use Prim.Native.Nat.{◌-◌}
use mathlib.Core.Path.{◌≡◌}
use lib.Count.{count_trailing_zeros}
use Rattle.placing.proofs.Settling.{Trying}
use Rattle.placing.proofs.seats.Seats.settle.Given as goal

abbrev pub invariant-loop-rest : goal.invariant-loop-rest
invariant-loop-rest l = (l.self.nodes.now ≡ l.fn.self.nodes.now) × (l.self.taken ≡ l.fn.self.taken) × Trying l.fn.self.nodes.now.sets l.fn.self.taken l.goals l.before l.u l.seen l.rest

abbrev pub decreases-loop-rest : goal.decreases-loop-rest
decreases-loop-rest l = 64 - count_trailing_zeros 64 l.rest
