-- `seat_all` meets its contract: the nodes so far take their labels.
use mathlib.Core.Path.{◌≡◌}
use Rattle.placing.proofs.SeatLaws.{SeatedUpTo}
use Rattle.placing.proofs.seats.Seats.seat_all.Given as goal

abbrev pub invariant-loop-u : goal.invariant-loop-u
invariant-loop-u l = (l.self.nodes.now ≡ l.initial.self.nodes.now) × SeatedUpTo l.taken l.u l.self.taken
