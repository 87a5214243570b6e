-- `place_all` meets its contract: the nodes below u are seated.
use mathlib.Core.Path.{◌≡◌}
use Rattle.placing.specs.Words.{Seated}
use Rattle.placing.proofs.seats.Seats.place_all.Given as goal

abbrev pub invariant-loop-u : goal.invariant-loop-u
invariant-loop-u l = (l.self.nodes.now ≡ l.initial.self.nodes.now) × Seated l.self.nodes.now.own 0 l.u l.self.taken
