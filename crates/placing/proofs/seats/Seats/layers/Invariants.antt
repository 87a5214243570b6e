-- `layers` meets its contract: each turn is one of `Searching`.
use Prim.Native.Nat.{◌-◌}
use Rattle.placing.proofs.Searching.{Searching, Layers, queue}
use Rattle.placing.proofs.seats.Seats.layers.Given as goal

abbrev pub invariant-loop-layer : goal.invariant-loop-layer
invariant-loop-layer l = Searching l.self.reach l.goals l.start l.before l.steps.by l.steps.words l.count l.seen (queue l.layer l.next) × Layers l.layer l.next

abbrev pub decreases-loop-layer : goal.decreases-loop-layer
decreases-loop-layer l = 64 - l.count
