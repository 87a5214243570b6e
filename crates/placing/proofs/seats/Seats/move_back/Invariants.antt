-- `move_back` meets its contract: each turn is a move of `Returning`.
use Prim.Native.Nat.{ℕ}
use mathlib.Core.Path.{◌≡◌}
use lib.IntN.{ℤ}
use Rattle.placing.specs.Paths.{by_of, Trace, Opening}
use Rattle.placing.proofs.seats.Seats.move_back.Given as goal

abbrev pub invariant-loop-step : goal.invariant-loop-step
invariant-loop-step l = (l.self.nodes.now ≡ l.fn.self.nodes.now) × (l.step ≡ by_of l.paths l.l)
    × ((c : ℕ → ℕ → ℤ) → (out : ℕ) → Trace l.fn.self.nodes.now.sets l.fn.self.nodes.now.own c l.paths → Opening l.fn.self.nodes.now.count out l.fn.self.nodes.now.sets l.fn.self.nodes.now.own c l.paths l.fn.self.taken l.fn.self.free l.label
    → Opening l.fn.self.nodes.now.count out l.fn.self.nodes.now.sets l.fn.self.nodes.now.own c l.paths l.self.taken l.self.free l.l)

abbrev pub decreases-loop-step : goal.decreases-loop-step
decreases-loop-step l = l.step
