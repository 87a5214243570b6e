-- `shift` meets its contract: each turn is one of `Moving`.
use Prim.Native.Nat.{ℕ}
use mathlib.Core.Path.{◌≡◌}
use Rattle.placing.specs.Words.{Asked, Met}
use Rattle.placing.proofs.Moving.{Moving}
use Rattle.placing.proofs.seats.Seats.shift.Given as goal

abbrev pub invariant-loop-i : goal.invariant-loop-i
invariant-loop-i l = (l.self.nodes.now ≡ l.initial.self.nodes.now) × ((start before : ℕ) → Asked l.initial.self.nodes.now.sets l.initial.self.taken start before l.root
    → Met l.initial.self.reach l.initial.self.free start before l.steps.by l.steps.words l.initial.i l.initial.l
    → Moving l.initial.self.nodes.now.sets l.initial.self.taken l.initial.self.reach l.initial.self.free start before l.steps.by l.steps.words l.initial.i l.initial.l l.root l.self.taken l.self.holders l.self.reach l.self.free l.l l.i)
