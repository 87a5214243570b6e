-- Nodes that are seated, as a placing.
-- Assumes nothing.
use mathlib.Core.Path.{◌≡◌, sym, ap, ◌∙◌}
use mathlib.Core.Bool.{Bool, false}
use mathlib.Core.List.{List}
use mathlib.Core.Logic.{⊎_elim}
use Prim.Native.Nat.{ℕ, ◌+◌, ◌≤◌, ◌<◌}
use native.Mathlib.Omega.{arith}
use borrow.Author.Tests.{ltb-true, ltb-false}
use lib.Dec.{ltb}
use Rattle.integers.proofs.Places.{by-test}
use Rattle.integers.proofs.Words.{bit_small}
use Rattle.assignment.proofs.Counts.{differ, by-same}
use Rattle.placing.specs.Words.{entry, flag, rows_of, Linked, Seated, Rooted, Ended, Blocked, caught}
use Rattle.placing.proofs.Holding.{Held, linked_held}
use Rattle.placing.proofs.Blocking.{caught_blocked}

-- ---- one node after another

module _ {sets : List ℕ} {own : List Bool} {taken holders reach : List ℕ} {free u : ℕ} (k : Linked sets taken holders reach free) (s : Seated own 0 u taken) (few : u < 64) where
  pub seated_unplaced : 64 ≤ entry taken u
  seated_unplaced = let e = s.later u (omega arith) few in omega arith

  -- a chain places it
  pub seated_more : {met : ℕ} {taken' : List ℕ} → flag own u ≡ false → Rooted own taken (entry sets u) 0 u met taken' → Seated own 0 (u + 1) taken'
  seated_more {taken' = taken'} o r = record {
    seat = λ w g z. by-same w u (λ q. absurd (let b = bit_small (entry sets u) (entry taken' u) (k.fit_sets u) r.rooted in omega (arith, ap (entry taken') q)))
        (λ q. ⊎_elim (λ e. rw e (s.seat w (omega arith) (omega arith))) (λ (x, y, v). ⊎_elim (λ f. absurd (omega arith)) (λ f. f) v) (r.stays w q));
    later = λ w g l. ⊎_elim (λ e. e ∙ s.later w (omega arith) l) (λ (x, y, v). absurd (omega (arith, s.later w (omega arith) l))) (r.stays w (λ q. omega arith));
    vacant = λ w g l e. ⊎_elim (λ z. z ∙ s.vacant w g l e) (λ (x, y, v). absurd (omega (arith, s.vacant w g l e))) (r.stays w (λ q. differ (ap (flag own) (sym q) ∙ e) o));
  }

  -- no chain does: the nodes seen cannot all be placed
  pub seated_blocked : {n seen : ℕ} → u < n → flag own u ≡ false → Ended reach free (entry sets u) 0 seen → Blocked (rows_of n sets own) (caught u seen taken)
  seated_blocked {n} h o e = caught_blocked held (λ w a b d. s.vacant w a (omega arith)) o e.trail e.exhausted n h
    where
      held : Held sets own (u + 1) u taken holders reach free
      held = linked_held own k (omega arith) (λ w g d. s.seat w (omega arith)) (λ w g l. by-test (ltb w (u + 1)) (ltb-true w (u + 1))
          (λ z. let y = s.later w (omega (arith, ltb-false w (u + 1) z)) g in absurd (omega arith))) seated_unplaced
