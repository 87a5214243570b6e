-- A sweep written into a buffer of its own length: the number and the bytes.
-- Assumes nothing.
use mathlib.Core.Path.{◌≡◌, refl, sym, ap, ◌∙◌}
use mathlib.Core.Bool.{cond}
use mathlib.Core.List.{List, [], ◌∷◌}
use Prim.Native.Nat.{ℕ}
use native.Mathlib.Omega.{arith}
use borrow.Author.Tests.{eq-eqb, ne_eqb, eqb-true, eqb-false}
use lib.Dec.{eqb}
use lib.ListN.{length}
use Rattle.integers.specs.Checks.{first_failure}
use Rattle.integers.proofs.Places.{by-test, if-true, if-false}
use Rattle.integers.proofs.Checks.{failure_append}
use Rattle.instance.specs.Sheet.{instance_of, checks, refusal_of}
use Rattle.instance.proofs.Shown.{checks-numbered}
use Rattle.schedule.specs.Sweep.{bytes, sweep, known}
use Rattle.schedule.specs.Written.{Written, written, sweep_room, sweep_of}
use Rattle.schedule.proofs.Written.{room_is, unread, unknown, swept}
use Rattle.sweep.specs.Swept.{refusal_for, sweep_bytes}

module _ (s : List ℕ) (direction : ℕ) where
  number_is : refusal_for s direction ≡ cond (eqb (refusal_of s) 0) (cond (known direction) 0 12) (refusal_of s)
  unfolding refusal_for refusal_of first_failure
  number_is = failure_append (checks s) ((known direction, 12) ∷ []) (checks-numbered s)

  -- what is left in a buffer of the sweep's length
  pub record Left (out : List ℕ) (r : ℕ) : Type 0 where
    pub number : r ≡ refusal_for s direction
    pub content : r ≡ 0 → out ≡ bytes (sweep (instance_of s) direction)

  left_by : {out : List ℕ} {r : ℕ} (out' : List ℕ) (r' : ℕ) → written out r ≡ written out' r' → r' ≡ refusal_for s direction → (r' ≡ 0 → out' ≡ bytes (sweep (instance_of s) direction)) → Left out r
  left_by out' r' e n c =
      let k = ap (λ (w : Written). w.refusal) e in
      record { number = k ∙ n; content = λ z. ap (λ (w : Written). w.content) e ∙ c (sym k ∙ z) }

  pub left : {out : List ℕ} {r : ℕ} (lent : List ℕ) → length lent ≡ sweep_room s → written out r ≡ sweep_of s direction lent → Left out r
  left lent z e =
      by-test (eqb (refusal_of s) 0)
      (λ t. let h = eqb-true (refusal_of s) 0 t in
      by-test (known direction)
      (λ k. left_by (bytes (sweep (instance_of s) direction)) 0 (e ∙ sym (swept s direction lent h k (z ∙ sym (room_is s h)))) (sym (number_is ∙ if-true _ _ t ∙ if-true _ _ k)) (λ _. refl))
      (λ k. left_by lent 12 (e ∙ sym (unknown s direction lent h k)) (sym (number_is ∙ if-true _ _ t ∙ if-false _ _ k)) (λ o. absurd (omega arith))))
      (λ t. let h = eqb-false (refusal_of s) 0 t in
      left_by lent (refusal_of s) (e ∙ sym (unread s direction lent h)) (sym (number_is ∙ if-false _ _ t)) (λ o. absurd (h o)))

  pub written_all : refusal_for s direction ≡ 0 → bytes (sweep (instance_of s) direction) ≡ sweep_bytes s direction
  unfolding sweep_bytes
  written_all e = sym (if-true _ _ (eq-eqb (refusal_for s direction) 0 e))

  pub written_none : (refusal_for s direction ≡ 0 → ⊥) → [] ≡ sweep_bytes s direction
  unfolding sweep_bytes
  written_none h = sym (if-false _ _ (ne_eqb (refusal_for s direction) 0 h))
