-- The answers of `write_sweep` and of `sweep_length`, case by case.
-- Assumes nothing.
use mathlib.Core.Path.{◌≡◌, refl, sym, ap, ◌∙◌}
use mathlib.Core.Bool.{true, false, cond}
use mathlib.Core.List.{List, [], ◌∷◌, ◌++◌, append_assoc}
use Prim.Native.Nat.{ℕ, ◌≤◌}
use native.Mathlib.Omega.{arith}
use borrow.Author.Tests.{eq-eqb, ne_eqb, eqb-true}
use lib.Dec.{eqb}
use lib.ListN.{length}
use Rattle.std.proofs.Common.{Ok, Err}
use Rattle.integers.specs.Places.{range}
use Rattle.integers.specs.Checks.{first_failure}
use Rattle.integers.proofs.Places.{by-test, by_cond, if-true, if-false}
use Rattle.integers.proofs.Checks.{failure_append, passes, fails}
use Rattle.instance.specs.declared.refusal.Refusal.{Refusal}
use Rattle.instance.specs.declared.refusal.Refusal.TheVariants.{NoSuchRecord}
use Rattle.instance.specs.Instance.{Instance}
use Rattle.instance.specs.Sheet.{instance_of, checks, refusal_of}
use Rattle.instance.proofs.Readable.{readable}
use Rattle.instance.proofs.LaidOut.{positions_few_lem}
use Rattle.instance.proofs.Shown.{checks-numbered}
use Rattle.schedule.specs.declared.sweep.Direction.{Direction}
use Rattle.schedule.specs.declared.sweep.Direction.TheVariants.{Forward, Backward}
use Rattle.schedule.specs.Sweep.{Entry, bytes, each, falling, rounding, forward_at, label_at, backward_at, forward, backward, sweep, known, sweep_records, sweep_length}
use Rattle.schedule.specs.Writing.{direction_of, direction_number}
use Rattle.schedule.specs.Written.{written, sweep_room, own_checks, sweep_refusal, sweep_of}

-- a direction, by its number
module _ (n : ℕ) where
  pub direction_known : {d : Direction} → Ok d ≡ direction_of n → (known n ≡ true) × (n ≡ direction_number d)
  unfolding known direction_of
  direction_known {d} e =
      by-test (eqb n 0)
      (λ t. let f : Ok d ≡ Ok Forward = e ∙ if-true _ _ t in let q : d ≡ Forward = cc in (rw t, eqb-true n 0 t ∙ sym (ap direction_number q)))
      (λ t. by-test (eqb n 1)
      (λ u. let f : Ok d ≡ Ok Backward = e ∙ if-false _ _ t ∙ if-true _ _ u in let q : d ≡ Backward = cc in (rw (t, u), eqb-true n 1 u ∙ sym (ap direction_number q)))
      (λ u. let f : Ok d ≡ Err NoSuchRecord = e ∙ if-false _ _ t ∙ if-false _ _ u in absurd (cc)))

  pub direction_unknown : {r : Refusal} → Err r ≡ direction_of n → (known n ≡ false) × (r ≡ NoSuchRecord)
  unfolding known direction_of
  direction_unknown {r} e =
      by-test (eqb n 0)
      (λ t. let f : Err r ≡ Ok Forward = e ∙ if-true _ _ t in absurd (cc))
      (λ t. by-test (eqb n 1)
      (λ u. let f : Err r ≡ Ok Backward = e ∙ if-false _ _ t ∙ if-true _ _ u in absurd (cc))
      (λ u. let f : Err r ≡ Err NoSuchRecord = e ∙ if-false _ _ t ∙ if-false _ _ u in let q : r ≡ NoSuchRecord = cc in (rw (t, u), q)))

module _ (I : Instance) where
  -- a sweep without its rounding
  abbrev pub body : Direction → List Entry
  body Forward = each (forward_at I) (range 0 I.node_count)
  body Backward = each (label_at I) (falling I.label_count) ++ each (backward_at I) (falling I.node_count)

  pub sweep_is : (d : Direction) → sweep I (direction_number d) ≡ body d ++ rounding
  unfolding sweep forward backward
  sweep_is Forward = refl
  sweep_is Backward = sym (append_assoc (each (label_at I) (falling I.label_count)) (each (backward_at I) (falling I.node_count)) rounding)

-- how many bytes to lend
module _ (s : List ℕ) where
  pub room_none : (refusal_of s ≡ 0 → ⊥) → 0 ≡ sweep_room s
  unfolding sweep_room
  room_none h = sym (if-false (sweep_length (instance_of s)) 0 (ne_eqb (refusal_of s) 0 h))

  pub room_is : refusal_of s ≡ 0 → sweep_length (instance_of s) ≡ sweep_room s
  unfolding sweep_room
  room_is e = sym (if-true (sweep_length (instance_of s)) 0 (eq-eqb (refusal_of s) 0 e))

  -- a sweep has at most 1,537 records
  pub room_few : sweep_room s ≤ 7_685
  unfolding sweep_room sweep_length sweep_records
  room_few =
      by_cond (λ (n : ℕ). n ≤ 7_685) (eqb (refusal_of s) 0)
      (λ t. let p = (readable s (eqb-true (refusal_of s) 0 t)).proper in omega (arith, p.edges_few, positions_few_lem p))
      (λ t. omega arith)

module _ (s : List ℕ) (direction : ℕ) (out : List ℕ) where
  abbrev I : Instance
  I = instance_of s

  by_checks : sweep_refusal s direction out ≡ cond (eqb (refusal_of s) 0) (first_failure (own_checks s direction out)) (refusal_of s)
  unfolding sweep_refusal refusal_of
  by_checks = failure_append (checks s) (own_checks s direction out) (checks-numbered s)

  own : refusal_of s ≡ 0 → sweep_refusal s direction out ≡ first_failure (own_checks s direction out)
  own e = by_checks ∙ if-true (first_failure (own_checks s direction out)) (refusal_of s) (eq-eqb (refusal_of s) 0 e)

  left_alone : (k : ℕ) → sweep_refusal s direction out ≡ k → (k ≡ 0 → ⊥) → written out k ≡ sweep_of s direction out
  unfolding sweep_of
  left_alone k e h =
      sym (ap (λ (k : ℕ). written (cond (eqb k 0) (bytes (sweep I direction)) out) k) e ∙ ap (λ (l : List ℕ). written l k) (if-false (bytes (sweep I direction)) out (ne_eqb k 0 h)))

  pub unread : (refusal_of s ≡ 0 → ⊥) → written out (refusal_of s) ≡ sweep_of s direction out
  unread h = left_alone (refusal_of s) (by_checks ∙ if-false (first_failure (own_checks s direction out)) (refusal_of s) (ne_eqb (refusal_of s) 0 h)) h

  pub unknown : refusal_of s ≡ 0 → known direction ≡ false → written out 12 ≡ sweep_of s direction out
  unfolding own_checks
  unknown e h = left_alone 12 (own e ∙ fails (known direction) 12 ((eqb (length out) (sweep_length I), 8) ∷ []) h) (λ z. omega arith)

  pub unfit : refusal_of s ≡ 0 → known direction ≡ true → (length out ≡ sweep_length I → ⊥) → written out 8 ≡ sweep_of s direction out
  unfolding own_checks
  unfit e h d =
      left_alone 8
      (own e ∙ passes (known direction) 12 ((eqb (length out) (sweep_length I), 8) ∷ []) h ∙ fails (eqb (length out) (sweep_length I)) 8 [] (ne_eqb (length out) (sweep_length I) d))
      (λ z. omega arith)

  unrefused : refusal_of s ≡ 0 → known direction ≡ true → length out ≡ sweep_length I → sweep_refusal s direction out ≡ 0
  unfolding own_checks first_failure
  unrefused e h d = own e ∙ rw (h, eq-eqb (length out) (sweep_length I) d)

  pub swept : refusal_of s ≡ 0 → known direction ≡ true → length out ≡ sweep_length I → written (bytes (sweep I direction)) 0 ≡ sweep_of s direction out
  unfolding sweep_of
  swept e h d = sym (ap (λ (k : ℕ). written (cond (eqb k 0) (bytes (sweep I direction)) out) k) (unrefused e h d))

  -- not refused: the sheet is readable
  pub unrefused_readable : sweep_refusal s direction out ≡ 0 → refusal_of s ≡ 0
  unrefused_readable e =
      by-test (eqb (refusal_of s) 0) (λ t. eqb-true (refusal_of s) 0 t)
      (λ t. sym (by_checks ∙ if-false (first_failure (own_checks s direction out)) (refusal_of s) t) ∙ e)
