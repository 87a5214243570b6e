-- The promise of `place`, case by case.
-- Assumes nothing.
use mathlib.Core.Path.{◌≡◌, refl, sym, ap, ◌∙◌}
use mathlib.Core.Bool.{Bool, true, false, cond}
use mathlib.Core.List.{List, [], ◌∷◌}
use Prim.Native.Nat.{ℕ, ◌<◌}
use native.Mathlib.Omega.{arith}
use borrow.Author.Tests.{eq-eqb, ne_eqb, ltb-true, lt-ltb}
use lib.Dec.{eqb, ltb}
use lib.ListN.{length}
use lib.Seq.{ext_get_or}
use Rattle.integers.specs.Places.{every, tabulate}
use Rattle.integers.specs.Checks.{first_failure}
use Rattle.integers.proofs.Places.{and_true, if-true, if-false, length-tabulate, get_d_tabulate}
use Rattle.integers.proofs.Checks.{failure_append, passes, fails}
use Rattle.instance.specs.Instance.{Instance}
use Rattle.instance.specs.Sheet.{instance_of, checks, refusal_of}
use Rattle.instance.proofs.Shown.{checks-numbered}
use Rattle.rules.specs.Matchings.{matchings, smallest}
use Rattle.rules.proofs.Matchings.{smallest_is}
use Rattle.placing.specs.Placing.{Obstruction, Placed, own_checks, place_refusal, placed_of}

-- lists made of functions that agree
pub alike : (n : ℕ) (f g : ℕ → ℕ) → ((i : ℕ) → i < n → f i ≡ g i) → tabulate n f ≡ tabulate n g
alike n f g h =
    let z = length-tabulate n f in
    ext_get_or 0 (tabulate n f) (tabulate n g) (z ∙ sym (length-tabulate n g)) (λ i l. get_d_tabulate n f i 0 (omega arith) ∙ h i (omega arith) ∙ sym (get_d_tabulate n g i 0 (omega arith)))

-- a number that no check has is not the answer
unlisted : (l : List (Bool × ℕ)) (m : ℕ) → (m ≡ 0 → ⊥) → every (λ (c : Bool × ℕ). ltb c.1 m) l ≡ true → first_failure l ≡ m → ⊥
unfolding every first_failure
unlisted [] m h e q = h (sym q)
unlisted ((true, k) ∷ l) m h e q = unlisted l m h (and_true (ltb k m) (every (λ (c : Bool × ℕ). ltb c.1 m) l) e).1 q
unlisted ((false, k) ∷ l) m h e q = let p = ltb-true k m (and_true (ltb k m) (every (λ (c : Bool × ℕ). ltb c.1 m) l) e).0 in omega arith

-- the sheet's own numbers end with 15
sheet_not_16 : (s : List ℕ) → refusal_of s ≡ 16 → ⊥
unfolding refusal_of checks every
sheet_not_16 s = unlisted (checks s) 16 (λ z. omega arith) refl

module _ (s out : List ℕ) where
  abbrev I : Instance
  I = instance_of s

  by_checks : place_refusal s out ≡ cond (eqb (refusal_of s) 0) (first_failure (own_checks s out)) (refusal_of s)
  unfolding place_refusal refusal_of
  by_checks = failure_append (checks s) (own_checks s out) (checks-numbered s)

  own : refusal_of s ≡ 0 → place_refusal s out ≡ first_failure (own_checks s out)
  own e = by_checks ∙ if-true (first_failure (own_checks s out)) (refusal_of s) (eq-eqb (refusal_of s) 0 e)

  -- refused with another number than 16: nothing is altered
  left_alone : {k : ℕ} → k ≡ place_refusal s out → (k ≡ 0 → ⊥) → (k ≡ 16 → ⊥) → Placed s out k out
  unfolding placed_of
  left_alone {k} e h d = record {
    answer = e;
    bytes = λ _. sym (if-false (smallest I) out (ne_eqb (place_refusal s out) 0 (λ z. h (e ∙ z))));
    named = λ z. absurd (d z);
  }

  pub unread : {k : ℕ} → k ≡ refusal_of s → (k ≡ 0 → ⊥) → Placed s out k out
  unread e h =
      left_alone (e ∙ sym (by_checks ∙ if-false (first_failure (own_checks s out)) (refusal_of s) (ne_eqb (refusal_of s) 0 (λ z. h (e ∙ z))))) h
      (λ z. sheet_not_16 s (sym e ∙ z))

  module _ (e : refusal_of s ≡ 0) where
    pub unfit : (length out ≡ I.node_count → ⊥) → Placed s out 8 out
    unfolding own_checks
    unfit d = left_alone (sym (own e ∙ fails (eqb (length out) I.node_count) 8 ((ltb 0 (length (matchings I)), 16) ∷ []) (ne_eqb (length out) I.node_count d))) (λ z. omega arith) (λ z. omega arith)

    module _ (d : length out ≡ I.node_count) where
      by_matchings : place_refusal s out ≡ first_failure ((ltb 0 (length (matchings I)), 16) ∷ [])
      unfolding own_checks
      by_matchings = own e ∙ passes (eqb (length out) I.node_count) 8 ((ltb 0 (length (matchings I)), 16) ∷ []) (eq-eqb (length out) I.node_count d)

      pub settled : {x : List ℕ} {rest : List (List ℕ)} → matchings I ≡ x ∷ rest → Placed s out 0 x
      unfolding placed_of first_failure
      settled {x} {rest} q =
          let some : ltb 0 (length (matchings I)) ≡ true = lt-ltb 0 (length (matchings I)) (rw q (omega arith)) in
          let r : place_refusal s out ≡ 0 = by_matchings ∙ passes (ltb 0 (length (matchings I))) 16 [] some in
          record { answer = sym r; bytes = λ _. sym (if-true (smallest I) out (eq-eqb (place_refusal s out) 0 r) ∙ smallest_is I q); named = λ z. absurd (omega arith) }

      pub obstructed : {x : List ℕ} → matchings I ≡ [] → Obstruction I x → Placed s out 16 x
      unfolding first_failure
      obstructed q o = record {
        answer = sym (by_matchings ∙ ap (λ (l : List (List ℕ)). first_failure ((ltb 0 (length l), 16) ∷ [])) q);
        bytes = λ z. absurd (z refl);
        named = λ _. o;
      }
