-- A table of 256 places, one a label: one place set, and each label's least as the places are gone through.
-- Assumes nothing.
use Rattle.std.proofs.Common.{◌≡◌, ℕ, ◌+◌, ◌<◌, Bool, cond, eqb, List, [], ◌∷◌, ◌++◌, map, get_or, set, replicate, ℤ, pos, sym, refl, ap, ◌∙◌, arith, length-set, get_or-set_other, get_or-set_same, ext_get_or, eq-eqb, ne_eqb, eqb-true}
use mathlib.Core.List.{map-append}
use borrow.Author.Tests.{eqb-false}
use Rattle.integers.specs.Least.{min_ℤ, least_from}
use Rattle.integers.specs.Places.{range, select, tabulate}
use Rattle.integers.proofs.Places.{by-test, if-true, if-false, length-tabulate, get_d_tabulate}
use Rattle.integers.proofs.Ranges.{range_add, select_append}
use Rattle.integers.proofs.Least.{least_append, least_min}
use Rattle.instance.specs.Instance.{Instance}
use Rattle.messages.specs.Bounds.{label_below, least_labels}
use Rattle.integers.proofs.Filling.{tabulate_same}

pub tabulate_ext : {A : Type 0} (n : ℕ) (f g : ℕ → A) → ((k : ℕ) → k < n → f k ≡ g k) → (d : A) → tabulate n f ≡ tabulate n g
tabulate_ext n f g h d =
    let a = length-tabulate n f in
    let b = length-tabulate n g in
    ext_get_or d (tabulate n f) (tabulate n g) (omega arith)
    (λ k l. get_d_tabulate n f k d (omega arith) ∙ h k (omega arith) ∙ sym (get_d_tabulate n g k d (omega arith)))

-- one place set
pub tabulate-set : {A : Type 0} (n : ℕ) (f : ℕ → A) (i : ℕ) (v d : A) → i < n → set (tabulate n f) i v ≡ tabulate n (λ k. cond (eqb k i) v (f k))
tabulate-set n f i v d h =
    let g : ℕ → _ = (λ k. cond (eqb k i) v (f k)) in
    let a = length-tabulate n f in
    let b = length-tabulate n g in
    let c = length-set (tabulate n f) i v in
    ext_get_or d (set (tabulate n f) i v) (tabulate n g) (omega arith)
    (λ k l. by-test (eqb k i)
    (λ t. let e : k ≡ i = eqb-true k i t in
    rw e (get_or-set_same (tabulate n f) i v d (omega arith) ∙ sym (get_d_tabulate n g i d h ∙ rw (eq-eqb i i refl))))
    (λ t. get_or-set_other (tabulate n f) i k v d (eqb-false k i t) ∙ get_d_tabulate n f k d (omega arith) ∙ sym (get_d_tabulate n g k d (omega arith) ∙ rw t)))

module _ (I : Instance) (labels : List ℤ) where
  pub leasts_none : replicate 256 (pos 0) ≡ least_labels I labels 0
  unfolding least_labels range select least_from
  leasts_none = sym (tabulate_same 256 (pos 0))

  pub leasts_at : (i l : ℕ) → l < 256 → get_or (least_labels I labels i) l (pos 0) ≡ label_below I labels i l
  unfolding least_labels
  leasts_at i l h = get_d_tabulate 256 (label_below I labels i) l (pos 0) h

  -- one place more: the label there takes its cost in, the others are as they were
  below_more : (i l : ℕ) → label_below I labels (i + 1) l ≡ cond (eqb l (I.label i)) (min_ℤ (get_or labels i (pos 0)) (label_below I labels i l)) (label_below I labels i l)
  unfolding range select least_from
  below_more i l =
      let t : ℕ → Bool = (λ j. eqb (I.label j) l) in
      let f : ℕ → ℤ = (λ j. get_or labels j (pos 0)) in
      let z : 0 + i ≡ i = omega arith in
      ap (λ (m : List ℕ). least_from (pos 0) (map f (select t m))) (range_add 0 i 1 ∙ ap (λ (k : ℕ). range 0 i ++ range k 1) z)
      ∙ ap (λ (m : List ℕ). least_from (pos 0) (map f m)) (select_append t (range 0 i) (i ∷ []))
      ∙ ap (least_from (pos 0)) (map-append f (select t (range 0 i)) (select t (i ∷ [])))
      ∙ least_append (pos 0) (map f (select t (range 0 i))) (map f (select t (i ∷ [])))
      ∙ by-test (eqb (I.label i) l)
      (λ q. let e : I.label i ≡ l = eqb-true (I.label i) l q in
      rw (q, eq-eqb l (I.label i) (sym e)) (least_min (f i) (pos 0) (map f (select t (range 0 i)))))
      (λ q. rw (q, ne_eqb l (I.label i) (λ e. eqb-false (I.label i) l q (sym e))))

  pub leasts_more : (i l : ℕ) → l ≡ I.label i → l < 256 → (x : ℤ) → x ≡ min_ℤ (get_or labels i (pos 0)) (get_or (least_labels I labels i) l (pos 0)) → set (least_labels I labels i) l x ≡ least_labels I labels (i + 1)
  unfolding least_labels
  leasts_more i l e h x q =
      let y : x ≡ min_ℤ (get_or labels i (pos 0)) (label_below I labels i l) = q ∙ ap (min_ℤ (get_or labels i (pos 0))) (leasts_at i l h) in
      tabulate-set 256 (label_below I labels i) l x (pos 0) h
      ∙ tabulate_ext 256 (λ k. cond (eqb k l) x (label_below I labels i k)) (label_below I labels (i + 1))
      (λ k _. by-test (eqb k l)
      (λ t. let d : k ≡ l = eqb-true k l t in
      if-true x (label_below I labels i k) t ∙ y ∙ ap (λ (z : ℕ). min_ℤ (get_or labels i (pos 0)) (label_below I labels i z)) (sym d)
      ∙ sym (below_more i k ∙ if-true (min_ℤ (get_or labels i (pos 0)) (label_below I labels i k)) (label_below I labels i k) (eq-eqb k (I.label i) (d ∙ e))))
      (λ t. let d : k ≡ l → ⊥ = eqb-false k l t in
      if-false x (label_below I labels i k) t
      ∙ sym (below_more i k ∙ if-false (min_ℤ (get_or labels i (pos 0)) (label_below I labels i k)) (label_below I labels i k) (ne_eqb k (I.label i) (λ z. d (z ∙ sym e))))))
      (pos 0)

  -- the same of a table that is known to be that
  pub leasts_turn : {least : List ℤ} {i l : ℕ} → least ≡ least_labels I labels i → l ≡ I.label i → l < 256 → {x : ℤ} → x ≡ min_ℤ (get_or labels i (pos 0)) (get_or least l (pos 0)) → set least l x ≡ least_labels I labels (i + 1)
  leasts_turn {least} {i} {l} q e h {x} v =
      ap (λ (m : List ℤ). set m l x) q
      ∙ leasts_more i l e h x (v ∙ ap (λ (m : List ℤ). min_ℤ (get_or labels i (pos 0)) (get_or m l (pos 0))) q)
