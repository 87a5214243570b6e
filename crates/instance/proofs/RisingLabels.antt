-- The labels of one node: if each is below L or 255 and lies above the one before it, then a 255 is the last.
-- Assumes nothing.
use Rattle.std.proofs.Common.{◌≡◌, ℕ, suc, ◌-◌, ◌<◌, ◌≤◌, Bool, true, false, not, ◌&&◌, ◌||◌, eqb, ltb, sym, ap, ◌∙◌, ⊎_elim, arith, ltb-true, eq-eqb, ne_eqb, eqb-true}
use borrow.Author.Tests.{eqb-false}
use Rattle.integers.specs.Checks.{below}
use Rattle.integers.proofs.Places.{by-test, both_ways, and_true, and_both, or_split, left_true, right_true}
use Rattle.integers.proofs.Checks.{below_at, below_all, later_at}
use Rattle.instance.specs.Instance.{exclusive}

-- ---- every label but 255 is exclusive

pub exclusive_is : (l : ℕ) → (l ≡ 255 → ⊥) → exclusive l ≡ true
unfolding exclusive
exclusive_is l d = ap not (ne_eqb l 255 d)

pub shared_not : (l : ℕ) → l ≡ 255 → exclusive l ≡ true → ⊥
unfolding exclusive
shared_not l v x = let q : not (eqb l 255) ≡ false = ap not (eq-eqb l 255 v) in let y : true ≡ false = sym x ∙ q in let z : ◌≡◌ {A = ℕ} 0 1 = cc in omega arith

pub vanished_is : (l : ℕ) → not (exclusive l) ≡ true → l ≡ 255
vanished_is l e = by-test (eqb l 255) (eqb-true l 255) (λ t. let q = exclusive_is l (eqb-false l 255 t) in let n : false ≡ true = rw q at e in let z : ◌≡◌ {A = ℕ} 0 1 = cc in omega arith)

-- ---- the labels f of a node, d in all

module _ (f : ℕ → ℕ) (L : ℕ) where
  abbrev rising : ℕ → Bool
  rising k = eqb k 0 || ltb (f (k - 1)) (f k)

  -- below L or 255, and above the one before it
  abbrev pub either : ℕ → Bool
  either k = (ltb (f k) L || not (exclusive (f k))) && rising k

  -- below L or 255 and the last, and above the one before it
  abbrev pub ordered : ℕ → ℕ → Bool
  ordered d k = (ltb (f k) L || (not (exclusive (f k)) && eqb (suc k) d)) && rising k

  module _ (d : ℕ) (few : L ≤ 255) where
    -- none that is below L or 255 lies above a 255
    none_above : (k : ℕ) → not (exclusive (f k)) ≡ true → either (suc k) ≡ true → ⊥
    none_above k v e =
        let (a, b) = and_true (ltb (f (suc k)) L || not (exclusive (f (suc k)))) (rising (suc k)) e in
        let z : suc k - 1 ≡ k = omega arith in
        let r : f k < f (suc k) = rw z at (ltb-true (f (suc k - 1)) (f (suc k)) (later_at (λ k. ltb (f (k - 1)) (f k)) k b)) in
        let h = vanished_is (f k) v in
        ⊎_elim (λ (t : ltb (f (suc k)) L ≡ true). let q = ltb-true (f (suc k)) L t in omega arith) (λ (t : not (exclusive (f (suc k))) ≡ true). let q = vanished_is (f (suc k)) t in omega arith)
        (or_split (ltb (f (suc k)) L) (not (exclusive (f (suc k)))) a)

    last : below d either ≡ true → (k : ℕ) → k < d → not (exclusive (f k)) ≡ true → suc k ≡ d
    last h k l v =
        by-test (eqb (suc k) d) (eqb-true (suc k) d)
        (λ t. let n : suc k ≡ d → ⊥ = eqb-false (suc k) d t in absurd (none_above k v (below_at d either h (suc k) (omega arith))))

    pub last_by_rising : below d either ≡ below d (ordered d)
    last_by_rising =
        both_ways (below d either) (below d (ordered d))
        (λ h. below_all d (ordered d) (λ k l. let (a, b) = and_true (ltb (f k) L || not (exclusive (f k))) (rising k) (below_at d either h k l) in and_both (strict h k l a) b))
        (λ h. below_all d either (λ k l. let (a, b) = and_true (ltb (f k) L || (not (exclusive (f k)) && eqb (suc k) d)) (rising k) (below_at d (ordered d) h k l) in and_both (loose k a) b))
      where
        strict : below d either ≡ true → (k : ℕ) → k < d → (ltb (f k) L || not (exclusive (f k))) ≡ true → (ltb (f k) L || (not (exclusive (f k)) && eqb (suc k) d)) ≡ true
        strict h k l a =
            ⊎_elim (λ (t : ltb (f k) L ≡ true). left_true _ t) (λ (v : not (exclusive (f k)) ≡ true). right_true (ltb (f k) L) (and_both v (eq-eqb (suc k) d (last h k l v))))
            (or_split (ltb (f k) L) (not (exclusive (f k))) a)

        loose : (k : ℕ) → (ltb (f k) L || (not (exclusive (f k)) && eqb (suc k) d)) ≡ true → (ltb (f k) L || not (exclusive (f k))) ≡ true
        loose k a =
            ⊎_elim (λ (t : ltb (f k) L ≡ true). left_true _ t) (λ (v : (not (exclusive (f k)) && eqb (suc k) d) ≡ true). right_true (ltb (f k) L) (and_true (not (exclusive (f k))) (eqb (suc k) d) v).0)
            (or_split (ltb (f k) L) (not (exclusive (f k)) && eqb (suc k) d) a)
