-- The least usable cell of an edge's table, found stretch by stretch between the unusable cells.
-- Assumes nothing.
use Rattle.std.proofs.Common.{◌≡◌, ℕ, ◌+◌, ◌-◌, ◌*◌, ◌<◌, ◌≤◌, Bool, true, false, not, eqb, ltb, None, List, ◌++◌, map, length, get_or, take, drop, ℤ, pos, sym, refl, ap, ◌∙◌, subst, add-mul, append-nil, arith, ltb-false, ltb-true, eq-eqb, ne_eqb}
use mathlib.Core.List.{map-append}
use lib.ListN.{length-map}
use Rattle.integers.specs.Least.{least_from, least_of}
use Rattle.integers.specs.Sum.{Within}
use Rattle.integers.specs.Places.{range, select}
use Rattle.integers.proofs.Least.{least_append}
use Rattle.integers.proofs.Places.{by-test, range_mem}
use Rattle.integers.proofs.Ranges.{range_add, range-part, select_append, select_all, select_none}
use Rattle.integers.proofs.Rows.{within_map}
use Rattle.rules.specs.Calls.{cost_limit}
use Rattle.instance.specs.Instance.{usable}
use Rattle.messages.specs.EdgeMessage.{usable_in, usable_of, usable_cells, unbounded, Ends}
use Rattle.messages.specs.Clash.{Skips}
use Rattle.messages.proofs.ClashLaws.{skips_past}
use Rattle.messages.proofs.RowLaws.{least_parts}
use Rattle.messages.proofs.UsableLaws.{usable_at, least_bounded}

-- ---- the least of the elements at whose places a test passes

abbrev passed : (ℕ → Bool) → List ℤ → ℕ → List ℤ
passed t l n = map (λ j. get_or l j (pos 0)) (select t (range 0 n))

module _ (t : ℕ → Bool) (l : List ℤ) (a n : ℕ) where
  passed_add : passed t l (a + n) ≡ passed t l a ++ map (λ j. get_or l j (pos 0)) (select t (range a n))
  passed_add =
      let z : 0 + a ≡ a = omega arith in
      ap (map (λ j. get_or l j (pos 0)))
      (ap (select t) (range_add 0 a n ∙ ap (λ (i : ℕ). range 0 a ++ range i n) z) ∙ select_append t (range 0 a) (range a n))
      ∙ map-append (λ j. get_or l j (pos 0)) (select t (range 0 a)) (select t (range a n))

  passed_all : a + n ≤ length l → ((j : ℕ) → a ≤ j → j < a + n → t j ≡ true) → passed t l (a + n) ≡ passed t l a ++ take n (drop a l)
  passed_all h f =
      passed_add
      ∙ ap (λ (m : List ℤ). passed t l a ++ m)
      (ap (map (λ j. get_or l j (pos 0))) (select_all t (range a n) (λ i m. let r = range_mem a n m in f i r.0 r.1)) ∙ range-part l (pos 0) a n h)

  passed_none : ((j : ℕ) → a ≤ j → j < a + n → t j ≡ false) → passed t l (a + n) ≡ passed t l a
  passed_none f =
      passed_add
      ∙ ap (λ (m : List ℕ). passed t l a ++ map (λ j. get_or l j (pos 0)) m) (select_none t (range a n) (λ i m. let r = range_mem a n m in f i r.0 r.1))
      ∙ append-nil (passed t l a)

-- `best` is the least of x and of those before `from`; from there up to `upto` each place passes
pub record Gathered (t : ℕ → Bool) (x : ℤ) (l : List ℤ) (best : ℤ) (from upto : ℕ) : Type 0 where
  pub order : from ≤ upto
  pub inside : upto ≤ length l
  pub told : best ≡ least_from x (passed t l from)
  pub clear : (j : ℕ) → from ≤ j → j < upto → t j ≡ true

gathered_none : (t : ℕ → Bool) (x : ℤ) (l : List ℤ) → Gathered t x l x 0 0
unfolding range select least_from
gathered_none t x l = record { order = omega arith; inside = omega arith; told = refl; clear = λ j h k. absurd (omega arith) }

module _ {t : ℕ → Bool} {x : ℤ} {l : List ℤ} {best : ℤ} {from upto : ℕ} (g : Gathered t x l best from upto) where
  gathered_clear : {n : ℕ} → upto ≤ n → n ≤ length l → ((j : ℕ) → upto ≤ j → j < n → t j ≡ true) → Gathered t x l best from n
  gathered_clear {n} h b f =
      record {
        order = omega (arith, g.order);
        inside = b;
        told = g.told;
        clear = λ j a k. by-test (ltb j upto) (λ s. g.clear j a (ltb-true j upto s)) (λ s. f j (ltb-false j upto s) k);
      }

  -- the least with the stretch up to `upto`
  gathered_least : least_from best (take (upto - from) (drop from l)) ≡ least_from x (passed t l upto)
  gathered_least =
      let n = upto - from in
      let part = take n (drop from l) in
      let e : from + n ≡ upto = omega (arith, g.order) in
      ap (λ (b : ℤ). least_from b part) g.told ∙ sym (least_append x (passed t l from) part ∙ least_parts x (passed t l from) part)
      ∙ ap (least_from x) (sym (passed_all t l from n (omega (arith, g.inside)) (λ j a b. g.clear j a (omega arith))) ∙ ap (passed t l) e)

  -- past a place that does not pass
  gathered_cut : upto < length l → t upto ≡ false → {best' : ℤ} → best' ≡ least_from best (take (upto - from) (drop from l)) → Gathered t x l best' (upto + 1) (upto + 1)
  gathered_cut h f e =
      record {
        order = omega arith;
        inside = omega arith;
        told = e ∙ gathered_least ∙ ap (least_from x) (sym (passed_none t l upto 1 (λ j a b. let q : j ≡ upto = omega arith in ap t q ∙ f)));
        clear = λ j a b. absurd (omega arith);
      }

-- ---- the table of an edge

pub usable_some : {b : Bool} {own other : List ℕ} {cells : List ℤ} → Ends b own other cells → 0 < length (usable_cells b own other cells)
usable_some {b} {own} {other} {cells} e =
    let z = length-map (usable_of b own other (length cells)) (λ i. get_or cells i (pos 0)) in omega (arith, e.some)

-- a walk over the rows, of which k are behind
pub record Passing (low high : List ℕ) (cells : List ℤ) (best : ℤ) (from k : ℕ) : Type 0 where
  pub inside : k ≤ length low
  pub gathered : Gathered (usable_in true low high) unbounded cells best from (k * length high)

pub passing_none : (low high : List ℕ) (cells : List ℤ) → Passing low high cells unbounded 0 0
passing_none low high cells =
    let z : 0 ≡ 0 * length high = omega arith in
    record { inside = omega arith; gathered = subst (Gathered (usable_in true low high) unbounded cells unbounded 0) z (gathered_none (usable_in true low high) unbounded cells) }

module _ {low high : List ℕ} {cells : List ℤ} {best : ℤ} {from k : ℕ} (e : Ends true low high cells) (g : Passing low high cells best from k) where
  abbrev row : ℕ
  row = k * length high

  pub passing_done : length low ≤ k → Within cost_limit cells → least_from best (take (length cells - from) (drop from cells)) ≡ least_of (usable_cells true low high cells)
  passing_done h w =
      let q : k ≡ length low = omega (arith, g.inside) in
      let z : length cells ≡ row = e.shape.size ∙ sym (ap (λ (n : ℕ). n * length high) q) in
      gathered_least (gathered_clear g.gathered (omega arith) (omega arith) (λ j a b. absurd (omega arith)))
      ∙ least_bounded (usable_cells true low high cells) (within_map cost_limit (λ j. get_or cells j (pos 0)) (usable_of true low high (length cells)) w) (usable_some e)

  -- the next row, which lies in the table: what is unusable in it, if anything, is the cell at `skip`
  module _ (skip : ℕ) (h : k < length low) (m : row + length high ≤ length cells) (z : (p : ℕ) → p < length high → usable (get_or low k 0) (get_or high p 0) ≡ not (eqb p skip)) where
    row_test : (j : ℕ) → row ≤ j → j < row + length high → usable_in true low high j ≡ not (eqb (j - row) skip)
    row_test j a b =
        let p = j - row in
        let q : j ≡ k * length high + p = omega arith in
        ap (usable_in true low high) q ∙ usable_at true low high k p (omega arith) ∙ z p (omega arith)

    row_clear : (j : ℕ) → row ≤ j → j < row + length high → (j ≡ row + skip → ⊥) → usable_in true low high j ≡ true
    row_clear j a b d = row_test j a b ∙ ap not (ne_eqb (j - row) skip (λ q. d (omega arith)))

    passing_more : {best' : ℤ} {from' : ℕ} → Gathered (usable_in true low high) unbounded cells best' from' (row + length high)
        → Passing low high cells best' from' (k + 1)
    passing_more {best'} {from'} f =
        let next : row + length high ≡ (k + 1) * length high = omega (arith, add-mul k 1 (length high)) in
        record { inside = omega arith; gathered = subst (Gathered (usable_in true low high) unbounded cells best' from') next f }

    passing_clear : length high ≤ skip → Passing low high cells best from (k + 1)
    passing_clear l = passing_more (gathered_clear g.gathered (omega arith) m (λ j a b. row_clear j a b (λ q. omega arith)))

    pub passing_skip : skip < length high → {best' : ℤ} → best' ≡ least_from best (take (row + skip - from) (drop from cells))
        → Passing low high cells best' (row + skip + 1) (k + 1)
    passing_skip l t =
        let before = gathered_clear g.gathered {n = row + skip} (omega arith) (omega arith) (λ j a b. row_clear j a (omega arith) (λ q. omega arith)) in
        let here = row_test (row + skip) (omega arith) (omega arith) ∙ ap not (eq-eqb (row + skip - row) skip (omega arith)) in
        passing_more (gathered_clear (gathered_cut before (omega arith) here t) (omega arith) m (λ j a b. row_clear j (omega arith) b (λ q. omega arith)))

  -- the same where all of it is usable
  pub passing_whole : k < length low → row + length high ≤ length cells → Skips high (get_or low k 0) None → Passing low high cells best from (k + 1)
  passing_whole h m x = passing_clear (length high) h m (skips_past x) (omega arith)
