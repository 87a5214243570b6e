-- What other crates know of an index: that `index_of` is one, and what its rows hold.
-- Assumes nothing.
use mathlib.Core.Path.{◌≡◌, sym, ap, ◌∙◌, subst}
use mathlib.Core.Bool.{◌&&◌}
use mathlib.Core.List.{List}
use Prim.Native.Nat.{ℕ, suc, ◌+◌, ◌*◌, ◌≤◌, ◌<◌}
use native.Mathlib.Nat.{mul-le-mul_left, mul-suc}
use native.Mathlib.Omega.{arith}
use lib.Dec.{eqb}
use lib.ListN.{length, get_or, take, drop, length-map, length-drop, length-take}
use lib.Seq.{length-take-le, get_or-take, get_or-drop, take_all, ext_get_or}
use Rattle.integers.specs.Places.{range, select}
use Rattle.integers.proofs.Places.{length-range, get_or-range}
use Rattle.integers.proofs.Ranges.{range-part}
use Rattle.index.specs.Index.{thing, key_at, row_of, index_of, having, many, held, Few, Indexed, Indexable, Things}
use Rattle.index.proofs.Lists.{having_ext, at_place}
use Rattle.index.proofs.Filling.{rows_size, rows_at, rows_many, cell_of, filled, filled_all, counted_by}

-- ---- rows of any index

-- no row has more than 64 things
pub index_few : (bytes : List ℕ) (stride : ℕ) → Few (index_of bytes stride)
unfolding index_of row_of
index_few bytes stride l h =
    let all = select (λ i. thing (length bytes) stride i && eqb (key_at bytes stride i) l) (range 0 65_536) in
    let e : many (index_of bytes stride) l ≡ length (take 64 all) = rows_many (row_of bytes stride) l h in
    omega (arith, length-take 64 all)

-- a row is a part of the index
pub held_part : (index : List ℕ) (l : ℕ) → 65 * l + 1 + many index l ≤ length index → take (many index l) (drop (65 * l + 1) index) ≡ held index l
held_part index l h = sym (range-part index 0 (65 * l + 1) (many index l) h)

-- ---- the index of some bytes

module _ (key : ℕ → ℕ) (m : ℕ) (roomy : (l : ℕ) → l < 64 → length (having key l m) ≤ 64) where
  abbrev index : List ℕ
  index = filled key m

  at : (l j : ℕ) → l < 64 → j < 65 → get_or index (65 * l + j) 0 ≡ cell_of (having key l m) j
  at l j h b = rows_at (λ l. take 64 (having key l m)) l j h b ∙ ap (λ (r : List ℕ). cell_of r j) (take_all 64 (having key l m) (roomy l h))

  many_at : (l : ℕ) → l < 64 → many index l ≡ length (having key l m)
  many_at l h = rows_many (λ l. take 64 (having key l m)) l h ∙ ap length (take_all 64 (having key l m) (roomy l h))

  thing_at : (l j : ℕ) → l < 64 → j < 64 → get_or index (65 * l + 1 + j) 0 ≡ get_or (having key l m) j 0
  thing_at l j h b = let z : 65 * l + 1 + j ≡ 65 * l + suc j = omega arith in ap (λ (p : ℕ). get_or index p 0) z ∙ at l (suc j) h (omega arith)

  row_at : (l : ℕ) → l < 64 → held index l ≡ having key l m
  row_at l h =
      let c = many_at l h in
      let r = roomy l h in
      let size = rows_size (λ l. take 64 (having key l m)) in
      let long : length (take (many index l) (drop (65 * l + 1) index)) ≡ many index l = length-take-le (many index l) (drop (65 * l + 1) index) (simp length-drop (omega arith)) in
      sym (held_part index l (omega arith))
      ∙ ext_get_or 0 (take (many index l) (drop (65 * l + 1) index)) (having key l m) (long ∙ c) (λ j b.
      get_or-take (many index l) (drop (65 * l + 1) index) j 0 (omega arith) ∙ get_or-drop (65 * l + 1) index j 0 ∙ thing_at l j h (omega arith))

  filled_indexed : Indexed key m index
  filled_indexed = record {
    size = rows_size (λ l. take 64 (having key l m));
    few = λ l h. let c = many_at l h in let r = roomy l h in omega arith;
    rows = row_at;
    inside = λ l j h b. let c = many_at l h in
        let r = roomy l h in
        let e = thing_at l j h (omega arith) in
        let i = (at_place key l m j (omega arith)).2 in omega arith;
  }

-- keys that agree have one index
pub indexed_ext : {f g : ℕ → ℕ} {m : ℕ} {index : List ℕ} → ((i : ℕ) → i < m → f i ≡ g i) → Indexed f m index → Indexed g m index
indexed_ext {f} {g} {m} {index} h x = record {
  size = x.size;
  few = x.few;
  rows = λ l b. x.rows l b ∙ having_ext f g m h l;
  inside = x.inside;
}

pub indexed_of : {bytes : List ℕ} {stride : ℕ} {key : ℕ → ℕ} {m : ℕ} → Indexable bytes stride key m → Indexed key m (index_of bytes stride)
indexed_of {bytes} {stride} {key} {m} w =
    let roomy : (l : ℕ) → l < 64 → length (having (key_at bytes stride) l m) ≤ 64 = (λ l h. let r = w.roomy l h in omega (arith, ap length (having_ext (key_at bytes stride) key m w.keys l))) in
    let things : Things (length bytes) stride m = subst (Things (length bytes) stride) (let f = w.few in omega arith) (counted_by (length bytes) stride m w.all w.each) in
    indexed_ext w.keys (rw (filled_all bytes stride things) at (filled_indexed (key_at bytes stride) m roomy))

-- the same of a part of a list
pub indexed_part : (s : List ℕ) (from size stride : ℕ) {key : ℕ → ℕ} {m : ℕ} → from + size ≤ length s → size ≤ stride * m → stride * m < size + stride → m ≤ 65_536
    → ((i : ℕ) → i < m → get_or s (from + stride * i) 0 ≡ key i) → ((l : ℕ) → l < 64 → length (having key l m) ≤ 64) → Indexed key m (index_of (take size (drop from s)) stride)
indexed_part s from size stride {key} {m} fits all each few keys roomy =
    let long : length (take size (drop from s)) ≡ size = length-take-le size (drop from s) (simp length-drop (omega arith)) in
    indexed_of (record {
      all = omega arith;
      each = omega arith;
      few = few;
      keys = λ i h. let q = mul-le-mul_left {m = suc i} {n = m} stride h in
          let r = mul-suc stride i in get_or-take size (drop from s) (stride * i) 0 (omega arith) ∙ get_or-drop from s (stride * i) 0 ∙ keys i h;
      roomy = roomy;
    })

-- ---- its rows

pub length-held : (index : List ℕ) (l : ℕ) → length (held index l) ≡ many index l
length-held index l = length-map (range (65 * l + 1) (many index l)) (λ j. get_or index j 0) ∙ length-range (65 * l + 1) (many index l)

pub held_at : (index : List ℕ) (l j : ℕ) → j < many index l → get_or (held index l) j 0 ≡ get_or index (65 * l + 1 + j) 0
held_at index l j h = get_or-range (λ i. get_or index i 0) (65 * l + 1) (many index l) j 0 h

-- a row has as many things as there are
pub many_is : {key : ℕ → ℕ} {m : ℕ} {index : List ℕ} → Indexed key m index → (l : ℕ) → l < 64 → many index l ≡ length (having key l m)
many_is {index = index} x l h = sym (ap length (sym (x.rows l h)) ∙ length-held index l)
