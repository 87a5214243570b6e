-- An index made one thing after another: with the things below m entered it is `filled key m`.
-- Assumes nothing.
use mathlib.Core.Path.{◌≡◌, refl, sym, ap, ◌∙◌, fun_ext, subst}
use mathlib.Core.Bool.{Bool, true, false, ◌&&◌, and-false}
use mathlib.Core.List.{List, [], ◌∷◌, ◌++◌, append-nil}
use Prim.Native.Nat.{ℕ, zero, suc, ◌+◌, ◌-◌, ◌*◌, ◌/◌, ◌%◌, ◌≤◌, ◌<◌, min}
use native.Mathlib.Nat.{div-add-mod, mod-lt, mul-add-div, mul-add-mod_self_left, div-eq_of_lt, mod-eq_of_lt, mul-le-mul_left, mul-suc}
use native.Mathlib.Omega.{arith}
use borrow.Author.Tests.{eq-eqb, ne_eqb, eqb-true, eqb-false, ltb-true, ltb-false, lt-ltb, le-ltb}
use lib.Dec.{eqb, ltb}
use lib.ListN.{length, get_or, set, take, replicate, length-set, length-take, length-replicate, get_or-replicate, length-append, get_or-append, get_or-eq_default}
use lib.Seq.{get_or-set_same, get_or-set_other, take-append-le, take_all, get_or-append_seam, ext_get_or}
use Rattle.integers.specs.Places.{range, select}
use Rattle.integers.proofs.Places.{by-test, by_cond, and_true, range_mem, length-tabulate, get_d_tabulate}
use Rattle.integers.proofs.Ranges.{range_add, select_append, select_none}
use Rattle.index.specs.Index.{in_rows, thing, key_at, row_of, index_of, having, many, Things, entered}
use Rattle.index.proofs.Lists.{select_ext, select_next, select_past}

-- ---- rows

-- a row's number j
abbrev pub cell_of : List ℕ → ℕ → ℕ
cell_of row j = get_or (length row ∷ row) j 0

pub rows_size : (row : ℕ → List ℕ) → length (in_rows row) ≡ 4160
unfolding in_rows
rows_size row = length-tabulate 4160 (λ p. cell_of (row (p / 65)) (p % 65))

pub rows_at : (row : ℕ → List ℕ) (l j : ℕ) → l < 64 → j < 65 → get_or (in_rows row) (65 * l + j) 0 ≡ cell_of (row l) j
unfolding in_rows
rows_at row l j h b =
    let some : 0 < 65 = omega arith in
    let q : (65 * l + j) / 65 ≡ l = mul-add-div some l j ∙ ap (◌+◌ l) (div-eq_of_lt b) ∙ (let z : l + 0 ≡ l = omega arith in z) in
    let r : (65 * l + j) % 65 ≡ j = mul-add-mod_self_left 65 l j ∙ mod-eq_of_lt b in
    get_d_tabulate 4160 (λ p. cell_of (row (p / 65)) (p % 65)) (65 * l + j) 0 (omega arith) ∙ rw (q, r)

pub rows_many : (row : ℕ → List ℕ) (l : ℕ) → l < 64 → many (in_rows row) l ≡ length (row l)
rows_many row l h = let z : 65 * l ≡ 65 * l + 0 = omega arith in ap (λ (p : ℕ). get_or (in_rows row) p 0) z ∙ rows_at row l 0 h (omega arith)

-- a list that agrees with the rows at each number is them
pub rows_are : (row : ℕ → List ℕ) (index : List ℕ) → length index ≡ 4160 → ((l j : ℕ) → l < 64 → j < 65 → get_or index (65 * l + j) 0 ≡ cell_of (row l) j) → index ≡ in_rows row
rows_are row index size at =
    ext_get_or 0 index (in_rows row) (size ∙ sym (rows_size row)) (λ p h.
    let e : 65 * (p / 65) + p % 65 ≡ p = div-add-mod p 65 in
    let j : p % 65 < 65 = mod-lt p (omega arith) in
    let l : p / 65 < 64 = omega arith in
    subst (λ (i : ℕ). get_or index i 0 ≡ get_or (in_rows row) i 0) e (at (p / 65) (p % 65) l j ∙ sym (rows_at row (p / 65) (p % 65) l j)))

-- ---- the things below m

abbrev pub filled : (ℕ → ℕ) → ℕ → List ℕ
filled key m = in_rows (λ l. take 64 (having key l m))

pub filled_none : (key : ℕ → ℕ) → replicate 4160 0 ≡ filled key 0
unfolding range select
filled_none key = rows_are (λ l. []) (replicate 4160 0) (length-replicate {A = ℕ} 4160 0) (λ l j h b. get_or-replicate {A = ℕ} 4160 (65 * l + j) 0 0 (omega arith) ∙ sym (nothing j))
  where
    nothing : (j : ℕ) → cell_of [] j ≡ 0
    nothing zero = refl
    nothing (suc j) = refl

-- a row with one thing more
cell_other : (row : List ℕ) (m j : ℕ) → (j ≡ 0 → ⊥) → (j ≡ 1 + length row → ⊥) → cell_of row j ≡ cell_of (row ++ m ∷ []) j
cell_other row m zero d e = absurd (d refl)
cell_other row m (suc j) d e =
    by-test (ltb j (length row))
    (λ t. sym (get_or-append row (m ∷ []) 0 j (ltb-true j (length row) t)))
    (λ t. let q = ltb-false j (length row) t in
    let c : length (row ++ m ∷ []) ≡ length row + 1 = length-append row (m ∷ []) in
    let r : length (row ++ m ∷ []) ≤ j = let w : j ≡ length row → ⊥ = (λ z. e (omega arith)) in omega arith in
    get_or-eq_default row 0 q ∙ sym (get_or-eq_default (row ++ m ∷ []) 0 r))

-- where a thing is entered, and where not
module _ (index : List ℕ) (k m : ℕ) where
  pub entered_in : k < 64 → many index k < 64 → entered index k m ≡ set (set index (65 * k + 1 + many index k) m) (65 * k) (many index k + 1)
  unfolding entered
  entered_in h r = rw (lt-ltb k 64 h, lt-ltb (many index k) 64 r)

  pub entered_full : 64 ≤ many index k → entered index k m ≡ index
  unfolding entered
  entered_full r = rw (le-ltb (many index k) 64 r, and-false (ltb k 64))

  pub entered_past : 64 ≤ k → entered index k m ≡ index
  unfolding entered
  entered_past h = rw (le-ltb k 64 h)

module _ (key : ℕ → ℕ) (m : ℕ) where
  abbrev k : ℕ
  k = key m

  abbrev before : List ℕ
  before = filled key m

  abbrev after : List ℕ
  after = entered before k m

  -- the things of a key so far, and how many the row of k has
  abbrev row : ℕ → List ℕ
  row l = having key l m

  abbrev c : ℕ
  c = many before k

  was : (l j : ℕ) → l < 64 → j < 65 → get_or before (65 * l + j) 0 ≡ cell_of (take 64 (row l)) j
  was l j h b = rows_at (λ l. take 64 (row l)) l j h b

  c_is : k < 64 → c ≡ length (take 64 (row k))
  c_is h = rows_many (λ l. take 64 (row l)) k h

  -- what is stored elsewhere stays
  stays : (p : ℕ) → (k < 64 → c < 64 → (p ≡ 65 * k → ⊥) × (p ≡ 65 * k + 1 + c → ⊥)) → get_or after p 0 ≡ get_or before p 0
  unfolding entered
  stays p d =
      by_cond (λ (l : List ℕ). get_or l p 0 ≡ get_or before p 0) (ltb k 64 && ltb c 64)
      (λ t. let (a, b) = and_true (ltb k 64) (ltb c 64) t in
      let o = d (ltb-true k 64 a) (ltb-true c 64 b) in
      get_or-set_other (set before (65 * k + 1 + c) m) (65 * k) p (c + 1) 0 o.0 ∙ get_or-set_other before (65 * k + 1 + c) p m 0 o.1)
      (λ _. refl)

  -- a row of another key
  other : (l j : ℕ) → l < 64 → j < 65 → (k ≡ l → ⊥) → get_or after (65 * l + j) 0 ≡ cell_of (take 64 (having key l (m + 1))) j
  other l j h b d =
      stays (65 * l + j) (λ a r. by-test (ltb k l)
      (λ t. let q = ltb-true k l t in ((λ z. omega arith), (λ z. omega arith)))
      (λ t. let q = ltb-false k l t in ((λ z. d (omega arith)), (λ z. d (omega arith)))))
      ∙ was l j h b ∙ ap (λ (r : List ℕ). cell_of (take 64 r) j) (sym (select_past (λ i. eqb (key i) l) m (ne_eqb k l d)))

  -- the key's own row, full or not
  module _ (h : k < 64) where
    more : having key k (m + 1) ≡ row k ++ m ∷ []
    more = select_next (λ i. eqb (key i) k) m (eq-eqb k k refl)

    longer : length (row k ++ m ∷ []) ≡ length (row k) + 1
    longer = length-append (row k) (m ∷ [])

    full : (j : ℕ) → j < 65 → 64 ≤ c → get_or after (65 * k + j) 0 ≡ cell_of (take 64 (row k ++ m ∷ [])) j
    full j b f =
        stays (65 * k + j) (λ _ r. absurd (omega arith)) ∙ was k j h b
        ∙ ap (λ (r : List ℕ). cell_of r j) (sym (take-append-le 64 (row k) (m ∷ []) (omega (arith, c_is h, length-take 64 (row k)))))

    module _ (r : c < 64) where
      few : length (row k) < 64
      few = omega (arith, c_is h, length-take 64 (row k))

      c_all : c ≡ length (row k)
      c_all = c_is h ∙ ap length (take_all 64 (row k) (let f = few in omega arith))

      stored : after ≡ set (set before (65 * k + 1 + c) m) (65 * k) (c + 1)
      stored = entered_in before k m h r

      roomy : (j : ℕ) → j < 65 → get_or after (65 * k + j) 0 ≡ cell_of (row k ++ m ∷ []) j
      roomy j b =
          let size = rows_size (λ l. take 64 (row l)) in
          let first = set before (65 * k + 1 + c) m in
          let long : length first ≡ length before = length-set before (65 * k + 1 + c) m in
          by-test (eqb j 0)
          (λ t. let z : j ≡ 0 = eqb-true j 0 t in
          let p : 65 * k + j ≡ 65 * k = omega arith in
          ap (λ (i : ℕ). get_or after i 0) p ∙ ap (λ (l : List ℕ). get_or l (65 * k) 0) stored ∙ get_or-set_same first (65 * k) (c + 1) 0 (omega arith)
          ∙ ap (λ (i : ℕ). i + 1) c_all ∙ sym longer ∙ ap (cell_of (row k ++ m ∷ [])) (sym z))
          (λ t. let d = eqb-false j 0 t in
          by-test (eqb j (1 + c))
          (λ u. let z : j ≡ 1 + c = eqb-true j (1 + c) u in
          let p : 65 * k + j ≡ 65 * k + 1 + c = omega arith in
          let y : j ≡ suc (length (row k)) = omega (arith, c_all) in
          ap (λ (i : ℕ). get_or after i 0) p ∙ ap (λ (l : List ℕ). get_or l (65 * k + 1 + c) 0) stored
          ∙ get_or-set_other first (65 * k) (65 * k + 1 + c) (c + 1) 0 (λ w. omega arith) ∙ get_or-set_same before (65 * k + 1 + c) m 0 (omega arith)
          ∙ sym (ap (cell_of (row k ++ m ∷ [])) y ∙ get_or-append_seam (row k) m [] 0))
          (λ u. let e = eqb-false j (1 + c) u in
          stays (65 * k + j) (λ _ _. ((λ w. d (omega arith)), (λ w. e (omega arith))))
          ∙ was k j h b ∙ ap (λ (r : List ℕ). cell_of r j) (take_all 64 (row k) (let f = few in omega arith))
          ∙ cell_other (row k) m j d (λ w. e (omega (arith, c_all)))))

    own : (j : ℕ) → j < 65 → get_or after (65 * k + j) 0 ≡ cell_of (take 64 (having key k (m + 1))) j
    own j b =
        by-test (ltb c 64)
        (λ t. let r = ltb-true c 64 t in roomy r j b ∙ ap (λ (r : List ℕ). cell_of r j) (sym (take_all 64 (row k ++ m ∷ []) (let f = few r in omega (arith, longer)))))
        (λ t. full j b (ltb-false c 64 t))
        ∙ ap (λ (r : List ℕ). cell_of (take 64 r) j) (sym more)

  after_size : length after ≡ 4160
  unfolding entered
  after_size =
      by_cond (λ (l : List ℕ). length l ≡ 4160) (ltb k 64 && ltb c 64)
      (λ _. length-set (set before (65 * k + 1 + c) m) (65 * k) (c + 1) ∙ length-set before (65 * k + 1 + c) m ∙ rows_size (λ l. take 64 (row l)))
      (λ _. rows_size (λ l. take 64 (row l)))

  -- one thing more
  pub filled_more : after ≡ filled key (m + 1)
  filled_more =
      rows_are (λ l. take 64 (having key l (m + 1))) after after_size (λ l j h b.
      by-test (eqb k l)
      (λ t. let q : k ≡ l = eqb-true k l t in subst (λ (i : ℕ). get_or after (65 * i + j) 0 ≡ cell_of (take 64 (having key i (m + 1))) j) q (own (omega arith) j b))
      (λ t. other l j h b (eqb-false k l t)))

-- ---- how many things there are

pub thing_is : (size stride i : ℕ) → thing size stride i ≡ true → stride * i < size
unfolding thing
thing_is size stride i e = ltb-true (stride * i) size (and_true (ltb 0 stride) (ltb (stride * i) size) e).1

pub thing_yes : (size stride i : ℕ) → 0 < stride → stride * i < size → thing size stride i ≡ true
unfolding thing
thing_yes size stride i s h = rw (lt-ltb 0 stride s, lt-ltb (stride * i) size h)

pub thing_no : (size stride i : ℕ) → size ≤ stride * i → thing size stride i ≡ false
unfolding thing
thing_no size stride i h = rw (le-ltb (stride * i) size h) (and-false (ltb 0 stride))

no_stride : (size stride i : ℕ) → stride ≡ 0 → thing size stride i ≡ false
unfolding thing
no_stride size stride i z = rw (le-ltb 0 stride (omega arith))

-- with all things entered, the index is whole
pub filled_all : (bytes : List ℕ) (stride : ℕ) {m : ℕ} → Things (length bytes) stride m → filled (key_at bytes stride) m ≡ index_of bytes stride
unfolding index_of row_of
filled_all bytes stride {m} w = ap in_rows (fun_ext (λ l. ap (take 64) (sym (rows l))))
  where
    rows : (l : ℕ) → select (λ i. thing (length bytes) stride i && eqb (key_at bytes stride i) l) (range 0 65_536) ≡ having (key_at bytes stride) l m
    rows l =
        let t : ℕ → Bool = (λ i. thing (length bytes) stride i && eqb (key_at bytes stride i) l) in
        let f = w.few in
        let z : 65_536 ≡ m + (65_536 - m) = omega arith in
        ap (λ (n : ℕ). select t (range 0 n)) z ∙ ap (select t) (range_add 0 m (65_536 - m)) ∙ select_append t (range 0 m) (range (0 + m) (65_536 - m))
        ∙ ap (λ (r : List ℕ). select t (range 0 m) ++ r) (select_none t (range (0 + m) (65_536 - m)) (λ i b.
        let c = range_mem (0 + m) (65_536 - m) b in ap (λ (x : Bool). x && eqb (key_at bytes stride i) l) (w.all i (omega arith) (omega arith))))
        ∙ append-nil (select t (range 0 m))
        ∙ select_ext t (λ i. eqb (key_at bytes stride i) l) (range 0 m) (λ i b. let c = range_mem 0 m b in ap (λ (x : Bool). x && eqb (key_at bytes stride i) l) (w.each i (omega arith)))

-- ---- the count

pub counted_none : (size stride : ℕ) → stride ≡ 0 → Things size stride 0
counted_none size stride z = record { few = omega arith; each = λ i h. absurd (omega arith); all = λ i _ _. no_stride size stride i z }

-- k is the length by the stride, rounded up
pub counted_by : (size stride k : ℕ) → size ≤ stride * k → stride * k < size + stride → Things size stride (min k 65_536)
counted_by size stride k all each = record {
  few = omega arith;
  each = λ i h. thing_yes size stride i (omega arith) (let q = mul-le-mul_left {m = suc i} {n = k} stride (omega arith) in let w = mul-suc stride i in omega arith);
  all = λ i h l. thing_no size stride i (let q = mul-le-mul_left {m = k} {n = i} stride (omega arith) in omega arith);
}
