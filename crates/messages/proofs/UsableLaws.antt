-- The usable cells of an edge's table, as the code goes through it by rows and by columns: the least of each position, and what it gives.
-- Assumes nothing.
use Rattle.std.proofs.Common.{◌≡◌, ℕ, ◌+◌, ◌-◌, ◌*◌, ◌/◌, ◌%◌, ◌<◌, ◌≤◌, Bool, true, false, cond, not, eqb, Option, None, Some, List, [], ◌∷◌, map, length, get_or, take, ℤ, pos, ◌-ℤ◌, neg_ℤ, nat_abs, ◌≤ℤ◌, ◌<ℤ◌, sym, refl, ap, ◌∙◌, ap₂, mod-lt, div-lt_iff_lt-mul, arith, eq-eqb, ne_eqb}
use mathlib.Core.List.{map-append, map-map}
use mathlib.Core.List.Memᴰ.{head as here}
use mathlib.Core.List.{Memᴰ as Mem}
use lib.Signed.{lt_z}
use Rattle.integers.specs.Least.{min_ℤ, least_from, least_of, without}
use Rattle.integers.specs.Share.{share, excess}
use Rattle.integers.specs.Sum.{Within}
use Rattle.integers.specs.Places.{tabulate, range, select}
use Rattle.integers.proofs.Parts.{linear, abs}
use Rattle.integers.proofs.Order.{le_trans, le_antisymm, min_eq_right}
use Rattle.integers.proofs.Least.{least_min, least_of_lem, least_append, least_ind}
use Rattle.integers.proofs.Places.{by-test, if-true, mem_range, range_mem, mem_select, select_mem, map-ext, length-tabulate, least_mem, le_least_mem, least_of_mem, le_least_of_mem}
use Rattle.integers.proofs.Ranges.{range-part, select_all, select_none, select_comm, select-map, select_but, select_row, select_column}
use Rattle.integers.proofs.Rows.{within_map, without_past}
use Rattle.index.proofs.Lists.{select_next, select_past}
use Rattle.instance.specs.Instance.{usable}
use Rattle.rules.specs.Calls.{cost_limit}
use Rattle.messages.specs.Clash.{skipped, Skips}
use Rattle.messages.specs.EdgeMessage.{position_in, width_of, height_of, usable_in, usable_of, places_at, usable_cells, cells_at, edge_amounts, left_of, Shape, Ends, over, line_at, unbounded, least_at, turned_least}
use Rattle.messages.proofs.ClashLaws.{skips_past}
use Rattle.messages.proofs.RowLaws.{least_of_within}
use Rattle.messages.proofs.OverLaws.{over_at, over-take, over_again, over_zeros}
use Rattle.messages.proofs.EdgeLaws.{zeros, position, row_end, row-length}

-- ---- the least of b and of f of the first n places but for the one at `skip`, place by place

module _ (f : ℕ → ℤ) (b : ℤ) (skip : Option ℕ) where
  abbrev stays : ℕ → Bool
  stays j = not (skipped skip j)

  abbrev pub least_but : ℕ → ℤ
  least_but n = least_from b (map f (select stays (range 0 n)))

  pub but_none : b ≡ least_but 0
  unfolding select range least_from
  but_none = refl

  pub but_skipped : (n : ℕ) → stays n ≡ false → least_but n ≡ least_but (n + 1)
  but_skipped n e = sym (ap (λ (l : List ℕ). least_from b (map f l)) (select_past stays n e))

  pub but_more : (n : ℕ) → stays n ≡ true → min_ℤ (f n) (least_but n) ≡ least_but (n + 1)
  unfolding least_from
  but_more n d =
      let l = select stays (range 0 n) in
      sym (ap (λ (k : List ℕ). least_from b (map f k)) (select_next stays n d) ∙ ap (least_from b) (map-append f l (n ∷ []))
      ∙ least_append b (map f l) (f n ∷ []) ∙ least_min (f n) b (map f l))

pub but_all : (f : ℕ → ℤ) (b : ℤ) (skip : Option ℕ) (n : ℕ) → least_but f b skip n ≡ least_from b (left_of (tabulate n f) skip)
unfolding tabulate
but_all f b None n = ap (λ (l : List ℕ). least_from b (map f l)) (select_all (λ j. true) (range 0 n) (λ i _. refl))
but_all f b (Some k) n =
    let t : ℕ → Bool = (λ j. not (eqb j k)) in
    ap (least_from b) (select_but f t 0 n k (λ j _. let e : 0 + j ≡ j = omega arith in ap t e))

-- ---- the least of some costs, and of none

module _ (l : List ℤ) (h : Within cost_limit l) where
  pub least_bounded : 0 < length l → least_from unbounded l ≡ least_of l
  least_bounded g = least_of_lem unbounded l g ∙ min_eq_right (omega (linear, abs (least_of l), least_of_within cost_limit l h))

  pub least_below : least_from unbounded l <ℤ unbounded → nat_abs (least_from unbounded l) ≤ cost_limit
  least_below = least_ind (λ m. m <ℤ unbounded → nat_abs m ≤ cost_limit) unbounded l (pos 0) (λ g. absurd (omega linear)) (λ i _ _. h i)

turned_is : (l : List ℤ) (low : ℤ) (r : ℕ) → Within cost_limit l → turned_least (least_from unbounded l) low r ≡ neg_ℤ (excess l low r)
unfolding turned_least excess least_from
turned_is [] low r h = refl
turned_is (x ∷ l) low r h =
    let m = least_of (x ∷ l) in
    let b = least_of_within cost_limit (x ∷ l) h in
    ap (λ (z : ℤ). turned_least z low r) (least_bounded (x ∷ l) h (omega arith))
    ∙ if-true (neg_ℤ (share (m -ℤ low) r)) (pos 0) (by-test (lt_z m unbounded) (λ e. e) (λ e. absurd (omega (linear, abs m))))

-- ---- the cells at a position

pub usable_at : (b : Bool) (own other : List ℕ) (r j : ℕ) → j < width_of b own other
    → usable_in b own other (r * width_of b own other + j) ≡ usable (get_or own (cond b r j) 0) (get_or other (cond (not b) r j) 0)
usable_at b own other r j h =
    let w = width_of b own other in
    ap₂ (λ (p q : ℕ). usable (get_or own p 0) (get_or other q 0)) (position b w r j h) (position (not b) w r j h)

-- of the cells that a test picks the usable ones
picked : (f : ℕ → ℤ) (t u : ℕ → Bool) {n m : ℕ} → n ≡ m → {l : List ℕ} → select t (range 0 m) ≡ l → map f (select t (select u (range 0 n))) ≡ map f (select u l)
picked f t u {n} {m} e q =
    ap (map f) (select_comm t u (range 0 n)) ∙ ap (λ (k : ℕ). map f (select u (select t (range 0 k)))) e ∙ ap (λ (l : List ℕ). map f (select u l)) q

-- the usable ones are all but the one at which the labels clash
pub line_is : (b : Bool) {own other : List ℕ} {l : List ℤ} → Ends b own other l → (k : ℕ) → k < length own → (skip : ℕ) → ((p : ℕ) → p < length other → usable (get_or own k 0) (get_or other p 0) ≡ not (eqb p skip))
    → without (line_at b (width_of b own other) (height_of b own other) l k) skip ≡ cells_at b own other l k
unfolding tabulate
line_is true {own} {other} {l} e k g skip x =
    let w = length other in
    let s = e.shape in
    let f : ℕ → ℤ = (λ j. get_or l j (pos 0)) in
    let t : ℕ → Bool = (λ j. eqb (j / w) k) in
    let u = usable_in true own other in
    let z : 0 + w * k ≡ k * w = omega arith in
    sym (picked f t u s.size (select_row t 0 w (length own) k s.wide g (λ i. let q : i ≡ i - 0 = omega arith in ap t q) ∙ ap (λ (a : ℕ). range a w) z)
    ∙ select_but f u (k * w) w skip (λ j q. usable_at true own other k j q ∙ x j q)
    ∙ ap (λ (r : List ℤ). without r skip) (range-part l (pos 0) (k * w) w (row_end s g refl)))
line_is false {own} {other} {l} e k g skip x =
    let w = length own in
    let h = length other in
    let s = e.shape in
    let f : ℕ → ℤ = (λ j. get_or l j (pos 0)) in
    let t : ℕ → Bool = (λ j. eqb (j % w) k) in
    let u = usable_in false own other in
    let c : ℕ → ℕ = (λ r. 0 + (w * r + k)) in
    sym (picked f t u s.size (select_column t 0 w h k g (λ i. let q : i ≡ i - 0 = omega arith in ap t q))
    ∙ ap (map f) (select-map u c (range 0 h)) ∙ map-map f c (select (λ r. u (c r)) (range 0 h))
    ∙ select_but (λ r. f (c r)) (λ r. u (c r)) 0 h skip (λ r q. let z : c (0 + r) ≡ r * w + k = omega arith in ap u z ∙ usable_at false own other r k g ∙ x r q)
    ∙ ap (λ (m : List ℤ). without m skip) (map-ext (λ r. f (c r)) (λ r. f (w * r + k)) (range 0 h) (λ r _. let z : c r ≡ w * r + k = omega arith in ap f z)))

-- as many cells as the other end has labels
pub line_many : (b : Bool) {own other : List ℕ} {l : List ℤ} → Ends b own other l → (k : ℕ) → k < length own
    → length (line_at b (width_of b own other) (height_of b own other) l k) ≡ length other
line_many true e k g = row-length e.shape k g
line_many false {own} {other} {l} e k g = length-tabulate (length other) (λ r. get_or l (length own * r + k) (pos 0))

-- the same by the place that is skipped, if there is one
pub line_left : (b : Bool) {own other : List ℕ} {l : List ℤ} → Ends b own other l → (k : ℕ) → k < length own → {skip : Option ℕ} → Skips other (get_or own k 0) skip
    → left_of (line_at b (width_of b own other) (height_of b own other) l k) skip ≡ cells_at b own other l k
line_left b {own} {other} {l} e k g {skip = Some p} x = line_is b e k g p x.passed
line_left b {own} {other} {l} e k g {skip = None} x =
    let n = line_many b e k g in
    sym (without_past (line_at b (width_of b own other) (height_of b own other) l k) (length other) (omega arith))
    ∙ line_is b e k g (length other) (skips_past x)

-- ---- the positions of the end

-- there is an element in what is not empty
some_mem : (l : List ℕ) → 0 < length l → (j : ℕ) × Mem j l
some_mem [] h = absurd (omega arith)
some_mem (j ∷ l) h = (j, here refl)

pub own_few : (b : Bool) {own other : List ℕ} {l : List ℤ} → Ends b own other l → length own ≤ 16
own_few true e = e.shape.low
own_few false e = e.shape.narrow

pub own_some : (b : Bool) {own other : List ℕ} {l : List ℤ} → Ends b own other l → 0 < length own
own_some true e = e.shape.high
own_some false e = e.shape.wide

pub position_below : (b : Bool) {own other : List ℕ} {l : List ℤ} → Ends b own other l → (j : ℕ) → j < length l → position_in b (width_of b own other) j < length own
position_below true e j g = (div-lt_iff_lt-mul e.shape.wide).1 (omega (arith, e.shape.size))
position_below false e j g = mod-lt j e.shape.wide

-- the table by a width and a height that the code found
pub shaped : {b : Bool} {own other : List ℕ} {l : List ℤ} → Ends b own other l → {w h : ℕ} → w ≡ width_of b own other → h ≡ height_of b own other → Shape w h l
shaped e p q = rw (p, q) e.shape

-- ---- the least of each position, and the least of all, which is that of them

module _ {b : Bool} {own other : List ℕ} {l : List ℤ} (e : Ends b own other l) (v : Within cost_limit l) where
  abbrev cost : ℕ → ℤ
  cost j = get_or l j (pos 0)

  abbrev low : ℤ
  low = least_of (usable_cells b own other l)

  -- where u stands in a cell, and whether it is at k
  abbrev stands : ℕ → ℕ
  stands j = position_in b (width_of b own other) j

  abbrev at : ℕ → ℕ → Bool
  at k = λ j. eqb (stands j) k

  below : {j : ℕ} → Mem j (usable_of b own other (length l)) → stands j < length own
  below {j} m = let r = range_mem 0 (length l) (select_mem (usable_in b own other) (range 0 (length l)) m).0 in position_below b e j (omega arith)

  costs : (places : List ℕ) → Within cost_limit (map cost places)
  costs places = within_map cost_limit cost places v

  pub low_within : nat_abs low ≤ cost_limit
  low_within = least_of_within cost_limit (usable_cells b own other l) (costs (usable_of b own other (length l)))

  pub order : (k : ℕ) → low ≤ℤ least_at b own other l k
  order k = le_least_mem cost (places_at b own other (length l) k) (omega (linear, abs low, low_within)) (λ j m. least_of_mem cost (select_mem (at k) (usable_of b own other (length l)) m).0)

  pub position_within : (k : ℕ) → least_at b own other l k <ℤ unbounded → nat_abs (least_at b own other l k) ≤ cost_limit
  position_within k = least_below (cells_at b own other l k) (costs (places_at b own other (length l) k))

  pub edge_least_lem : least_of (take (length own) (over (least_at b own other l) (length own) zeros)) ≡ low
  unfolding tabulate
  edge_least_lem =
      let n = length own in
      let g = least_at b own other l in
      ap least_of (over-take g n zeros)
      ∙ le_antisymm
      (le_least_of_mem cost (some_mem (usable_of b own other (length l)) e.some).1
      (λ j m. le_trans (least_of_mem g (mem_range 0 n (stands j) (omega arith) (omega (arith, below m))))
      (least_mem cost unbounded (mem_select (at (stands j)) m (eq-eqb (stands j) (stands j) refl)))))
      (le_least_of_mem g (mem_range 0 n 0 (omega arith) (omega (arith, own_some b e))) (λ k _. order k))

  none : (k : ℕ) → length own ≤ k → cells_at b own other l k ≡ []
  none k h = ap (map cost) (select_none (at k) (usable_of b own other (length l)) (λ j m. ne_eqb (stands j) k (λ z. omega (arith, below m))))

  -- kind 2
  pub edge_is : (r : ℕ)
      → over (λ k. turned_least (get_or (over (least_at b own other l) (length own) zeros) k (pos 0)) low r) (length own) (over (least_at b own other l) (length own) zeros) ≡ edge_amounts b own other l r
  unfolding edge_amounts excess
  edge_is r =
      let n = length own in
      let g = least_at b own other l in
      let f : ℕ → ℤ = (λ k. neg_ℤ (excess (cells_at b own other l k) low r)) in
      over_again g (λ k. turned_least (get_or (over g n zeros) k (pos 0)) low r) f n zeros
      (λ k q. ap (λ (x : ℤ). turned_least x low r) (over_at g n zeros k q) ∙ turned_is (cells_at b own other l k) low r (costs (places_at b own other (length l) k)))
      ∙ over_zeros f f 16 n (own_few b e) (λ k _. refl) (λ k _ q. sym (ap (λ (m : List ℤ). neg_ℤ (excess m low r)) (none k q)))
