-- Costs that fall, and not below the least of them, stay within the limit without a test: a node's that gives to an edge, and the cells of an edge that gives to a node.
-- Assumes nothing.
use Rattle.std.proofs.Common.{◌≡◌, ℕ, ◌<◌, ◌≤◌, Bool, true, false, not, List, [], ◌∷◌, length, get_or, ℤ, pos, ◌+ℤ◌, ◌-ℤ◌, neg_ℤ, nat_abs, ◌≤ℤ◌, sym, ap, ◌∙◌, subst, mod-lt, div-lt_iff_lt-mul, arith}
use native.Mathlib.Nat.{div-add-mod'}
use Rattle.integers.specs.Least.{least_from, least_of}
use Rattle.integers.specs.Share.{share, excess}
use Rattle.integers.specs.Sum.{Within}
use Rattle.integers.specs.Places.{every}
use Rattle.integers.specs.Checks.{within}
use Rattle.integers.proofs.Parts.{linear, add, neg, sub, abs, apart}
use Rattle.integers.proofs.Least.{least_le, least_of_le}
use Rattle.integers.proofs.Share.{share_toward, nonneg}
use Rattle.integers.proofs.Checks.{le_within}
use Rattle.integers.proofs.Places.{every-tabulate, get_d_tabulate}
use Rattle.integers.proofs.Rows.{within_map}
use Rattle.rules.specs.Calls.{cost_limit}
use Rattle.messages.specs.declared.edge_message.Joint.{Joint}
use Rattle.messages.specs.EdgeMessage.{by_rows, position_in, node_amounts, width_of, usable_of, places_at, usable_cells, cells_at, edge_amounts, moved_row, Ends, unbounded}
use Rattle.messages.specs.Joints.{columns, line_in, low_in, Above, cells_with}
use Rattle.messages.proofs.RowLaws.{least_of_within}
use Rattle.messages.proofs.OverLaws.{over_at}
use Rattle.messages.proofs.EdgeLaws.{zeros, node_is}
use Rattle.messages.proofs.UsableLaws.{own_few, position_below, line_many, least_bounded, order}
use Rattle.messages.proofs.StrideLaws.{spot, line_cell}

-- x less at most its distance from b lies between both
between : (limit : ℕ) (x b p : ℤ) → nat_abs x ≤ limit → nat_abs b ≤ limit → pos 0 ≤ℤ p → p ≤ℤ (x -ℤ b) → within limit (x +ℤ neg_ℤ p) ≡ true
between limit x b p h g l u =
    let z = x +ℤ neg_ℤ p in
    le_within limit z (omega (linear, add x (neg_ℤ p), neg p, sub x b, abs x, abs b, abs z, apart z))

-- ---- kind 1

-- what a node's costs are once they have given: none passes the limit
pub row_falls : (limit : ℕ) (row : List ℤ) (r : ℕ) → length row ≤ 16 → Within limit row → every (within limit) (moved_row (node_amounts row r) row) ≡ true
row_falls limit row r few h =
    let low = least_of row in
    let f : ℕ → ℤ = (λ k. share (get_or row k (pos 0) -ℤ low) r) in
    every-tabulate (within limit) (length row) (λ k. get_or row k (pos 0) +ℤ neg_ℤ (get_or (node_amounts row r) k (pos 0)))
    (λ k g. let x = get_or row k (pos 0) in
    let e : low ≤ℤ x = least_of_le row k (pos 0) g in
    let (l, u) = nonneg (share_toward (x -ℤ low) r) (omega (linear, sub x low)) in
    ap (λ (p : ℤ). within limit (x +ℤ neg_ℤ p)) (ap (λ (v : List ℤ). get_or v k (pos 0)) (sym (node_is row r few)) ∙ over_at f (length row) zeros k g)
    ∙ between limit x low (f k) (h k) (least_of_within limit row h) l u)

-- ---- kind 2

-- where the other end stands in a cell is one of its positions
other_below : (b : Bool) {own other : List ℕ} {l : List ℤ} → Ends b own other l → (i : ℕ) → i < length l → position_in (not b) (width_of b own other) i < length other
other_below true e i h = mod-lt i e.shape.wide
other_below false e i h = (div-lt_iff_lt-mul e.shape.wide).1 (omega (arith, e.shape.size))

-- a cell stands where the positions of both ends say
spot_of : (b : Bool) (own other : List ℕ) (i : ℕ) → let w = width_of b own other in spot b own other (position_in b w i) (position_in (not b) w i) ≡ i
spot_of true own other i = omega (arith, div-add-mod' i (length other))
spot_of false own other i = omega (arith, div-add-mod' i (length own))

-- what some costs give down to b, where one cost x is at or above the least of them: no more than x's own distance
excess_between : (l : List ℤ) (b x : ℤ) (r : ℕ) → Within cost_limit l → nat_abs x ≤ cost_limit → b ≤ℤ least_from unbounded l → least_from unbounded l ≤ℤ x
    → (pos 0 ≤ℤ excess l b r) × (excess l b r ≤ℤ (x -ℤ b))
unfolding excess least_from
excess_between [] b x r v h g k = absurd (omega (linear, abs x))
excess_between (y ∷ l) b x r v h g k =
    let m = least_of (y ∷ l) in
    let e : least_from unbounded (y ∷ l) ≡ m = least_bounded (y ∷ l) v (omega arith) in
    let g' = subst (λ z. b ≤ℤ z) e g in
    let k' = subst (λ z. z ≤ℤ x) e k in
    let (low, up) = nonneg (share_toward (m -ℤ b) r) (omega (linear, sub m b)) in
    (low, omega (linear, sub m b, sub x b))

module _ (j : Joint) where
  abbrev b : Bool
  b = by_rows j.end

  abbrev cost : ℕ → ℤ
  cost i = get_or j.cells.now i (pos 0)

  -- where the end stands in a cell
  abbrev at : ℕ → ℕ
  at i = position_in b (columns j) i

  -- the least usable cell of all, and what each position gives down to it
  abbrev low : ℤ
  low = least_of (usable_cells b j.own.now j.other.now j.cells.now)

  abbrev given : ℕ → ℕ → ℤ
  given r k = excess (cells_at b j.own.now j.other.now j.cells.now k) low r

  -- the least of a position's cells is at most each of them
  low_le : (i : ℕ) → i < length j.cells.now → low_in j (at i) ≤ℤ cost i
  low_le i h =
      let e = j.joined.ends in
      let p = position_in (not b) (columns j) i in
      let m : p < length j.other.now = other_below b e i h in
      let n = line_many b e (at i) (position_below b e i h) in
      subst (λ z. low_in j (at i) ≤ℤ z) (line_cell b e (at i) p m ∙ ap cost (spot_of b j.own.now j.other.now i))
      (least_le unbounded (line_in j (at i)) p (pos 0) (omega arith))

  -- what an edge's cells are once they have given, where no unusable one is below the least usable one of its position: none passes the limit
  pub cells_fall : Above j → (limit : ℕ) → Within limit j.cells.now → (r : ℕ)
      → every (within limit) (cells_with j (edge_amounts b j.own.now j.other.now j.cells.now r)) ≡ true
  unfolding edge_amounts
  cells_fall a limit h r =
      let e = j.joined.ends in
      let v = j.joined.cell_range in
      let l = j.cells.now in
      let own = j.own.now in
      let other = j.other.now in
      let near = least_of_within limit (usable_cells b own other l) (within_map limit cost (usable_of b own other (length l)) h) in
      every-tabulate (within limit) (length l) (λ i. cost i +ℤ get_or (edge_amounts b own other l r) (at i) (pos 0))
      (λ i g. let k = at i in
      let n : k < length own = position_below b e i g in
      let small = within_map cost_limit cost (places_at b own other (length l) k) v in
      let above = subst (λ z. z ≤ℤ cost i) (a k n) (low_le i g) in
      let (lo, up) = excess_between (cells_at b own other l k) low (cost i) r small (v i) (order e v k) above in
      ap (λ (q : ℤ). within limit (cost i +ℤ q)) (get_d_tabulate 16 (λ k. neg_ℤ (given r k)) k (pos 0) (omega (arith, own_few b e)))
      ∙ between limit (cost i) low (given r k) (h i) near lo up)
