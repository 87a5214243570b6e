-- What a node gives, an edge's table as the code goes through it, row by row, and that no amount passes twice the limit.
-- Assumes nothing.
use Rattle.std.proofs.Common.{◌≡◌, ℕ, suc, ◌+◌, ◌-◌, ◌*◌, ◌^◌, ◌<◌, ◌≤◌, Bool, true, false, cond, ltb, List, [], ◌∷◌, map, length, get_or, take, drop, replicate, ℤ, pos, ◌+ℤ◌, ◌-ℤ◌, neg_ℤ, nat_abs, sym, refl, ap, ◌∙◌, ap₂, mul-le-mul_right, mod-eq_of_lt, arith, le-ltb, lt-ltb}
use native.Mathlib.Nat.{div-eq_of_lt-le, mul-add-mod_self_right}
use Rattle.integers.specs.Least.{least_of}
use Rattle.integers.specs.Share.{share, excess}
use Rattle.integers.specs.Sum.{Within}
use Rattle.integers.specs.Places.{tabulate, range, every}
use Rattle.integers.specs.Checks.{below}
use Rattle.integers.specs.Rows.{part}
use Rattle.integers.proofs.Share.{share_toward, abs_le}
use Rattle.integers.proofs.Places.{by_cond, if-true, if-false, length-tabulate, get_d_tabulate}
use Rattle.integers.proofs.Rows.{length_part, get_d_part, within_part, within_map}
use Rattle.integers.proofs.Checks.{below_ext}
use Rattle.rules.specs.Calls.{cost_limit}
use Rattle.messages.specs.EdgeMessage.{position_in, node_amounts, usable_of, places_at, usable_cells, cells_at, edge_amounts, moved_cells, moved_line, Shape, Line, over}
use Rattle.messages.proofs.RowLaws.{every_is, least_of_within, apart_within, neg_fits}
use Rattle.messages.proofs.OverLaws.{over_zeros, every_made, below_rows}

-- nothing given yet
abbrev pub zeros : List ℤ
zeros = replicate 16 (pos 0)

-- ---- kind 1

pub node_is : (row : List ℤ) (r : ℕ) → length row ≤ 16 → over (λ k. share (get_or row k (pos 0) -ℤ least_of row) r) (length row) zeros ≡ node_amounts row r
unfolding node_amounts
node_is row r h =
    let f : ℕ → ℤ = (λ k. share (get_or row k (pos 0) -ℤ least_of row) r) in
    over_zeros f (λ k. cond (ltb k (length row)) (f k) (pos 0)) 16 (length row) h
    (λ k g. sym (if-true (f k) (pos 0) (lt-ltb k (length row) g)))
    (λ k _ g. sym (if-false (f k) (pos 0) (le-ltb k (length row) g)))

-- ---- rows of a table

row_in : (k h w : ℕ) → k < h → k * w + w ≤ h * w
row_in k h w g = let m : suc k * w ≤ h * w = mul-le-mul_right w g in omega arith

pub position : (b : Bool) (w r j : ℕ) → j < w → position_in b w (r * w + j) ≡ cond b r j
position true w r j h = div-eq_of_lt-le w (omega arith) (omega arith)
position false w r j h = mul-add-mod_self_right r w j ∙ mod-eq_of_lt h

module _ {w h : ℕ} {l : List ℤ} (s : Shape w h l) where
  pub row_end : {k a : ℕ} → k < h → a ≡ k * w → a + w ≤ length l
  row_end {k} {a} g e = omega (arith, row_in k h w g, s.size)

  pub row_part : (k : ℕ) {a : ℕ} → a ≡ k * w → take (a + w - a) (drop a l) ≡ part l (k * w) w
  row_part k {a} e = let z : a + w - a ≡ w = omega arith in ap₂ (λ (n i : ℕ). take n (drop i l)) z e

  pub row-length : (k : ℕ) → k < h → length (part l (k * w) w) ≡ w
  row-length k g = length_part l (k * w) w (row_end g refl)

  pub row_line : Within cost_limit l → (k : ℕ) → k < h → Line k (part l (k * w) w)
  row_line r k g =
      let n = row-length k g in
      record { few = omega (arith, s); place = omega (arith, s); range = within_part cost_limit (k * w) w l r }

  -- ---- the moves, row by row

  pub line_at_lem : (b : Bool) (v : List ℤ) (k j : ℕ) → k < h → j < w
      → get_or (moved_line b k v (part l (k * w) w)) j (pos 0) ≡ get_or l (k * w + j) (pos 0) +ℤ get_or v (position_in b w (k * w + j)) (pos 0)
  line_at_lem b v k j g q =
      let p = part l (k * w) w in
      let n = row-length k g in
      get_d_tabulate (length p) (λ i. get_or p i (pos 0) +ℤ get_or v (cond b k i) (pos 0)) j (pos 0) (omega arith)
      ∙ ap₂ ◌+ℤ◌ (get_d_part l (k * w) w j (pos 0) q) (ap (λ (i : ℕ). get_or v i (pos 0)) (sym (position b w k j q)))

  pub line_length : (b : Bool) (v : List ℤ) (k : ℕ) → k < h → length (moved_line b k v (part l (k * w) w)) ≡ w
  line_length b v k g =
      let p = part l (k * w) w in
      length-tabulate (length p) (λ i. get_or p i (pos 0) +ℤ get_or v (cond b k i) (pos 0)) ∙ row-length k g

  pub lines_fit : (t : ℤ → Bool) (b : Bool) (v : List ℤ) → every t (moved_cells b w v l) ≡ below h (λ k. every t (moved_line b k v (part l (k * w) w)))
  lines_fit t b v =
      let f : ℕ → ℤ = (λ i. get_or l i (pos 0) +ℤ get_or v (position_in b w i) (pos 0)) in
      let line : ℕ → List ℤ = (λ k. moved_line b k v (part l (k * w) w)) in
      every_made t (length l) f ∙ ap (λ (n : ℕ). below n (λ i. t (f i))) s.size ∙ below_rows h w (λ i. t (f i))
      ∙ below_ext h (λ k. below w (λ j. t (f (k * w + j)))) (λ k. every t (line k))
      (λ k g. sym (every_is t (line k) (pos 0) ∙ ap (λ (n : ℕ). below n (λ j. t (get_or (line k) j (pos 0)))) (line_length b v k g)
      ∙ below_ext w (λ j. t (get_or (line k) j (pos 0))) (λ j. t (f (k * w + j))) (λ j q. ap t (line_at_lem b v k j g q))))

-- ---- no amount passes twice the limit

share_within : (x b : ℤ) (r : ℕ) → nat_abs x ≤ cost_limit → nat_abs b ≤ cost_limit → nat_abs (share (x -ℤ b) r) ≤ 2 ^ 41
share_within x b r h g = omega (arith, abs_le (share_toward (x -ℤ b) r), apart_within x b h g)

excess_within : (l : List ℤ) (b : ℤ) (r : ℕ) → Within cost_limit l → nat_abs b ≤ cost_limit → nat_abs (excess l b r) ≤ 2 ^ 41
unfolding excess
excess_within [] b r h g = omega arith
excess_within (x ∷ l) b r h g = share_within (least_of (x ∷ l)) b r (least_of_within cost_limit (x ∷ l) h) g

pub node_within : (row : List ℤ) (r : ℕ) → Within cost_limit row → Within (2 ^ 41) (node_amounts row r)
unfolding node_amounts tabulate
node_within row r h =
    within_map (2 ^ 41) (λ k. cond (ltb k (length row)) (share (get_or row k (pos 0) -ℤ least_of row) r) (pos 0)) (range 0 16)
    (λ k. by_cond (λ z. nat_abs z ≤ 2 ^ 41) (ltb k (length row)) (λ _. share_within (get_or row k (pos 0)) (least_of row) r (h k) (least_of_within cost_limit row h)) (λ _. omega arith))

pub edge_within : (by_row : Bool) (own other : List ℕ) (l : List ℤ) (r : ℕ) → Within cost_limit l → Within (2 ^ 41) (edge_amounts by_row own other l r)
unfolding edge_amounts tabulate
edge_within by_row own other l r h =
    let costs : (places : List ℕ) → Within cost_limit (map (λ j. get_or l j (pos 0)) places) = (λ places. within_map cost_limit (λ j. get_or l j (pos 0)) places h) in
    let low = least_of (usable_cells by_row own other l) in
    within_map (2 ^ 41) (λ k. neg_ℤ (excess (cells_at by_row own other l k) low r)) (range 0 16)
    (λ k. neg_fits (excess (cells_at by_row own other l k) low r)
    (excess_within (cells_at by_row own other l k) low r (costs (places_at by_row own other (length l) k)) (least_of_within cost_limit (usable_cells by_row own other l) (costs (usable_of by_row own other (length l))))))
