-- The cells at a position of an edge's end, row or column, by two strides: of neighbouring positions, and of neighbouring cells of one; and their least, cell by cell.
-- Assumes nothing.
use Rattle.std.proofs.Common.{◌≡◌, ℕ, ◌+◌, ◌*◌, ◌<◌, ◌≤◌, Bool, true, false, not, ltb, Option, None, Some, IfSome, unwrap_or, List, length, get_or, ℤ, pos, sym, refl, ap, ◌∙◌, ap₂, arith, mul_comm, ext_get_or, eq-eqb, ne_eqb, ltb-true, ltb-false}
use Rattle.integers.specs.Least.{min_ℤ, least_from}
use Rattle.integers.specs.Places.{tabulate}
use Rattle.integers.proofs.Places.{by-test, length-tabulate, get_d_tabulate}
use Rattle.integers.proofs.Rows.{get_d_part}
use Rattle.messages.specs.declared.edge_message.Joint.{Joint}
use Rattle.messages.specs.Clash.{skipped}
use Rattle.messages.specs.Joints.{own_step, other_step, line_in}
use Rattle.messages.specs.EdgeMessage.{by_rows, width_of, height_of, line_at, left_of, unbounded, own_stride, other_stride, Ends}
use Rattle.messages.proofs.EdgeLaws.{row_end}
use Rattle.messages.proofs.UsableLaws.{least_but, but_skipped, but_more, but_all, line_many}

-- where the i-th cell of the position k stands
abbrev pub spot : Bool → List ℕ → List ℕ → ℕ → ℕ → ℕ
spot b own other k i = k * own_stride b other + i * other_stride b own

module _ {own other : List ℕ} {l : List ℤ} where
  -- it is in the table
  pub spot_in : (b : Bool) → Ends b own other l → {k i : ℕ} → k < length own → i < length other → spot b own other k i < length l
  spot_in true e {k} {i} g h = omega (arith, row_end e.shape g refl)
  spot_in false e {k} {i} g h = let m = row_end e.shape {k = i} h refl in omega arith

  -- it holds the i-th of the cells at k
  pub line_cell : (b : Bool) → Ends b own other l → (k i : ℕ) → i < length other
      → get_or (line_at b (width_of b own other) (height_of b own other) l k) i (pos 0) ≡ get_or l (spot b own other k i) (pos 0)
  line_cell true e k i h =
      let w = length other in
      let z : k * w + i ≡ k * w + i * 1 = omega arith in
      get_d_part l (k * w) w i (pos 0) h ∙ ap (λ (j : ℕ). get_or l j (pos 0)) z
  line_cell false e k i h =
      let w = length own in
      let z : w * i + k ≡ k * 1 + i * w = omega (arith, mul_comm w i) in
      get_d_tabulate (length other) (λ r. get_or l (w * r + k) (pos 0)) i (pos 0) h ∙ ap (λ (j : ℕ). get_or l j (pos 0)) z

  -- which are all of them
  pub line_spots : (b : Bool) → Ends b own other l → (k : ℕ) → k < length own
      → line_at b (width_of b own other) (height_of b own other) l k ≡ tabulate (length other) (λ i. get_or l (spot b own other k i) (pos 0))
  line_spots b e k g =
      let f : ℕ → ℤ = (λ i. get_or l (spot b own other k i) (pos 0)) in
      let n = line_many b e k g in
      ext_get_or (pos 0) (line_at b (width_of b own other) (height_of b own other) l k) (tabulate (length other) f) (n ∙ sym (length-tabulate (length other) f))
      (λ i h. let m : i < length other = omega arith in line_cell b e k i m ∙ sym (get_d_tabulate (length other) f i (pos 0) m))

-- of a joint: the i-th cell at a position
abbrev pub cell_of : Joint → ℕ → ℕ → ℤ
cell_of j k i = get_or j.cells.now (k * own_step j + i * other_step j) (pos 0)

-- the least of the first n of them but for the one at `skip`
abbrev pub low_so_far : Joint → ℕ → Option ℕ → ℕ → ℤ
low_so_far j k skip n = least_but (cell_of j k) unbounded skip n

-- ---- by strides that the code found

module _ (j : Joint) {own other : ℕ} (s : (own ≡ own_step j) × (other ≡ other_step j)) where
  -- a cell of a position is in the table
  pub cell_in : (k i : ℕ) → k < length j.own.now → i < length j.other.now → k * own + i * other < length j.cells.now
  cell_in k i g h = rw (s.0, s.1) (spot_in (by_rows j.end) j.joined.ends g h)

  -- one cell more
  pub low_more : (k i : ℕ) (skip : Option ℕ) → not (skipped skip i) ≡ true → {at : ℕ} → at ≡ k * own + i * other → {best : ℤ} → best ≡ low_so_far j k skip i
      → min_ℤ (get_or j.cells.now at (pos 0)) best ≡ low_so_far j k skip (i + 1)
  low_more k i skip t e q =
      ap₂ (λ (n : ℕ) (x : ℤ). min_ℤ (get_or j.cells.now n (pos 0)) x) (e ∙ ap₂ (λ (a b : ℕ). k * a + i * b) s.0 s.1) q
      ∙ but_more (cell_of j k) unbounded skip i t

-- all of them
pub low_all : (j : Joint) (k : ℕ) → k < length j.own.now → (skip : Option ℕ) {n : ℕ} → n ≡ length j.other.now
    → low_so_far j k skip n ≡ least_from unbounded (left_of (line_in j k) skip)
low_all j k g skip e =
    ap (low_so_far j k skip) e ∙ but_all (cell_of j k) unbounded skip (length j.other.now)
    ∙ ap (λ (m : List ℤ). least_from unbounded (left_of m skip)) (sym (line_spots (by_rows j.end) j.joined.ends k g))

-- ---- all but the one that is skipped, before it and after it: where there is none, all are before it

-- another place is not skipped
unskipped : (skip : Option ℕ) (m : ℕ) {gap i : ℕ} → gap ≡ unwrap_or skip m → (i ≡ gap → ⊥) → not (skipped skip i) ≡ true
unskipped None m e n = refl
unskipped (Some s) m {i = i} e n = ap not (ne_eqb i s (λ q. n (q ∙ sym e)))

gap_in : (skip : Option ℕ) {m gap : ℕ} → IfSome skip (λ s. s < m) → gap ≡ unwrap_or skip m → gap ≤ m
gap_in None h e = omega (arith, e)
gap_in (Some s) h e = omega (arith, e, h)

gap_over : (j : Joint) (k : ℕ) (skip : Option ℕ) {gap : ℕ} → gap ≡ unwrap_or skip (length j.other.now) → gap < length j.other.now → low_so_far j k skip gap ≡ low_so_far j k skip (gap + 1)
gap_over j k None e h = absurd (omega (arith, e))
gap_over j k (Some s) {gap} e h = but_skipped (cell_of j k) unbounded (Some s) gap (ap not (eq-eqb gap s e))

-- after it, the least of the first i cells; of all of them where i is past them
pub record Past (j : Joint) (k : ℕ) (skip : Option ℕ) (gap i : ℕ) (best : ℤ) : Type 0 where
  pub beyond : gap < i
  pub inside : i ≤ length j.other.now → best ≡ low_so_far j k skip i
  pub whole : length j.other.now < i → best ≡ low_so_far j k skip (length j.other.now)

module _ (j : Joint) (k : ℕ) (skip : Option ℕ) {gap : ℕ} (e : gap ≡ unwrap_or skip (length j.other.now)) where
  pub past_first : IfSome skip (λ s. s < length j.other.now) → {i : ℕ} → gap ≤ i → i ≤ gap → {best : ℤ} → best ≡ low_so_far j k skip i → Past j k skip gap (gap + 1) best
  past_first h {i} g l q =
      let z : i ≡ gap = omega arith in
      let p = q ∙ ap (low_so_far j k skip) z in
      record {
        beyond = omega arith;
        inside = λ m. p ∙ gap_over j k skip e (omega arith);
        whole = λ m. let t : gap ≡ length j.other.now = omega (arith, gap_in skip h e) in p ∙ ap (low_so_far j k skip) t;
      }

  module _ {own other : ℕ} (s : (own ≡ own_step j) × (other ≡ other_step j)) {i : ℕ} {best : ℤ} where
    pub before_more : i < gap → best ≡ low_so_far j k skip i → min_ℤ (get_or j.cells.now (k * own + i * other) (pos 0)) best ≡ low_so_far j k skip (i + 1)
    before_more h q = low_more j s k i skip (unskipped skip (length j.other.now) e (λ z. omega arith)) refl q

    pub past_more : i < length j.other.now → Past j k skip gap i best → Past j k skip gap (i + 1) (min_ℤ (get_or j.cells.now (k * own + i * other) (pos 0)) best)
    past_more h p =
        let b = p.beyond in
        record {
          beyond = omega arith;
          inside = λ m. low_more j s k i skip (unskipped skip (length j.other.now) e (λ z. omega arith)) refl (p.inside (omega arith));
          whole = λ m. absurd (omega arith);
        }

  pub past_all : k < length j.own.now → {i : ℕ} {best : ℤ} → length j.other.now ≤ i → Past j k skip gap i best → best ≡ least_from unbounded (left_of (line_in j k) skip)
  past_all g {i} h p =
      by-test (ltb (length j.other.now) i)
      (λ t. p.whole (ltb-true (length j.other.now) i t))
      (λ t. let l : i ≤ length j.other.now = ltb-false (length j.other.now) i t in let z : i ≡ length j.other.now = omega arith in p.inside l ∙ ap (low_so_far j k skip) z)
      ∙ low_all j k g skip refl
