-- The two ends of an edge: their labels as parts of the sheet, where they stand in a cell, and which cells are usable by them.
-- Assumes nothing.
use Rattle.std.proofs.Common.{◌≡◌, ℕ, suc, ◌+◌, ◌-◌, ◌*◌, ◌/◌, ◌%◌, ◌<◌, ◌≤◌, Bool, true, false, cond, eqb, ◌⊎◌, List, map, length, get_or, ℤ, pos, sym, refl, ap, ◌∙◌, subst, ap₂, ⊎_elim, mod-lt, mul_comm, div-lt_iff_lt-mul, mul-le-mul_left, arith, eq-eqb, ne_eqb, eqb-true}
use mathlib.Core.List.{map-map}
use mathlib.Core.List.Memᴰ.{head as here}
use mathlib.Core.List.Memᴰ.{tail as there}
use mathlib.Core.List.{Memᴰ as Mem}
use borrow.Author.Tests.{eqb-false}
use Rattle.integers.specs.Rows.{part}
use Rattle.integers.specs.Places.{range, select}
use Rattle.integers.proofs.Places.{by_cond, mem_range, range_mem, mem_select, select_mem, map-ext}
use Rattle.integers.proofs.Ranges.{range_shift, select-map}
use Rattle.integers.proofs.Rows.{length_part, get_d_part}
use Rattle.index.proofs.Lists.{select_ext}
use Rattle.instance.specs.Bytes.{byte}
use Rattle.instance.specs.Instance.{Instance, usable, first, table_size, table, edge_cells, cell}
use Rattle.instance.specs.Sheet.{instance_of, refusal_of}
use Rattle.instance.specs.Readable.{Proper}
use Rattle.instance.proofs.LaidOut.{row_inside, table_inside, low_inside}
use Rattle.instance.proofs.UsableCells.{usable_sym}
use Rattle.rules.specs.Places.{end_place, edge_places, usable_cell, usable_places}
use Rattle.rules.proofs.Places.{cell_row, cell_column}
use Rattle.instance.specs.Described.{labels_of}
use Rattle.messages.specs.Clash.{Rising}
use Rattle.messages.specs.EdgeMessage.{position_in, width_of, usable_in, usable_of, usable_cells, Shape, Ends}
use Rattle.messages.proofs.SheetLaws.{whole, proper}

-- what has an element is not empty
mem_some : {i : ℕ} {l : List ℕ} → Mem i l → 0 < length l
mem_some (here e) = omega arith
mem_some (there m) = omega arith

-- ---- where u stands in the cell j of the table: at a position of its own

module _ (I : Instance) where
  pub end_is : (e u j : ℕ) → end_place I e u (table I e + j) ≡ first I u + position_in (eqb u (I.low e)) (I.degree (I.high e)) j
  unfolding end_place
  end_is e u j =
      let z : table I e + j - table I e ≡ j = omega arith in
      ap (λ (i : ℕ). first I u + cond (eqb u (I.low e)) (i / I.degree (I.high e)) (i % I.degree (I.high e))) z

  pub end_below : Proper I → {e : ℕ} → e < I.edge_count → {u : ℕ} → (u ≡ I.low e) ⊎ (u ≡ I.high e) → (j : ℕ) → j < table_size I e
      → position_in (eqb u (I.low e)) (I.degree (I.high e)) j < I.degree u
  unfolding table_size
  end_below p {e} he {u} t j h =
      let w = p.labelled (I.high e) (p.inside e he) in
      by_cond (λ (k : ℕ). k < I.degree u) (eqb u (I.low e))
      (λ q. let z : u ≡ I.low e = eqb-true u (I.low e) q in rw z ((div-lt_iff_lt-mul w).1 h))
      (λ q. ⊎_elim (λ (z : u ≡ I.low e). absurd (eqb-false u (I.low e) q z)) (λ (z : u ≡ I.high e). rw z (mod-lt j w)) t)

module _ (s : List ℕ) (r : refusal_of s ≡ 0) where
  abbrev I : Instance
  I = instance_of s

  good : Proper I
  good = proper s r

  -- ---- the labels of a node

  module _ {u : ℕ} (h : u < I.node_count) where
    pub labels_inside : I.node_count + first I u + I.degree u ≤ length s
    labels_inside = omega (arith, row_inside I h, (whole s r).whole)

    pub labels_length : length (labels_of s u) ≡ I.degree u
    labels_length = length_part s (I.node_count + first I u) (I.degree u) labels_inside

    pub labels_at_lem : (k : ℕ) → k < I.degree u → get_or (labels_of s u) k 0 ≡ I.label (first I u + k)
    unfolding instance_of
    labels_at_lem k l =
        let z : I.node_count + first I u + k ≡ I.node_count + (first I u + k) = omega arith in
        get_d_part s (I.node_count + first I u) (I.degree u) k 0 l ∙ ap (byte s) z

    pub labels_rise : Rising (labels_of s u)
    labels_rise i l =
        let n = labels_length in
        rw (labels_at_lem i (omega arith), labels_at_lem (suc i) (omega arith)) (good.rising u i h (omega arith))

  -- ---- the cells of an edge

  module _ {e : ℕ} (h : e < I.edge_count) where
    abbrev low : ℕ
    low = I.low e

    abbrev high : ℕ
    high = I.high e

    abbrev d : ℕ
    d = I.degree high

    low_in : low < I.node_count
    low_in = low_inside good h

    high_in : high < I.node_count
    high_in = good.inside e h

    d_some : 1 ≤ d
    d_some = good.labelled high high_in

    -- in the cell j the lower end stands at the row's position, the higher at the column's
    low-label : (j : ℕ) → j < table_size I e → get_or (labels_of s low) (j / d) 0 ≡ I.label (end_place I e low (table I e + j))
    unfolding table_size
    low-label j l =
        labels_at_lem low_in (j / d) ((div-lt_iff_lt-mul d_some).1 l)
        ∙ ap I.label (sym (end_is I e low j ∙ ap (λ (b : Bool). first I low + position_in b d j) (eq-eqb low low refl)))

    high-label : (j : ℕ) → get_or (labels_of s high) (j % d) 0 ≡ I.label (end_place I e high (table I e + j))
    high-label j =
        let o = good.ordered e h in
        labels_at_lem high_in (j % d) (mod-lt j d_some)
        ∙ ap I.label (sym (end_is I e high j ∙ ap (λ (b : Bool). first I high + position_in b d j) (ne_eqb high low (λ z. omega arith))))

    -- the end that is named and the other one
    abbrev own : Bool → List ℕ
    own b = cond b (labels_of s low) (labels_of s high)

    abbrev other : Bool → List ℕ
    other b = cond b (labels_of s high) (labels_of s low)

    pub width_is : (b : Bool) → width_of b (own b) (other b) ≡ d
    width_is true = labels_length high_in
    width_is false = labels_length high_in

    height_is : (b : Bool) → cond b (length (own b)) (length (other b)) ≡ I.degree low
    height_is true = labels_length low_in
    height_is false = labels_length low_in

    pub both_sizes : (b : Bool) → length (own b) * length (other b) ≡ table_size I e
    unfolding table_size
    both_sizes true = ap₂ ◌*◌ (labels_length low_in) (labels_length high_in)
    both_sizes false = mul_comm (length (labels_of s high)) (length (labels_of s low)) ∙ ap₂ ◌*◌ (labels_length low_in) (labels_length high_in)

    pub usable_in_lem : (b : Bool) (j : ℕ) → j < table_size I e → usable_in b (own b) (other b) j ≡ usable_cell I e (table I e + j)
    usable_in_lem true j l =
        ap (λ (w : ℕ). usable (get_or (labels_of s low) (j / w) 0) (get_or (labels_of s high) (j % w) 0)) (labels_length high_in) ∙ ap₂ usable (low-label j l) (high-label j)
    usable_in_lem false j l =
        ap (λ (w : ℕ). usable (get_or (labels_of s high) (j % w) 0) (get_or (labels_of s low) (j / w) 0)) (labels_length high_in) ∙ ap₂ usable (high-label j) (low-label j l) ∙ usable_sym _ _

    -- the usable places are the usable cells of the table, counted from its beginning
    pub usable_places_lem : (b : Bool) → usable_places I e ≡ map (λ j. table I e + j) (usable_of b (own b) (other b) (table_size I e))
    unfolding usable_places edge_places
    usable_places_lem b =
        let T = table I e in
        let n = table_size I e in
        let z : T ≡ T + 0 = omega arith in
        ap (λ (a : ℕ). select (usable_cell I e) (range a n)) z
        ∙ ap (select (usable_cell I e)) (range_shift T 0 n)
        ∙ select-map (usable_cell I e) (λ j. T + j) (range 0 n)
        ∙ ap (map (λ j. T + j)) (select_ext (λ j. usable_cell I e (T + j)) (usable_in b (own b) (other b)) (range 0 n) (λ j m. let q = range_mem 0 n m in sym (usable_in_lem b j (omega arith))))

    pub usable_below : (b : Bool) (j : ℕ) → Mem j (usable_of b (own b) (other b) (table_size I e)) → j < table_size I e
    usable_below b j m = let q = range_mem 0 (table_size I e) (select_mem (usable_in b (own b) (other b)) (range 0 (table_size I e)) m).0 in omega arith

    module _ (edges : List ℤ) (le : length edges ≡ edge_cells I) where
      abbrev cells : List ℤ
      cells = part edges (table I e) (table_size I e)

      pub cells-length : length cells ≡ table_size I e
      cells-length = length_part edges (table I e) (table_size I e) (omega (arith, table_inside I h))

      -- costs at some places of the table are those at the places further on
      pub cells_at_lem : (l : List ℕ) → ((j : ℕ) → Mem j l → j < table_size I e) → map (λ j. get_or cells j (pos 0)) l ≡ map (λ j. get_or edges j (pos 0)) (map (λ j. table I e + j) l)
      cells_at_lem l q =
          map-ext (λ j. get_or cells j (pos 0)) (λ j. get_or edges (table I e + j) (pos 0)) l (λ j m. get_d_part edges (table I e) (table_size I e) j (pos 0) (q j m))
          ∙ sym (map-map (λ j. get_or edges j (pos 0)) (λ j. table I e + j) l)

      pub usable_cells_lem : (b : Bool) → usable_cells b (own b) (other b) cells ≡ map (λ j. get_or edges j (pos 0)) (usable_places I e)
      usable_cells_lem b =
          ap (λ (n : ℕ). map (λ j. get_or cells j (pos 0)) (usable_of b (own b) (other b) n)) cells-length
          ∙ cells_at_lem (usable_of b (own b) (other b) (table_size I e)) (usable_below b)
          ∙ ap (map (λ j. get_or edges j (pos 0))) (sym (usable_places_lem b))

    -- a table with so many cells has the edge's ends
    module _ (cells : List ℤ) (size : length cells ≡ table_size I e) where
      pub shape_of : Shape d (I.degree low) cells
      unfolding table_size
      shape_of = record { wide = d_some; narrow = good.few high high_in; high = good.labelled low low_in; low = good.few low low_in; size = size }

      some_cell : (b : Bool) → 0 < length (usable_of b (own b) (other b) (length cells))
      unfolding table_size cell
      some_cell b =
          let (k, i, hk, hi, x) = good.some_usable e h in
          let j = d * k + i in
          let m = mul-le-mul_left d hk in
          let l : j < I.degree low * d = omega arith in
          mem_some (mem_select (usable_in b (own b) (other b)) (mem_range 0 (length cells) j (omega arith) (omega arith))
          (usable_in_lem b j l ∙ ap₂ (λ (p q : ℕ). usable (I.label p) (I.label q)) (cell_row I e k i hi) (cell_column I e k i (good.ordered e h) hi) ∙ x))

      pub ends_of : (b : Bool) → Ends b (own b) (other b) cells
      ends_of b = record {
        shape = subst (λ (w : ℕ). Shape w (cond b (length (own b)) (length (other b))) cells) (sym (width_is b)) (subst (λ (t : ℕ). Shape d t cells) (sym (height_is b)) shape_of);
        rises = by_cond Rising b (λ _. labels_rise high_in) (λ _. labels_rise low_in);
        some = some_cell b;
      }
