-- Records of kinds 1 and 2: the amounts by position are the rules' amounts by place, so that what the code leaves of a row and a table is what the rules say.
-- Assumes nothing.
use Rattle.std.proofs.Common.{◌≡◌, ℕ, ◌+◌, ◌-◌, ◌*◌, ◌^◌, ◌<◌, ◌≤◌, Bool, true, false, cond, ◌&&◌, eqb, ltb, ◌⊎◌, List, ◌++◌, map, length, get_or, take, drop, ℤ, pos, ◌-ℤ◌, neg_ℤ, sym, refl, ap, ◌∙◌, ap₂, ⊎_elim, arith, lt-ltb, eqb-true}
use mathlib.Core.Path.{transport}
use borrow.Author.Tests.{eqb-false}
use borrow.Rule.Slice.PartMut.{put_mid}
use Rattle.integers.specs.Least.{least_of}
use Rattle.integers.specs.Share.{share, excess}
use Rattle.integers.specs.Sum.{Within}
use Rattle.integers.specs.Places.{select, every}
use Rattle.integers.specs.Checks.{within}
use Rattle.integers.specs.Rows.{part}
use Rattle.integers.proofs.Places.{by_cond, of-cond, if-true, if-false, select_mem, get_d_tabulate}
use Rattle.integers.proofs.Ranges.{range-part, eqb_same, select-map, shifted_ext}
use Rattle.integers.proofs.Rows.{length_part, get_d_part, within_part, part_back, part_kept}
use Rattle.index.proofs.Lists.{select_ext}
use Rattle.instance.specs.Instance.{Instance, first, node_cells, table_size, table, edge_cells}
use Rattle.instance.specs.Sheet.{instance_of, refusal_of}
use Rattle.instance.specs.Readable.{Proper}
use Rattle.instance.proofs.LaidOut.{positions_few_lem, row_inside, table_inside}
use Rattle.rules.specs.Places.{end_place, end_places, node_places}
use Rattle.rules.specs.Costs.{Buffers, costs_of, in_range, Sized, node_least, edge_least}
use Rattle.rules.specs.Messages.{node_to_edge, edge_to_node, to_edge, deltas, shift}
use Rattle.rules.specs.Run.{refused, done, checked}
use Rattle.rules.specs.Calls.{cost_limit}
use Rattle.rules.proofs.Bridge.{moved_edge, touched_edge}
use Rattle.messages.specs.Lent.{lent}
use Rattle.instance.specs.declared.sheet.Sheet.{Sheet}
use Rattle.instance.specs.Described.{labels_of}
use Rattle.instance.proofs.Sheets as sheet
use Rattle.messages.specs.Step.{Settled, settle, settled}
use Rattle.messages.specs.EdgeMessage.{position_in, node_amounts, width_of, usable_of, usable_cells, cells_at, edge_amounts, moved_row, moved_cells, Ends}
use Rattle.messages.specs.EdgeRecord.{EdgeMove, edge_move, edge_amount, given_row, given_cells, moved_by, edge_moved, CostsWithin, EdgeLegal, Joined, amounts_of, fit_parts, parts_moved}
use Rattle.messages.proofs.SheetLaws.{proper}
use Rattle.messages.proofs.EndLaws.{end_is, end_below, labels_length, width_is, both_sizes, usable_places_lem, cells-length, cells_at_lem, usable_below, usable_cells_lem, ends_of}
use Rattle.messages.proofs.EdgeLaws.{node_within, edge_within}

-- the buffers once both lists are replaced, and what is answered
abbrev pub edge_settled : Buffers → EdgeMove → Settled
edge_settled b m = settle (lent m.nodes b.labels m.edges b.incumbent) 0 m.refusal

-- no amount passes twice the limit
pub given_within : {row cells : List ℤ} {by_row : Bool} {own other : List ℕ} → Joined row cells by_row own other → (turned : Bool) (r : ℕ) → Within (2 ^ 41) (amounts_of turned by_row own other row cells r)
given_within {row} {cells} {by_row} {own} {other} j turned r = by_cond (Within (2 ^ 41)) turned (λ _. edge_within by_row own other cells r j.cell_range) (λ _. node_within row r j.row_range)

-- the row from a to b and the table from c to d put back
abbrev pub put_back : List ℤ → List ℤ → ℕ → ℕ → ℕ → ℕ → EdgeMove → EdgeMove
put_back nodes edges a b c d m = edge_move m.refusal (take a nodes ++ (m.nodes ++ drop b nodes)) (take c edges ++ (m.edges ++ drop d edges))

-- ---- the amounts by position are the amounts by place

module _ (s : List ℕ) (readable : refusal_of s ≡ 0) where
  abbrev I : Instance
  I = instance_of s

  abbrev p : Proper I
  p = proper s readable

  module _ (nodes edges : List ℤ) (ln : length nodes ≡ node_cells I) (le : length edges ≡ edge_cells I) {u e : ℕ} (hu : u < I.node_count) (he : e < I.edge_count) (r : ℕ) where
    abbrev row : List ℤ
    row = part nodes (first I u) (I.degree u)

    abbrev cells : List ℤ
    cells = part edges (table I e) (table_size I e)

    abbrev by_row : Bool
    by_row = eqb u (I.low e)

    abbrev width : ℕ
    width = I.degree (I.high e)

    row_fits : first I u + I.degree u ≤ length nodes
    row_fits = omega (arith, row_inside I hu)

    row-length : length row ≡ I.degree u
    row-length = length_part nodes (first I u) (I.degree u) row_fits

    -- the labels of the end u and of the other one
    abbrev own : List ℕ
    own = cond by_row (labels_of s (I.low e)) (labels_of s (I.high e))

    abbrev other : List ℕ
    other = cond by_row (labels_of s (I.high e)) (labels_of s (I.low e))

    node_amount_lem : (k : ℕ) → k < I.degree u → get_or (node_amounts row r) k (pos 0) ≡ edge_amount I nodes edges false u e r (first I u + k)
    unfolding node_amounts edge_amount node_places
    node_amount_lem k h =
        let f : ℕ → ℤ = (λ k. cond (ltb k (length row)) (share (get_or row k (pos 0) -ℤ least_of row) r) (pos 0)) in
        get_d_tabulate 16 f k (pos 0) (omega (arith, p.few u hu))
        ∙ if-true (share (get_or row k (pos 0) -ℤ least_of row) r) (pos 0) (lt-ltb k (length row) (omega (arith, row-length)))
        ∙ ap₂ (λ (x y : ℤ). share (x -ℤ y) r) (get_d_part nodes (first I u) (I.degree u) k (pos 0) h) (ap least_of (sym (range-part nodes (pos 0) (first I u) (I.degree u) row_fits)))

    -- the usable cells with u at its position k
    cells_there : (k : ℕ) → cells_at by_row own other cells k ≡ map (λ j. get_or edges j (pos 0)) (end_places I e u (first I u + k))
    unfolding end_places
    cells_there k =
        let T = table I e in
        let n = table_size I e in
        let t : ℕ → Bool = (λ j. eqb (position_in by_row (width_of by_row own other) j) k) in
        let v : ℕ → Bool = (λ j. eqb (end_place I e u j) (first I u + k)) in
        let f : ℕ → ℤ = (λ j. get_or cells j (pos 0)) in
        let g : ℕ → ℤ = (λ j. get_or edges j (pos 0)) in
        let l = usable_of by_row own other n in
        let same : (j : ℕ) → t j ≡ v (T + j) = (λ j.
        ap (λ (w : ℕ). eqb (position_in by_row w j) k) (width_is s readable he by_row)
        ∙ eqb_same (position_in by_row width j) k (first I u + position_in by_row width j) (first I u + k) (ap (λ (i : ℕ). first I u + i)) (λ z. omega arith)
        ∙ ap (λ (i : ℕ). eqb i (first I u + k)) (sym (end_is I e u j))) in
        ap (λ (m : ℕ). map f (select t (usable_of by_row own other m))) (cells-length s readable he edges le)
        ∙ ap (map f) (select_ext t (λ j. v (T + j)) l (λ j _. same j))
        ∙ cells_at_lem s readable he edges le (select (λ j. v (T + j)) l) (λ j m. usable_below s readable he by_row j (select_mem (λ j. v (T + j)) l m).0)
        ∙ ap (map g) (sym (select-map v (λ j. T + j) l) ∙ ap (select v) (sym (usable_places_lem s readable he by_row)))

    cell_amount : (k : ℕ) → k < I.degree u → get_or (edge_amounts by_row own other cells r) k (pos 0) ≡ edge_amount I nodes edges true u e r (first I u + k)
    unfolding edge_amounts edge_amount
    cell_amount k h =
        get_d_tabulate 16 (λ k. neg_ℤ (excess (cells_at by_row own other cells k) (least_of (usable_cells by_row own other cells)) r)) k (pos 0) (omega (arith, p.few u hu))
        ∙ ap₂ (λ (l : List ℤ) (x : ℤ). neg_ℤ (excess l x r)) (cells_there k) (ap least_of (usable_cells_lem s readable he edges le by_row))

    -- kind 1 or kind 2
    module _ (turned : Bool) where
      abbrev amounts : List ℤ
      amounts = amounts_of turned by_row own other row cells r

      abbrev given : ℕ → ℤ
      given = edge_amount I nodes edges turned u e r

      amount_at : (k : ℕ) → k < I.degree u → get_or amounts k (pos 0) ≡ given (first I u + k)
      amount_at = by_cond (λ l. (k : ℕ) → k < I.degree u → get_or l k (pos 0) ≡ given (first I u + k)) turned (λ q. rw q cell_amount) (λ q. rw q node_amount_lem)

      -- so are the row and the table that are left
      row_is : moved_row amounts row ≡ given_row I nodes edges u given
      row_is =
          shifted_ext (λ k. neg_ℤ (get_or amounts k (pos 0))) (λ k. neg_ℤ (given (first I u + k))) row (λ k h. ap neg_ℤ (amount_at k (omega (arith, row-length))))

      cells_are : (u ≡ I.low e) ⊎ (u ≡ I.high e) → moved_cells by_row width amounts cells ≡ given_cells I nodes edges u e given
      cells_are t =
          shifted_ext (λ j. get_or amounts (position_in by_row width j) (pos 0)) (λ j. given (end_place I e u (table I e + j))) cells
          (λ j h. amount_at (position_in by_row width j) (end_below I p he t j (omega (arith, cells-length s readable he edges le))) ∙ ap given (sym (end_is I e u j)))

      -- what the code leaves
      parts_are : (limit : ℕ) → (u ≡ I.low e) ⊎ (u ≡ I.high e)
          → put_back nodes edges (first I u) (first I u + I.degree u) (table I e) (table I e + table_size I e) (parts_moved limit amounts row cells by_row width) ≡ edge_moved I nodes edges limit turned u e r
      unfolding parts_moved edge_moved moved_by
      parts_are limit t =
          let a = first I u in
          let c = table I e in
          let put = put_back nodes edges a (a + I.degree u) c (c + table_size I e) in
          of-cond put (every (within limit) (moved_row amounts row) && every (within limit) (moved_cells by_row width amounts cells)) (edge_move 0 (moved_row amounts row) (moved_cells by_row width amounts cells)) (edge_move 13 row cells)
          ∙ (λ j. let k = row_is j in
          let l = cells_are t j in
          cond (every (within limit) k && every (within limit) l) (put (edge_move 0 k l)) (edge_move 13 (part_kept a (I.degree u) nodes j) (part_kept c (table_size I e) edges j)))

-- ---- what the rules say of such a record

module _ (I : Instance) where
  module _ (limit : ℕ) {b : Buffers} (z : Sized I b) (h : in_range limit b ≡ true) {u e : ℕ} (hu : u < I.node_count) (he : e < I.edge_count) where
    settled_by_lem : (p : ℕ → ℤ) → settled b (checked I limit (shift (to_edge I u e p) b)) ≡ edge_settled b (moved_by I b.nodes b.edges limit u e p)
    unfolding checked moved_by
    settled_by_lem p =
        let ns = given_row I b.nodes b.edges u p in
        let es = given_cells I b.nodes b.edges u e p in
        let l = take (first I u) b.nodes ++ (ns ++ drop (first I u + I.degree u) b.nodes) in
        let m = take (table I e) b.edges ++ (es ++ drop (table I e + table_size I e) b.edges) in
        ap₂ (λ (t : Bool) (b' : Buffers). settled b (cond t (done b' 0) (refused 13))) (touched_edge I limit z h hu he p) (moved_edge I z hu he p)
        ∙ go (every (within limit) ns && every (within limit) es) l m
      where
        go : (t : Bool) (l m : List ℤ)
            → settled b (cond t (done (lent l b.labels m b.incumbent) 0) (refused 13)) ≡ edge_settled b (cond t (edge_move 0 l m) (edge_move 13 b.nodes b.edges))
        go true l m = refl
        go false l m = refl

    pub edge_settled_lem : (turned : Bool) (r : ℕ) → settled b (checked I limit (shift (deltas I (costs_of b) (cond turned edge_to_node node_to_edge) u e r) b)) ≡ edge_settled b (edge_moved I b.nodes b.edges limit turned u e r)
    unfolding deltas node_least edge_least edge_moved edge_amount
    edge_settled_lem true r = settled_by_lem (edge_amount I b.nodes b.edges true u e r)
    edge_settled_lem false r = settled_by_lem (edge_amount I b.nodes b.edges false u e r)

-- ---- a record that names what exists, as the code reads the sheet

module _ (x : Sheet) {limit : ℕ} {nodes edges : List ℤ} {u e r : ℕ} (g : EdgeLegal limit x.bytes.now nodes edges u e r) where
  abbrev s : List ℕ
  s = x.bytes.now

  abbrev J : Instance
  J = instance_of s

  sound : Proper J
  sound = sheet.proper x

  pub node_here : u < x.nodes
  node_here = omega (arith, sheet.nodes_is x, g.node)

  pub edge_here : e < x.edges
  edge_here = omega (arith, sheet.edges_is x, g.edge)

  pub legal_node : u < 64
  legal_node = omega (arith, g.node, sound.nodes_few)

  pub legal_edge_lem : e < 256
  legal_edge_lem = omega (arith, g.edge, sound.edges_few)

-- what the code reads of the sheet for such a record: whether u is the lower end of e, its labels, and those of the other end
pub record Found (x : Sheet) (limit : ℕ) (nodes edges : List ℤ) (u e r : ℕ) (b : Bool) (own other : List ℕ) : Type 0 where
  pub legal : EdgeLegal limit x.bytes.now nodes edges u e r
  pub named : b ≡ eqb u ((instance_of x.bytes.now).low e)
  pub own_is : own ≡ labels_of x.bytes.now u
  pub other_is : other ≡ labels_of x.bytes.now (cond b ((instance_of x.bytes.now).high e) ((instance_of x.bytes.now).low e))

module _ {x : Sheet} {limit : ℕ} {nodes edges : List ℤ} {u e r : ℕ} {b : Bool} {own other : List ℕ} (f : Found x limit nodes edges u e r b own other) where
  abbrev R : Instance
  R = instance_of x.bytes.now

  good : Proper R
  good = sheet.proper x

  abbrev a : ℕ
  a = get_or x.starts u 0

  abbrev c : ℕ
  c = get_or x.tables e 0

  fa : a ≡ first R u
  fa = sheet.start_is x (node_here x f.legal)

  ec : c ≡ table R e
  ec = sheet.table_is x (edge_here x f.legal)

  ed : length own ≡ R.degree u
  ed = ap length f.own_is ∙ labels_length x.bytes.now x.readable f.legal.node

  -- by the ends of the edge
  own_here : own ≡ cond (eqb u (R.low e)) (labels_of x.bytes.now (R.low e)) (labels_of x.bytes.now (R.high e))
  own_here =
      f.own_is ∙ by_cond (λ (l : List ℕ). labels_of x.bytes.now u ≡ l) (eqb u (R.low e)) (λ q. ap (labels_of x.bytes.now) (eqb-true u (R.low e) q))
      (λ q. ⊎_elim (λ (z : u ≡ R.low e). absurd (eqb-false u (R.low e) q z)) (λ (z : u ≡ R.high e). ap (labels_of x.bytes.now) z) f.legal.touches)

  other_here : other ≡ cond (eqb u (R.low e)) (labels_of x.bytes.now (R.high e)) (labels_of x.bytes.now (R.low e))
  other_here = f.other_is ∙ of-cond (labels_of x.bytes.now) b (R.high e) (R.low e) ∙ ap (λ (t : Bool). cond t (labels_of x.bytes.now (R.high e)) (labels_of x.bytes.now (R.low e))) f.named

  ew : width_of b own other ≡ R.degree (R.high e)
  ew = (λ j. width_of (f.named j) (own_here j) (other_here j)) ∙ width_is x.bytes.now x.readable f.legal.edge (eqb u (R.low e))

  size : length own * length other ≡ table_size R e
  size = ap₂ (λ (x y : List ℕ). length x * length y) own_here other_here ∙ both_sizes x.bytes.now x.readable f.legal.edge (eqb u (R.low e))

  pub row_ends : a + length own ≤ length nodes
  row_ends = omega (arith, fa, ed, row_inside R f.legal.node, f.legal.node_costs.size)

  pub table_ends : c + length own * length other ≤ length edges
  table_ends = omega (arith, ec, size, table_inside R f.legal.edge, f.legal.edge_costs.size)

  pub row_room : a + length own ≤ 1_024
  row_room = omega (arith, row_ends, positions_few_lem good, f.legal.node_costs.size)

  pub table_room : c + length own * length other ≤ 4_096
  table_room = omega (arith, table_ends, good.cells_few, f.legal.edge_costs.size)

  row_size : a + length own - a ≡ length own
  row_size = omega arith

  table_size_lem : c + length own * length other - c ≡ length own * length other
  table_size_lem = omega arith

  abbrev cut : List ℤ
  cut = part edges c (c + length own * length other - c)

  cut-length : length cut ≡ table_size R e
  cut-length = length_part edges c (c + length own * length other - c) (omega (arith, table_ends)) ∙ table_size_lem ∙ size

  abbrev costs : List ℤ
  costs = part nodes a (a + length own - a)

  abbrev w : ℕ
  w = width_of b own other

  pub legal_joined : Joined costs cut b own other
  legal_joined =
      let n = length_part nodes a (a + length own - a) (omega (arith, row_ends)) in
      record {
        some = omega (arith, ed, good.labelled u f.legal.node);
        few = omega (arith, ed, good.few u f.legal.node);
        ends = transport (λ j. Ends (sym f.named j) (sym own_here j) (sym other_here j) cut) (ends_of x.bytes.now x.readable f.legal.edge cut cut-length (eqb u (R.low e)));
        row_range = within_part cost_limit a (a + length own - a) nodes f.legal.node_costs.range;
        cell_range = within_part cost_limit c (c + length own * length other - c) edges f.legal.edge_costs.range;
      }

  -- both within the limit of the call
  pub legal_ranged : CostsWithin limit costs cut
  legal_ranged = record {
    of_nodes = within_part limit a (a + length own - a) nodes f.legal.ranged.of_nodes;
    of_edges = within_part limit c (c + length own * length other - c) edges f.legal.ranged.of_edges;
  }

  -- a move, by amounts that the code found
  module _ (turned : Bool) {amounts : List ℤ} (ea : amounts ≡ amounts_of turned b own other costs cut r) where
    abbrev put : EdgeMove → EdgeMove
    put = put_back nodes edges a (a + length own) c (c + length own * length other)

    abbrev moved : EdgeMove
    moved = edge_moved R nodes edges limit turned u e r

    told : put (parts_moved limit amounts costs cut b w) ≡ moved
    told =
        let sb = row_size ∙ ed in
        let sd = table_size_lem ∙ size in
        ap (λ (v : List ℤ). put (parts_moved limit v costs cut b w)) ea
        ∙ (λ j. let k = part nodes (fa j) (sb j) in
        let l = part edges (ec j) (sd j) in
        put_back nodes edges (fa j) (fa j + ed j) (ec j) (ec j + size j) (parts_moved limit (amounts_of turned (f.named j) (own_here j) (other_here j) k l r) k l (f.named j) (ew j)))
        ∙ parts_are x.bytes.now x.readable nodes edges f.legal.node_costs.size f.legal.edge_costs.size f.legal.node f.legal.edge r turned limit f.legal.touches

    -- whether all stay within the limit
    abbrev fit : Bool
    fit = fit_parts limit (amounts_of turned b own other costs cut r) b w costs cut

    fit_is : fit_parts limit amounts b w costs cut ≡ fit
    fit_is = ap (λ (v : List ℤ). fit_parts limit v b w costs cut) ea

    -- written, and refused
    pub legal_written : fit ≡ true → {k l : List ℤ} {n : ℕ} → k ≡ moved_row amounts costs → n ≡ w → l ≡ moved_cells b n amounts cut
        → edge_move 0 (put_mid a (a + length own - a) nodes k) (put_mid c (c + length own * length other - c) edges l) ≡ moved
    unfolding parts_moved
    legal_written t {k} {l} row z q =
        let table = q ∙ ap (λ (n : ℕ). moved_cells b n amounts cut) z in
        (λ j. edge_move 0 (part_back a (a + length own) nodes k (omega arith) j) (part_back c (c + length own * length other) edges l (omega arith) j))
        ∙ ap put ((λ j. edge_move 0 (row j) (table j)) ∙ sym (if-true _ _ (fit_is ∙ t))) ∙ told

    pub legal_kept : fit ≡ false → edge_move 13 nodes edges ≡ moved
    unfolding parts_moved
    legal_kept t =
        (λ j. edge_move 13 (kept a (a + length own) nodes (omega arith) j) (kept c (c + length own * length other) edges (omega arith) j))
        ∙ ap put (sym (if-false _ _ (fit_is ∙ t))) ∙ told
      where
        kept : (m n : ℕ) (l : List ℤ) → m ≤ n → l ≡ take m l ++ (part l m (n - m) ++ drop n l)
        kept m n l h = let z : m + (n - m) ≡ n = omega arith in sym (part_kept m (n - m) l) ∙ ap (λ (k : ℕ). take m l ++ (part l m (n - m) ++ drop k l)) z
