-- `keys_of` meets its contract: after k edges of the node's row the keys are those with these edges.
use Rattle.std.proofs.Common.{◌≡◌, ℕ, ◌+◌, ◌-◌, ◌^◌, ◌<◌, ◌≤◌, List, [], ◌∷◌, ◌++◌, length, get_or, take, drop, replicate, ℤ, pos, sym, ap, ◌∙◌, subst, ap₂, arith, length-take, take_all}
use Rattle.std.proofs.lemmas.List.{take_more}
use Rattle.integers.specs.Rows.{part}
use Rattle.integers.specs.Sum.{Within}
use Rattle.integers.proofs.Rows.{within_part}
use Rattle.rules.specs.Calls.{cost_limit}
use Rattle.instance.specs.Instance.{Instance, first}
use Rattle.instance.specs.Sheet.{instance_of}
use Rattle.instance.specs.declared.sheet.Sheet.{Sheet}
use Rattle.instance.proofs.Sheets as sheet
use Rattle.messages.specs.Rounded.{added, edge_row, Lowers}
use Rattle.messages.proofs.IndexLaws.{made_is, row_keyed}
use Rattle.messages.proofs.StateLaws.{nodes_fit, edges_fit}
use Rattle.messages.proofs.KeyLaws.{keys_over, keys_length, keys_small, keys_first, keys_next, keys_all, row_room}
use Rattle.messages.proofs.state.State.keys_of.Goals as goal
use Rattle.messages.proofs.state.State.keys_of.Goals.{After-degree, After-from, At-loop-e, Start}

-- the node at entry
module _ (q : Start) where
  abbrev s : Sheet
  s = q.args.self.now.run.now.sheet

  abbrev I : Instance
  I = instance_of s.bytes.now

  abbrev nodes : List ℤ
  nodes = q.args.self.now.nodes.now

  abbrev edges : List ℤ
  edges = q.args.self.now.edges.now

  abbrev x : List ℕ
  x = q.args.positions.now

  abbrev u : ℕ
  u = q.args.u

  low : u < 64
  low = omega (arith, q.requires.placed.0, sheet.nodes_few s)

  begins : get_or s.starts u 0 ≡ first I u
  begins = sheet.start_is s q.requires.placed.0

  inside : first I u + I.degree u ≤ length nodes
  inside = omega (arith, sheet.row_here s q.requires.placed.0, (nodes_fit q.args.self.now).size, sheet.positions_is s)

  short : length nodes ≤ 1_024
  short = omega (arith, sheet.positions_few s, sheet.positions_is s, (nodes_fit q.args.self.now).size)

-- its row, where the degree was read
module _ (p : After-degree) where
  abbrev entry : Start
  entry = (goal.at.After-degree p).Start

  abbrev begin : ℕ
  begin = get_or (s entry).starts (u entry) 0

  room : begin + p.degree.result ≤ length (nodes entry)
  room = omega (arith, begins entry, p.degree.ensures.0, inside entry)

  read : take (begin + p.degree.result - begin) (drop begin (nodes entry)) ≡ part (nodes entry) (first (I entry) (u entry)) ((I entry).degree (u entry))
  read =
      let a : begin + p.degree.result - begin ≡ p.degree.result = omega arith in
      ap₂ (λ (m k : ℕ). take m (drop k (nodes entry))) (a ∙ p.degree.ensures.0) (begins entry)

-- in each turn
module _ (t : At-loop-e) where
  abbrev start : Start
  start = (goal.at.At-loop-e t).Start

  abbrev row : List ℕ
  row = t.row-e-items.result.now

  abbrev sofar : List ℕ
  sofar = take t.loop-e.e-index row

  long : length t.loop-e.keys ≡ 16
  long = ap length t.loop-e.invariant ∙ keys_length (I start) (nodes start) (edges start) (x start) (u start) sofar

  small : Within (2 ^ 50) t.loop-e.keys
  small =
      subst (Within (2 ^ 50)) (sym t.loop-e.invariant)
      (keys_small (I start) (nodes start) (edges start) (x start) (u start) (nodes_fit start.args.self.now).range (edges_fit start.args.self.now).range sofar
      (omega (arith, length-take t.loop-e.e-index row, t.row-e-items.ensures.few)))

-- the index
lowered : (t : At-loop-e) → Lowers (s (start t)).bytes.now t.unwrap-lowers.result.now
lowered t = made_is (start t).args.self.now.lowered t.as_ref.ensures.value t.unwrap-lowers.ensures

-- an edge of the row
module _ (p : After-from) where
  abbrev head : At-loop-e
  head = (goal.at.After-from p).At-loop-e

  abbrev q : Start
  q = start head

  keyed : ((I q).high p.from.result ≡ u q) × (p.from.result < (I q).edge_count)
  keyed = rw p.from.ensures (row_keyed (lowered head) (low q) head.row-e-items.ensures.things p.loop-e-test.true)

  exists : p.from.result < (s q).edges
  exists = omega (arith, keyed.1, sheet.edges_is (s q))

pub offset_bounds-sheet-u : goal.offset_bounds-sheet-u
offset_bounds-sheet-u c = omega (arith, low c)

pub bounds-sheet-u : goal.bounds-sheet-u
bounds-sheet-u c = low (goal.at.bounds-sheet-u c).Start

pub overflow_add-start : goal.overflow_add-start
overflow_add-start c = omega (arith, room c, short (entry c))

pub offset_bounds-self-start : goal.offset_bounds-self-start
offset_bounds-self-start c =
    let p = (goal.at.offset_bounds-self-start c).After-degree in omega (arith, room p, short (entry p))

pub slice_bounds-add_cells-end-3 : goal.slice_bounds-add_cells-end-3
slice_bounds-add_cells-end-3 c = room (goal.at.slice_bounds-add_cells-end-3 c).After-degree

pub add_cells-requires-clause-within_2 : goal.add_cells-requires-clause-within_2
add_cells-requires-clause-within_2 c =
    let p = (goal.at.add_cells-requires-clause-within_2 c).After-degree in
    within_part cost_limit (begin p) (begin p + c.degree.result - begin p) c.args.self.now.nodes.now (nodes_fit c.args.self.now).range

pub row-e-items-requires : goal.row-e-items-requires
row-e-items-requires c = low (goal.at.row-e-items-requires c).Start

pub loop-e-init : goal.loop-e-init
loop-e-init c =
    let p = (goal.at.loop-e-init c).After-degree in let q = entry p in
    c.add_cells.ensures ∙ ap (added (replicate 16 (pos 0))) (read p) ∙ keys_first (I q) (nodes q) (edges q) (x q) (u q) (inside q)

pub add_edge-requires-clause-placed : goal.add_edge-requires-clause-placed
add_edge-requires-clause-placed c =
    let p = (goal.at.add_edge-requires-clause-placed c).After-from in (c.requires.placed.1, exists p, (keyed p).0)

pub add_edge-requires-clause-keys_len : goal.add_edge-requires-clause-keys_len
add_edge-requires-clause-keys_len c =
    let h = (goal.at.add_edge-requires-clause-keys_len c).At-loop-e in (long h, small h)

pub loop-e-preserved : goal.loop-e-preserved
loop-e-preserved c =
    let p = (goal.at.loop-e-preserved c).After-from in let h = head p in let r = q p in
    let e = p.from.result in
    c.add_edge.ensures ∙ ap (λ (k : List ℤ). added k (edge_row (I r) (edges r) (x r) e)) h.loop-e.invariant
    ∙ keys_next (I r) (nodes r) (edges r) (x r) (u r) (sofar h) e (keyed p).0 (row_room (s r) (edges_fit r.args.self.now) (x r) r.requires.placed.1 (exists p) (keyed p).0)
    ∙ ap (keys_over (I r) (nodes r) (edges r) (x r) (u r)) (ap (λ (d : ℕ). sofar h ++ d ∷ []) p.from.ensures ∙ sym (take_more (row h) h.loop-e.e-index 0 p.loop-e-test.true))

pub returns : goal.returns
returns c =
    let h = (goal.at.returns c).At-loop-e in let r = start h in
    c.loop-e.invariant
    ∙ ap (keys_over (I r) (nodes r) (edges r) (x r) (u r)) (take_all c.loop-e.e-index (row h) c.loop-e-test.false ∙ c.row-e-items.ensures.things ∙ (lowered h).rows (u r) (low r))
    ∙ keys_all (I r) (nodes r) (edges r) (x r) (u r)
