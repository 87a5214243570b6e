-- `add_edge` meets its contract: the row lies in the edge's table.
use Rattle.std.proofs.Common.{◌≡◌, ℕ, ◌+◌, ◌-◌, ◌*◌, ◌<◌, ◌≤◌, length, get_or, take, drop, sym, ap, ◌∙◌, subst, ap₂, arith}
use Rattle.instance.specs.Instance.{Instance, table}
use Rattle.instance.specs.Sheet.{instance_of}
use Rattle.instance.proofs.Sheets as sheet
use Rattle.rules.specs.Costs.{position}
use Rattle.messages.specs.Rounded.{added, edge_row}
use Rattle.integers.proofs.Rows.{within_part}
use Rattle.rules.specs.Calls.{cost_limit}
use Rattle.messages.proofs.StateLaws.{edges_fit}
use Rattle.messages.proofs.KeyLaws.{row_room}
use Rattle.messages.proofs.state.State.add_edge.Goals as goal
use Rattle.messages.proofs.state.State.add_edge.Goals.{After-degree-degree, After-from, Start}

module _ (q : Start) where
  abbrev I : Instance
  I = instance_of q.args.self.now.run.now.sheet.bytes.now

  few : q.args.e < 256
  few = omega (arith, q.requires.placed.1, sheet.edges_few q.args.self.now.run.now.sheet)

  node : q.args.u < q.args.self.now.run.now.sheet.nodes
  node = subst (λ (w : ℕ). w < q.args.self.now.run.now.sheet.nodes) q.requires.placed.2 (sheet.high_node q.args.self.now.run.now.sheet q.requires.placed.1)

-- the row, with all that it rests on read
module _ (p : After-from) where
  abbrev degree : After-degree-degree
  degree = (goal.at.After-from p).After-degree-degree

  abbrev start : Start
  start = (goal.at.After-degree-degree degree).Start

  abbrev e : ℕ
  e = start.args.e

  abbrev long : ℕ
  long = degree.degree-degree.result

  abbrev from : ℕ
  from = get_or start.args.self.now.run.now.sheet.tables e 0 + long * p.from.result

  long_is : long ≡ (I start).degree ((I start).high e)
  long_is = degree.degree-degree.ensures.0 ∙ ap (I start).degree (sym start.requires.placed.2)

  from_is : from ≡ table (I start) e + (I start).degree ((I start).high e) * position start.args.positions.now ((I start).low e)
  from_is =
      λ j. sheet.table_is start.args.self.now.run.now.sheet start.requires.placed.1 j
      + long_is j * (p.from.ensures ∙ ap (λ (w : ℕ). get_or start.args.positions.now w 0) degree.low-low.ensures.0) j

  room : from + long ≤ length start.args.self.now.edges.now
  room = omega (arith, from_is, long_is, row_room start.args.self.now.run.now.sheet (edges_fit start.args.self.now) start.args.positions.now start.requires.placed.0 start.requires.placed.1 start.requires.placed.2)

  small : from + long ≤ 4_096
  small = omega (arith, room, (edges_fit start.args.self.now).size, (sheet.proper start.args.self.now.run.now.sheet).cells_few)

  read : take (from + long - from) (drop from start.args.self.now.edges.now) ≡ edge_row (I start) start.args.self.now.edges.now start.args.positions.now e
  read =
      let a : from + long - from ≡ long = omega arith in
      ap₂ (λ (m k : ℕ). take m (drop k start.args.self.now.edges.now)) (a ∙ long_is) from_is

pub degree-degree-requires : goal.degree-degree-requires
degree-degree-requires c = node (goal.at.degree-degree-requires c).Start

pub offset_bounds-sheet-e : goal.offset_bounds-sheet-e
offset_bounds-sheet-e c = omega (arith, few (goal.at.offset_bounds-sheet-e c).Start)

pub bounds-sheet-e : goal.bounds-sheet-e
bounds-sheet-e c = few (goal.at.bounds-sheet-e c).Start

pub bounds-positions-low : goal.bounds-positions-low
bounds-positions-low c = omega (arith, c.low-low.ensures.1, sheet.nodes_few c.args.self.now.run.now.sheet)

pub overflow_add-row : goal.overflow_add-row
overflow_add-row c = omega (arith, small c)

pub overflow_add-row-2 : goal.overflow_add-row-2
overflow_add-row-2 c = omega (arith, small (goal.at.overflow_add-row-2 c).After-from)

pub offset_bounds-self-row : goal.offset_bounds-self-row
offset_bounds-self-row c = omega (arith, small (goal.at.offset_bounds-self-row c).After-from)

pub slice_bounds-add_cells-end : goal.slice_bounds-add_cells-end
slice_bounds-add_cells-end c = room (goal.at.slice_bounds-add_cells-end c).After-from

pub returns : goal.returns
returns c =
    let p = (goal.at.returns c).After-from in c.add_cells.ensures ∙ ap (added (start p).args.keys.now) (read p)

pub add_cells-requires-clause-within_2 : goal.add_cells-requires-clause-within_2
add_cells-requires-clause-within_2 c =
    let p = (goal.at.add_cells-requires-clause-within_2 c).After-from in
    within_part cost_limit (from p) (from p + long p - from p) c.args.self.now.edges.now (edges_fit c.args.self.now).range
