-- `row_lows` meets its contract: the node's places are a range.
use Rattle.std.proofs.Common.{◌≡◌, ℕ, ◌+◌, ◌-◌, ◌<◌, ◌≤◌, length, get_or, pos, List, ap₂, subst, arith}
use Rattle.instance.specs.declared.sheet.Sheet.{Sheet}
use Rattle.instance.specs.Instance.{Instance, first}
use Rattle.instance.specs.Sheet.{instance_of}
use Rattle.instance.proofs.Sheets.{nodes_is, nodes_few, start_is, positions_few, positions_is}
use Rattle.integers.specs.Places.{range}
use Rattle.rules.specs.Places.{node_places}
use Rattle.messages.specs.EdgeMessage.{unbounded}
use Rattle.messages.specs.Lows.{Lowest}
use Rattle.messages.proofs.LabelMessageLaws.{row_in}
use Rattle.messages.proofs.StateLaws.{nodes_fit}
use Rattle.messages.proofs.state.State.row_lows.Goals as goal
use Rattle.messages.proofs.state.State.row_lows.Goals.{After-degree, Start}

-- the node, and where its row begins
module _ (q : Start) where
  abbrev x : Sheet
  x = q.args.self.now.run.now.sheet

  abbrev I : Instance
  I = instance_of x.bytes.now

  few : q.args.u < 64
  few = omega (arith, q.requires, nodes_few x)

  begins : get_or x.starts q.args.u 0 ≡ first I q.args.u
  begins = start_is x q.requires

  row : first I q.args.u + I.degree q.args.u ≤ length q.args.self.now.nodes.now
  row = row_in I (omega (arith, q.requires, nodes_is x)) q.args.self.now.nodes.now (nodes_fit q.args.self.now).size

pub offset_bounds-sheet-u : goal.offset_bounds-sheet-u
offset_bounds-sheet-u c = omega (arith, few c)

pub bounds-sheet-u : goal.bounds-sheet-u
bounds-sheet-u c = few (goal.at.bounds-sheet-u c).Start

pub overflow_add-from : goal.overflow_add-from
overflow_add-from c =
    let q = (goal.at.overflow_add-from c).Start in omega (arith, begins q, c.degree.ensures.0, row q, (nodes_fit q.args.self.now).size, positions_few (x q), positions_is (x q))

pub node_lows-requires : goal.node_lows-requires
node_lows-requires c =
    let q = (goal.at.node_lows-requires c).Start in (omega arith, omega (arith, begins q, c.degree.ensures.0, row q))

pub returns : goal.returns
unfolding node_places
returns c =
    let q = (goal.at.returns c).Start in
    let a = get_or (x q).starts q.args.u 0 in
    let d = c.degree.result in
    let e : a + d - a ≡ (I q).degree q.args.u = omega (arith, c.degree.ensures.0) in
    subst (λ (k : List ℕ). Lowest unbounded (λ i. get_or q.args.self.now.nodes.now i (pos 0)) k c.node_lows.result) (ap₂ range (begins q) e) c.node_lows.ensures
