-- `place_of` meets its contract: the place lies in the node's row.
use Rattle.std.proofs.Common.{◌≡◌, ℕ, ◌+◌, ◌<◌, length, get_or, ap, arith}
use Rattle.instance.specs.declared.sheet.Sheet.{Sheet}
use Rattle.instance.specs.Instance.{first}
use Rattle.instance.proofs.Sheets.{nodes_is, nodes_few, start_is}
use Rattle.messages.specs.State.{instance_in}
use Rattle.messages.proofs.LabelMessageLaws.{place_in}
use Rattle.messages.proofs.StateLaws.{nodes_fit}
use Rattle.messages.proofs.state.State.place_of.Goals as goal
use Rattle.messages.proofs.state.State.place_of.Goals.{Start}

module _ (q : Start) where
  abbrev x : Sheet
  x = q.args.self.now.run.now.sheet

  node : q.args.step.node < x.nodes
  node = omega (arith, q.requires.node, nodes_is x)

  begins : get_or x.starts q.args.step.node 0 ≡ first (instance_in q.args.self.now) q.args.step.node
  begins = start_is x node

  inside : get_or x.starts q.args.step.node 0 + q.args.step.index < length q.args.self.now.nodes.now
  inside = let s = q.args.self.now in omega (arith, begins, place_in (instance_in s) q.requires.node q.requires.position s.nodes.now (nodes_fit s).size)

pub offset_bounds-sheet-step : goal.offset_bounds-sheet-step
offset_bounds-sheet-step c = omega (arith, node c, nodes_few (x c))

pub bounds-sheet-step : goal.bounds-sheet-step
bounds-sheet-step c = let q = (goal.at.bounds-sheet-step c).Start in omega (arith, node q, nodes_few (x q))

pub overflow_add-result : goal.overflow_add-result
overflow_add-result c = let q = (goal.at.overflow_add-result c).Start in omega (arith, inside q)

pub returns : goal.returns
returns c = let q = (goal.at.returns c).Start in ap (λ (a : ℕ). a + q.args.step.index) (begins q)
