-- `cost_at` meets its contract: a place of a node or of a label lies in the costs.
use Rattle.std.proofs.Common.{arith}
use Rattle.instance.proofs.Sheets.{positions_few, positions_is}
use Rattle.messages.proofs.StateLaws.{nodes_fit, labels_fit}
use Rattle.messages.proofs.state.State.cost_at.Goals as goal

pub offset_bounds-self-place : goal.offset_bounds-self-place
offset_bounds-self-place c = let x = c.args.self.now.run.now.sheet in omega (arith, c.requires, positions_few x, positions_is x)

pub bounds-self-place : goal.bounds-self-place
bounds-self-place c = omega (arith, c.requires, (nodes_fit c.args.self.now).size)

pub offset_bounds-self-place-in-ToNode : goal.offset_bounds-self-place-in-ToNode
offset_bounds-self-place-in-ToNode c = let x = c.args.self.now.run.now.sheet in omega (arith, c.requires, positions_few x, positions_is x)

pub bounds-self-place-in-ToNode : goal.bounds-self-place-in-ToNode
bounds-self-place-in-ToNode c = omega (arith, c.requires, (labels_fit c.args.self.now).size)
