-- `label` meets its contract: the labels stand behind the degrees.
use Rattle.std.proofs.Common.{◌∙◌, arith}
use Rattle.instance.proofs.Sheets.{nodes_few, positions_few, label_byte, label_is, label_byte_small}
use Rattle.instance.proofs.sheet.Sheet.label.Goals as goal

pub overflow_add-self : goal.overflow_add-self
overflow_add-self c = let x = c.args.self.now in omega (arith, nodes_few x, positions_few x, c.requires)

pub bounds-self-self : goal.bounds-self-self
bounds-self-self c = label_byte c.args.self.now c.requires

pub returns : goal.returns
returns c =
    let x = c.args.self.now in
    let e = c.from.ensures ∙ label_is x c.args.place in (e, omega (arith, e, label_byte_small x c.requires))
