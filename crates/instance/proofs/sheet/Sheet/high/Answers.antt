-- `high` meets its contract: both ends lie in the sheet.
use Rattle.std.proofs.Common.{◌∙◌, arith}
use Rattle.instance.proofs.Sheets.{edges_few, ends_few, end_bytes, high_is, high_node}
use Rattle.instance.proofs.sheet.Sheet.high.Goals as goal

pub overflow_mul-e : goal.overflow_mul-e
overflow_mul-e c = omega (arith, edges_few c.args.self.now, c.requires)

pub overflow_add-self : goal.overflow_add-self
overflow_add-self c = let x = c.args.self.now in omega (arith, edges_few x, ends_few x, c.requires)

pub overflow_add-self-2 : goal.overflow_add-self-2
overflow_add-self-2 c = let x = c.args.self.now in omega (arith, edges_few x, ends_few x, c.requires)

pub bounds-self-self : goal.bounds-self-self
bounds-self-self c = end_bytes c.args.self.now c.requires

pub returns : goal.returns
returns c =
    let x = c.args.self.now in let e = c.from.ensures ∙ high_is x c.args.e in (e, omega (arith, e, high_node x c.requires))
