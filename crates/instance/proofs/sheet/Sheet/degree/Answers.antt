-- `degree` meets its contract: the degrees are the sheet's first bytes.
use Rattle.std.proofs.Common.{◌∙◌, arith}
use Rattle.instance.proofs.Sheets.{node_byte, degree_is, degree_some, degree_few}
use Rattle.instance.proofs.sheet.Sheet.degree.Goals as goal

pub bounds-self-u : goal.bounds-self-u
bounds-self-u c = node_byte c.args.self.now c.requires

pub returns : goal.returns
returns c =
    let x = c.args.self.now in
    let e = c.from.ensures ∙ degree_is x c.args.u in
    (e, omega (arith, e, degree_some x c.requires), omega (arith, e, degree_few x c.requires))
