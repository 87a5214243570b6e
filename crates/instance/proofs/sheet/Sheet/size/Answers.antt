-- `size` meets its contract: by the degrees of both ends, 1 to 256 cells.
use Rattle.std.proofs.Common.{◌≡◌, ◌*◌, ap, ap₂, ◌∙◌, arith}
use Rattle.instance.specs.Instance.{table_size}
use Rattle.instance.specs.Sheet.{instance_of}
use Rattle.instance.proofs.LaidOut.{table_some, table_few}
use Rattle.instance.proofs.Sheets.{proper, edge_there}
use Rattle.instance.proofs.sheet.Sheet.size.Goals as goal
use Rattle.instance.proofs.sheet.Sheet.size.Goals.{After-degree-2}

size : (c : After-degree-2) → c.degree.result * c.degree-2.result ≡ table_size (instance_of c.args.self.now.bytes.now) c.args.e
unfolding table_size
size c =
    let d = (instance_of c.args.self.now.bytes.now).degree in
    ap₂ ◌*◌ (c.degree.ensures.0 ∙ ap d c.low-low.ensures.0) (c.degree-2.ensures.0 ∙ ap d c.high-high.ensures.0)

pub returns : goal.returns
returns c =
    let x = c.args.self.now in
    (size c, omega (arith, size c, table_some (proper x) (edge_there x c.requires)), omega (arith, size c, table_few (proper x) (edge_there x c.requires)))
