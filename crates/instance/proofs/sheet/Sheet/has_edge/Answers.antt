-- `has_edge` meets its contract: the sheet was read, so that nothing but the edge may be missing.
use Rattle.std.proofs.Common.{sym, arith}
use Rattle.instance.proofs.Shown.{edge_past, edge_there}
use Rattle.instance.proofs.Sheets.{edges_is, edge_there as there}
use Rattle.instance.proofs.sheet.Sheet.has_edge.Goals as goal

pub returns-then-edge-self-clause-refusal : goal.returns-then-edge-self-clause-refusal
returns-then-edge-self-clause-refusal c =
    let x = c.args.self.now in
    sym (edge_there x.bytes.now c.args.edge x.readable (there x c.if-edge-self.true))

pub returns-else-edge-self-clause-refusal : goal.returns-else-edge-self-clause-refusal
returns-else-edge-self-clause-refusal c =
    let x = c.args.self.now in
    sym (edge_past x.bytes.now c.args.edge x.readable (omega (arith, edges_is x, c.if-edge-self.false)))
