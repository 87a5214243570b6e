-- `legal_edge` meets its contract, test by test.
use Rattle.std.proofs.Common.{◌||◌, eqb, ltb, sym, ◌∙◌, arith}
use Rattle.instance.specs.Sheet.{instance_of}
use Rattle.instance.proofs.Sheets.{edges_is}
use Rattle.rules.specs.Run.{legal_share, legal_edge}
use Rattle.messages.proofs.RecordLaws.{tests_off, tests_past, tests_on}
use Rattle.messages.proofs.records.legal_edge.Goals as goal

pub returns-then-step-sheet : goal.returns-then-step-sheet
unfolding legal_edge
returns-then-step-sheet c =
    let x = c.args.sheet.now in let I = instance_of x.bytes.now in let r = c.args.step in
    c.ends.ensures ∙ tests_on (legal_share r.share) (ltb r.node I.node_count) r.index (I.edge_count) (eqb r.node (I.low r.index) || eqb r.node (I.high r.index)) (sym c.legal_node.ensures ∙ c.if-legal_node.true) (omega (arith, c.if-step-sheet.true, edges_is x))

pub returns-else-step-sheet : goal.returns-else-step-sheet
unfolding legal_edge
returns-else-step-sheet c =
    let x = c.args.sheet.now in let I = instance_of x.bytes.now in let r = c.args.step in
    tests_past (legal_share r.share) (ltb r.node I.node_count) r.index (I.edge_count) (eqb r.node (I.low r.index) || eqb r.node (I.high r.index)) (sym c.legal_node.ensures ∙ c.if-legal_node.true) (omega (arith, c.if-step-sheet.false, edges_is x))

pub returns-else-legal_node : goal.returns-else-legal_node
unfolding legal_edge
returns-else-legal_node c =
    let x = c.args.sheet.now in let I = instance_of x.bytes.now in let r = c.args.step in
    tests_off (legal_share r.share) (ltb r.node I.node_count) r.index (I.edge_count) (eqb r.node (I.low r.index) || eqb r.node (I.high r.index)) (sym c.legal_node.ensures ∙ c.if-legal_node.false)
