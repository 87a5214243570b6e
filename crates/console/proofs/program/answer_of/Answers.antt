-- `answer_of` meets its contract: the parts of the arrays have the sheet's own lengths.
-- Assumes nothing.
use mathlib.Core.Path.{sym}
use lib.ListN.{take, replicate}
use lib.IntN.{pos}
use Rattle.instance.proofs.Sheets.{nodes_few, positions_few, cells_few}
use Rattle.messages.specs.Lent.{lent}
use Rattle.console.proofs.ProgramLaws.{part_length, parts_sized}
use Rattle.console.proofs.program.answer_of.Goals as goal

pub slice_bounds-nodes-end : goal.slice_bounds-nodes-end
slice_bounds-nodes-end c = positions_few c.args.sheet.now

pub slice_bounds-answer_in-end : goal.slice_bounds-answer_in-end
slice_bounds-answer_in-end c = sym (part_length 1_024 c.args.sheet.now.positions (pos 0) (positions_few c.args.sheet.now))

pub slice_bounds-labels-end : goal.slice_bounds-labels-end
slice_bounds-labels-end c = positions_few c.args.sheet.now

pub slice_bounds-answer_in-end-2 : goal.slice_bounds-answer_in-end-2
slice_bounds-answer_in-end-2 c = sym (part_length 1_024 c.args.sheet.now.positions (pos 0) (positions_few c.args.sheet.now))

pub slice_bounds-edges-end : goal.slice_bounds-edges-end
slice_bounds-edges-end c = cells_few c.args.sheet.now

pub slice_bounds-answer_in-end-3 : goal.slice_bounds-answer_in-end-3
slice_bounds-answer_in-end-3 c = sym (part_length 4_096 c.args.sheet.now.cells (pos 0) (cells_few c.args.sheet.now))

pub slice_bounds-incumbent-end : goal.slice_bounds-incumbent-end
slice_bounds-incumbent-end c = nodes_few c.args.sheet.now

pub slice_bounds-answer_in-end-4 : goal.slice_bounds-answer_in-end-4
slice_bounds-answer_in-end-4 c = sym (part_length 64 c.args.sheet.now.nodes 0 (nodes_few c.args.sheet.now))

pub answer_in-requires : goal.answer_in-requires
answer_in-requires c =
    let x = c.args.sheet.now in
    let nodes = part_length 1_024 x.positions (pos 0) (positions_few x) in
    parts_sized x
    (lent (take x.positions (replicate 1_024 (pos 0))) (take x.positions (replicate 1_024 (pos 0))) (take x.cells (replicate 4_096 (pos 0))) (take x.nodes (replicate 64 0)))
    nodes nodes (part_length 4_096 x.cells (pos 0) (cells_few x)) (part_length 64 x.nodes 0 (nodes_few x))
