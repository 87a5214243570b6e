-- `edge_span` meets its contract: an edge that is there begins at its table and has all its cells.
use Rattle.std.proofs.Common.{ap, ◌∙◌, arith, Bor, List, ℕ}
use Rattle.instance.proofs.Sheets.{edges_few, edge_prices_few, table_few}
use Rattle.exports.specs.Reading.{span_of}
use Rattle.exports.proofs.ShowLaws.{span_by}
use Rattle.exports.proofs.reading.edge_span.Goals as goal

pub offset_bounds-sheet-edge : goal.offset_bounds-sheet-edge
offset_bounds-sheet-edge c = omega (arith, edges_few c.in_ok-sheet.sheet, c.in_ok-sheet.ensures.there.1)

pub bounds-sheet-edge : goal.bounds-sheet-edge
bounds-sheet-edge c = omega (arith, edges_few c.in_ok-sheet.sheet, c.in_ok-sheet.ensures.there.1)

pub overflow_mul-from : goal.overflow_mul-from
overflow_mul-from c = omega (arith, table_few c.in_ok-sheet.sheet c.in_ok-sheet.ensures.there.1)

pub overflow_add-from : goal.overflow_add-from
overflow_add-from c =
    let x = c.in_ok-sheet.sheet in omega (arith, table_few x c.in_ok-sheet.ensures.there.1, edge_prices_few x)

pub returns-clause-span : goal.returns-clause-span
returns-clause-span c =
    let (same, there) = c.in_ok-sheet.ensures.there in
    span_by c.in_ok-sheet.sheet there c.size.ensures.0 ∙ ap (λ (b : Bor (List ℕ)). span_of b.now c.args.edge) same
