-- `places_by_label` meets its contract: the labels, which stand between the degrees and the node prices.
use Rattle.std.proofs.Common.{arith}
use Rattle.instance.proofs.Sheets.{whole, nodes_is}
use Rattle.messages.proofs.IndexLaws.{labels_between, place_index_is, holders_made}
use Rattle.messages.proofs.indexes.places_by_label.Goals as goal

pub slice_bounds-of-count : goal.slice_bounds-of-count
slice_bounds-of-count c = omega (arith, labels_between c.args.sheet.now)

pub slice_bounds-of-start : goal.slice_bounds-of-start
slice_bounds-of-start c = omega (arith, labels_between c.args.sheet.now)

pub slice_bounds-of-end : goal.slice_bounds-of-end
slice_bounds-of-end c = let x = c.args.sheet.now in omega (arith, labels_between x, nodes_is x, (whole x).whole)

pub returns-clause-entries : goal.returns-clause-entries
returns-clause-entries c = place_index_is c.args.sheet.now c.of.ensures

pub returns-clause-rows : goal.returns-clause-rows
returns-clause-rows c = holders_made c.args.sheet.now c.of.ensures
