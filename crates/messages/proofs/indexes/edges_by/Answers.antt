-- `edges_by` meets its contract: every second byte of the ends.
use Rattle.std.proofs.Common.{arith}
use Rattle.instance.proofs.Sheets.{edges_few, ends_few}
use Rattle.messages.proofs.IndexLaws.{end_few, ends_inside, edge_index_is, ended_made}
use Rattle.messages.proofs.indexes.edges_by.Goals as goal

pub overflow_add-from : goal.overflow_add-from
overflow_add-from c = omega (arith, end_few c.args.end, ends_few c.args.sheet.now)

pub overflow_mul-past : goal.overflow_mul-past
overflow_mul-past c = omega (arith, edges_few c.args.sheet.now)

pub overflow_add-past : goal.overflow_add-past
overflow_add-past c = let x = c.args.sheet.now in omega (arith, end_few c.args.end, ends_few x, edges_few x)

pub slice_bounds-of-end : goal.slice_bounds-of-end
slice_bounds-of-end c = omega (arith, end_few c.args.end, ends_inside c.args.sheet.now)

pub returns-clause-entries : goal.returns-clause-entries
returns-clause-entries c = edge_index_is c.args.sheet.now c.args.end (omega arith) c.of.ensures

pub returns-clause-rows : goal.returns-clause-rows
returns-clause-rows c = ended_made c.args.sheet.now c.args.end (omega arith) c.of.ensures
