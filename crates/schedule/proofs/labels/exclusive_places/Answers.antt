-- `exclusive_places` meets its contract: one node after another.
use Rattle.std.proofs.Common.{sym, arith}
use Rattle.integers.proofs.Totals.{offset_more, offset_none}
use Rattle.instance.specs.Sheet.{instance_of}
use Rattle.instance.proofs.Sheets.{nodes_few}
use Rattle.schedule.specs.Writing.{exclusive_count}
use Rattle.schedule.proofs.labels.exclusive_places.Goals as goal

pub loop-u-init : goal.loop-u-init
loop-u-init c = (sym (offset_none (exclusive_count (instance_of c.args.sheet.now.bytes.now))), omega arith)

pub overflow_add-sum : goal.overflow_add-sum
overflow_add-sum c = let i = c.loop-u.invariant.1 in omega (arith, c.exclusive_positions-sum.ensures.2, c.loop-u-test.true, nodes_few c.args.sheet.now)

pub loop-u-preserved : goal.loop-u-preserved
loop-u-preserved c =
    let l = c.loop-u in
    let f = exclusive_count (instance_of c.args.sheet.now.bytes.now) in
    (omega (arith, l.invariant.0, c.exclusive_positions-sum.ensures.0, offset_more f l.u), omega (arith, l.invariant.1, c.exclusive_positions-sum.ensures.2))
