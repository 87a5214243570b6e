-- `each_in_range` meets its contract: what each cost gives is joined, so the test at the end is that of each cost.
use Rattle.std.proofs.Common.{get_or, pos, sym, ap, ◌∙◌, arith, to_z-of_z, w64, rules}
use Rattle.integers.specs.Checks.{within}
use Rattle.messages.proofs.RowLaws.{every_is}
use Rattle.messages.proofs.ExcessLaws.{joining_none, joining_more, joining_all}
use Rattle.messages.proofs.rows.each_in_range.Goals as goal

pub loop-cost-init : goal.loop-cost-init
loop-cost-init c = joining_none _ _

pub loop-cost-preserved : goal.loop-cost-preserved
loop-cost-preserved c =
    joining_more c.excess-all.result c.loop-cost.invariant (omega arith)
    (c.excess-all.ensures ∙ ap (within c.args.limit.most) (to_z-of_z {w = w64} {z = get_or c.args.costs.now c.loop-cost.cost-index (pos 0)} (search rules)))

pub returns : goal.returns
returns c =
    joining_all c.loop-cost.invariant (omega arith) ∙ sym (every_is (within c.args.limit.most) c.args.costs.now (pos 0))
