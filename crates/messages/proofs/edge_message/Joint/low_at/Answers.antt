-- `low_at` meets its contract. The loops' invariants: `best` is the least of the position's first i cells but for `skip`, where i is before it, and where i is after it.
use Rattle.std.proofs.Common.{arith, ◌∙◌}
use Rattle.integers.proofs.Bits.{answer}
use Rattle.messages.specs.EdgeMessage.{unbounded}
use Rattle.messages.proofs.UsableLaws.{but_none}
use Rattle.messages.proofs.StrideLaws.{before_more, past_first, past_more, past_all}
use Rattle.messages.proofs.edge_message.Joint.low_at.Goals as goal

pub loop-i-init : goal.loop-i-init
loop-i-init c = but_none _ unbounded _

pub loop-i-preserved : goal.loop-i-preserved
loop-i-preserved c =
    answer c.less_at-best.type_inv c.less_at-best.ensures ∙ before_more c.args.self.now c.args.k c.args.skip c.unwrap_or-gap.ensures c.strides-own.ensures c.loop-i-test.true c.loop-i.invariant

pub loop-i-2-init : goal.loop-i-2-init
loop-i-2-init c = past_first c.args.self.now c.args.k c.args.skip c.unwrap_or-gap.ensures c.requires.skip_bound (omega (arith, c.loop-i-test.false)) (omega (arith, c.loop-i.auto)) c.loop-i.invariant

pub loop-i-2-preserved : goal.loop-i-2-preserved
loop-i-2-preserved c =
    rw (answer c.less_at-best-in-loop-i-2.type_inv c.less_at-best-in-loop-i-2.ensures) (past_more c.args.self.now c.args.k c.args.skip c.unwrap_or-gap.ensures c.strides-own.ensures c.loop-i-2-test.true c.loop-i-2.invariant)

pub returns : goal.returns
returns c = past_all c.args.self.now c.args.k c.args.skip c.unwrap_or-gap.ensures c.requires.k_bound (omega (arith, c.loop-i-2-test.false)) c.loop-i-2.invariant
