-- `lows_left` meets its contract. The loop's invariant: the first k places hold the least of all cells there.
use Rattle.std.proofs.Common.{arith}
use Rattle.integers.proofs.Bits.{answer}
use Rattle.messages.specs.EdgeMessage.{by_rows}
use Rattle.messages.proofs.OverLaws.{written_more, written_all}
use Rattle.messages.proofs.UsableLaws.{own_few}
use Rattle.messages.proofs.edge_message.Joint.lows_left.Goals as goal

pub loop-k-init : goal.loop-k-init
loop-k-init c =
    let j = c.args.self.now in
    let few = own_few (by_rows j.end) j.joined.ends in
    record { inside = omega arith; room = omega (arith, few); told = c.requires }

pub loop-k-preserved : goal.loop-k-preserved
loop-k-preserved c = written_more c.loop-k.invariant c.loop-k-test.true (answer c.low_at.type_inv c.low_at.ensures)

pub returns : goal.returns
returns c = written_all c.loop-k.invariant c.loop-k-test.false
