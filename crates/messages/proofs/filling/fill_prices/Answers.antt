-- `fill_prices` meets its contract: the four bytes of each price are there.
use Rattle.std.proofs.Common.{◌+◌, ◌*◌, pos, ◌∙◌, arith}
use Rattle.integers.proofs.Bits.{same}
use Rattle.instance.specs.Bytes.{price_at}
use Rattle.integers.proofs.Filling.{fill_none, fill_more}
use Rattle.messages.proofs.filling.fill_prices.Goals as goal

pub loop-i-init : goal.loop-i-init
loop-i-init c = fill_none _ _

pub loop-i-preserved : goal.loop-i-preserved
loop-i-preserved c =
    let a = c.args in
    rw (same c.price_in.result c.price_in.type_inv ∙ c.price_in.ensures) (fill_more (λ k. price_at a.sheet.now.bytes.now (a.at + 4 * k)) (pos 0) c.loop-i.invariant (omega arith))
