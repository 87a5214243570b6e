-- `fill_prices` meets its contract: the four bytes of each price are there.
use Rattle.std.proofs.Common.{◌+◌, ◌*◌}
use Rattle.instance.specs.Bytes.{price_at}
use Rattle.integers.proofs.Filling.{Filling}
use Rattle.messages.proofs.filling.fill_prices.Given as goal

abbrev pub invariant-loop-i : goal.invariant-loop-i
invariant-loop-i l = Filling (λ k. price_at l.sheet.bytes.now (l.at + 4 * k)) l.initial.costs l.costs l.i
