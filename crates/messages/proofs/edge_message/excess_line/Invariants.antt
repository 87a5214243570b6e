-- `excess_line` meets its contract: what each cell gives is joined.
use Rattle.std.proofs.Common.{cond, length, get_or, pos, ◌+ℤ◌}
use Rattle.integers.specs.Checks.{within}
use Rattle.messages.specs.EdgeMessage.{by_rows}
use Rattle.messages.proofs.ExcessLaws.{Joining}
use Rattle.messages.proofs.edge_message.excess_line.Given as goal

abbrev pub invariant-loop-j : goal.invariant-loop-j
invariant-loop-j l = Joining (λ i. within l.limit.most (get_or l.line i (pos 0) +ℤ get_or l.amounts.each.now (cond (by_rows l.end) l.k i) (pos 0))) (length l.line) l.j l.all
