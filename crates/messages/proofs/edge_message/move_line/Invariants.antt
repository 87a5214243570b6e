-- `move_line` meets its contract. The loop's invariant: the first j cells have received their amounts, and the others are as they were.
use Rattle.std.proofs.Common.{cond, get_or, pos}
use Rattle.messages.specs.EdgeMessage.{by_rows}
use Rattle.messages.proofs.OverLaws.{Raised}
use Rattle.messages.proofs.edge_message.move_line.Given as goal

abbrev pub invariant-loop-j : goal.invariant-loop-j
invariant-loop-j l = Raised (λ i. get_or l.amounts.each.now (cond (by_rows l.end) l.k i) (pos 0)) l.initial.line l.j l.line
