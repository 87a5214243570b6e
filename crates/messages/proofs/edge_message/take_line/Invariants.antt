-- `take_line` meets its contract. The loop's invariant: the first k costs have given their amounts, and the others are as they were.
use Rattle.std.proofs.Common.{get_or, pos, neg_ℤ}
use Rattle.messages.proofs.OverLaws.{Raised}
use Rattle.messages.proofs.edge_message.take_line.Given as goal

abbrev pub invariant-loop-k : goal.invariant-loop-k
invariant-loop-k l = Raised (λ i. neg_ℤ (get_or l.amounts.each.now i (pos 0))) l.initial.line l.k l.line
