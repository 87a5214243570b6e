-- `turn_all` meets its contract. The loop's invariant: the first places hold what is given, and the others are as they were.
use Rattle.std.proofs.Common.{length, get_or, pos}
use Rattle.messages.specs.EdgeMessage.{turned_least}
use Rattle.messages.proofs.OverLaws.{Overwritten}
use Rattle.messages.proofs.edge_message.turn_all.Given as goal

abbrev pub invariant-loop-cost : goal.invariant-loop-cost
invariant-loop-cost l = Overwritten (λ j. turned_least (get_or l.initial.least j (pos 0)) l.low l.share.parts) (length l.initial.least) l.initial.least l.cost-index l.least
