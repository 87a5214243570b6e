-- `all_half` meets its contract. The loop's invariant: if what is joined stays below twice `half`, each cost so far lies within it.
use Rattle.messages.proofs.ExcessLaws.{Halving}
use Rattle.messages.proofs.rows.all_half.Given as goal

abbrev pub invariant-loop-cost : goal.invariant-loop-cost
invariant-loop-cost l = Halving l.half.most l.costs l.cost-index l.all
