-- `mark` meets its contract: one place of the node after another.
use Rattle.schedule.specs.Writing.{Marked}
use Rattle.schedule.proofs.labels.mark.Given as goal

abbrev pub invariant-loop-k : goal.invariant-loop-k
invariant-loop-k l = Marked l.initial.spots l.at l.u l.k l.spots
