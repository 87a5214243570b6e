-- `to_labels` meets its contract: a record for each position.
use Rattle.integers.specs.Places.{range}
use Rattle.schedule.specs.Sweep.{to_labels}
use Rattle.schedule.specs.Writing.{Wrote}
use Rattle.schedule.proofs.labels.to_labels.Given as goal

abbrev pub invariant-loop-k : goal.invariant-loop-k
invariant-loop-k l = Wrote l.initial.w (to_labels l.u (range 0 l.k)) l.w
