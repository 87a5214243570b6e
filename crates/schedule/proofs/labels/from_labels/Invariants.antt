-- `from_labels` meets its contract: a list for each label, falling.
use Rattle.schedule.specs.Sweep.{falling}
use Rattle.schedule.specs.Writing.{label_by}
use Rattle.schedule.proofs.WritingLaws.{Turns}
use Rattle.schedule.proofs.labels.from_labels.Given as goal

abbrev pub invariant-loop-label : goal.invariant-loop-label
invariant-loop-label l = Turns (label_by l.places l.spots) l.initial.w (falling l.labels) l.w (falling l.label)
