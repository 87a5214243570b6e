-- `from_label` meets its contract: a record for each place of the row.
use Rattle.std.proofs.Common.{map, take}
use Rattle.schedule.specs.Writing.{Wrote, spotted}
use Rattle.schedule.proofs.labels.from_label.Given as goal

abbrev pub invariant-loop-place : goal.invariant-loop-place
invariant-loop-place l = Wrote l.initial.w (map (spotted l.spots) (take l.place-index l.place-items)) l.w
