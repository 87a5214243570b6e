-- `from_labels` meets its contract: a list for each label, falling.
use mathlib.Core.Path.{refl}
use Prim.Native.Nat.{◌-◌}
use native.Mathlib.Omega.{arith}
use Rattle.schedule.specs.Writing.{label_by}
use Rattle.schedule.proofs.WritingLaws.{length_label, room_for, turns_start, turns_room, turns_more, turns_end, falling_more, falling_end}
use Rattle.schedule.proofs.labels.from_labels.Goals as goal

pub loop-label-init : goal.loop-label-init
loop-label-init c = turns_start (label_by c.args.places.now c.args.spots.now) c.args.w.now refl

pub from_label-requires-clause-room : goal.from_label-requires-clause-room
from_label-requires-clause-room c =
    room_for _ (turns_room c.loop-label.invariant (falling_more (omega arith)) c.requires.room)
    (omega (arith, length_label c.args.places.now c.args.spots.now (c.loop-label.label - 1)))

pub loop-label-preserved : goal.loop-label-preserved
loop-label-preserved c = turns_more c.loop-label.invariant (falling_more (omega arith)) c.from_label.ensures

pub returns : goal.returns
returns c = turns_end c.loop-label.invariant (falling_end (omega arith))
