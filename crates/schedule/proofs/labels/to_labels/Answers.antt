-- `to_labels` meets its contract: a record for each position.
use native.Mathlib.Omega.{arith}
use Rattle.schedule.specs.Sweep.{to_labels}
use Rattle.integers.specs.Places.{range}
use Rattle.schedule.proofs.WritingLaws.{length-to_labels, wrote_none, wrote_append, wrote_as, room_left, positions_more}
use Rattle.schedule.proofs.labels.to_labels.Goals as goal

pub loop-k-init : goal.loop-k-init
unfolding to_labels range
loop-k-init c = wrote_none c.args.w.now

pub put-requires : goal.put-requires
put-requires c = room_left c.loop-k.invariant 1 c.requires.room (omega (arith, length-to_labels c.args.u c.loop-k.k))

pub loop-k-preserved : goal.loop-k-preserved
loop-k-preserved c = wrote_as (wrote_append c.loop-k.invariant c.put.ensures) (positions_more c.args.u c.loop-k.k)
