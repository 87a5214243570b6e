-- `backward_nodes` meets its contract: a list for each node, falling.
use mathlib.Core.Path.{refl}
use Prim.Native.Nat.{◌-◌}
use native.Mathlib.Omega.{arith}
use Rattle.schedule.specs.Writing.{backward_by}
use Rattle.schedule.proofs.WritingLaws.{length-passed, room_for, turns_start, turns_room, turns_more, turns_end, falling_more, falling_end}
use Rattle.schedule.proofs.sweep.backward_nodes.Goals as goal

pub loop-u-init : goal.loop-u-init
loop-u-init c = turns_start (backward_by c.args.lower.now c.args.higher.now) c.args.w.now refl

pub pass-requires-clause-room : goal.pass-requires-clause-room
pass-requires-clause-room c =
    room_for _ (turns_room c.loop-u.invariant (falling_more (omega arith)) c.requires.room)
    (omega (arith, length-passed c.args.higher.now c.args.lower.now 0 (c.loop-u.u - 1)))

pub loop-u-preserved : goal.loop-u-preserved
loop-u-preserved c = turns_more c.loop-u.invariant (falling_more (omega arith)) c.pass.ensures

pub returns : goal.returns
returns c = turns_end c.loop-u.invariant (falling_end (omega arith))
