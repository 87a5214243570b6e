-- `forward` meets its contract: a list for each node, rising.
use Rattle.std.proofs.Common.{◌≡◌, ℕ, ◌+◌, List, ◌++◌, length, length-append, ap, arith}
use Rattle.integers.specs.Places.{range}
use Rattle.instance.specs.Instance.{Instance}
use Rattle.instance.specs.Sheet.{instance_of}
use Rattle.instance.proofs.Sheets.{nodes_few}
use Rattle.schedule.specs.Sweep.{Entry, to_labels}
use Rattle.schedule.specs.Writing.{Room, passed, exclusive_count, forward_of}
use Rattle.schedule.proofs.WritingLaws.{length-passed, length-to_labels, wrote_append, wrote_as, room_left, room_for, turns_start, turns_room, turns_more, turns_end, onward_start, onward_more, onward_end}
use Rattle.schedule.proofs.sweep.forward.Goals as goal
use Rattle.schedule.proofs.sweep.forward.Goals.{After-exclusive_positions-positions}

-- a node's list
module _ (p : After-exclusive_positions-positions) where
  abbrev I : Instance
  I = instance_of p.args.sheet.now.bytes.now

  abbrev u : ℕ
  u = p.loop-u.u

  abbrev edges : List Entry
  edges = passed p.args.lower.now p.args.higher.now 1 u

  room : Room p.loop-u.w (length (forward_of I p.args.lower.now p.args.higher.now u))
  room = turns_room p.loop-u.invariant (onward_more p.loop-u-test.true) p.requires

  size : length (forward_of I p.args.lower.now p.args.higher.now u) ≡ length edges + p.exclusive_positions-positions.result
  size =
      let k = exclusive_count I u in
      omega (arith, p.exclusive_positions-positions.ensures.0, length-append edges (to_labels u (range 0 k)), length-to_labels u k)

pub loop-u-init : goal.loop-u-init
loop-u-init c =
    let a = c.args in
    turns_start (forward_of (instance_of a.sheet.now.bytes.now) a.lower.now a.higher.now) a.w.now (onward_start a.sheet.now.nodes)

pub pass-requires-clause-u_bound : goal.pass-requires-clause-u_bound
pass-requires-clause-u_bound c = (omega (arith, c.loop-u-test.true, nodes_few c.args.sheet.now), omega arith)

pub pass-requires-clause-room : goal.pass-requires-clause-room
pass-requires-clause-room c =
    let p = (goal.at.pass-requires-clause-room c).After-exclusive_positions-positions in
    room_for _ (room p) (omega (arith, size p, length-passed c.args.lower.now c.args.higher.now 1 c.loop-u.u))

pub to_labels-requires-clause-bounds : goal.to_labels-requires-clause-bounds
to_labels-requires-clause-bounds c =
    (omega (arith, c.loop-u-test.true, nodes_few c.args.sheet.now), omega (arith, c.exclusive_positions-positions.ensures.2))

pub to_labels-requires-clause-room : goal.to_labels-requires-clause-room
to_labels-requires-clause-room c =
    let p = (goal.at.to_labels-requires-clause-room c).After-exclusive_positions-positions in
    room_left c.pass.ensures c.exclusive_positions-positions.result (room p) (omega (arith, size p))

pub loop-u-preserved : goal.loop-u-preserved
loop-u-preserved c =
    let p = (goal.at.loop-u-preserved c).After-exclusive_positions-positions in
    let e = ap (λ (k : ℕ). edges p ++ to_labels c.loop-u.u (range 0 k)) c.exclusive_positions-positions.ensures.0 in
    turns_more c.loop-u.invariant (onward_more c.loop-u-test.true) (wrote_as (wrote_append c.pass.ensures c.to_labels.ensures) e)

pub returns : goal.returns
returns c = turns_end c.loop-u.invariant (onward_end (omega (arith, c.loop-u-test.false)))
