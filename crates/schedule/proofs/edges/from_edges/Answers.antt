-- `from_edges` meets its contract: a record for each edge of the row.
use native.Mathlib.Omega.{arith}
use Rattle.schedule.specs.Sweep.{entry, from_edges}
use Rattle.schedule.proofs.RowLaws.{row_long}
use Rattle.schedule.proofs.WritingLaws.{length-mapped, wrote_none, wrote_append, wrote_as, room_left, mapped_more}
use Rattle.schedule.proofs.edges.from_edges.Goals as goal

pub loop-edge-init : goal.loop-edge-init
unfolding from_edges
loop-edge-init c = wrote_none c.args.w.now

pub put-requires : goal.put-requires
unfolding from_edges
put-requires c =
    let i = c.loop-edge.edge-index in
    room_left c.loop-edge.invariant 1 c.requires.room
    (omega (arith, length-mapped (λ e. entry 2 c.args.u e 1) c.row-edge-items.result.now i (omega arith), row_long c.args.edges.now c.args.u c.row-edge-items.ensures.things))

pub loop-edge-preserved : goal.loop-edge-preserved
unfolding from_edges
loop-edge-preserved c =
    wrote_as (wrote_append c.loop-edge.invariant c.put.ensures)
    (mapped_more c.row-edge-items.result.now c.loop-edge.edge-index 0 (omega arith) (λ e. entry 2 c.args.u e 1))
