-- `to_edges` meets its contract: a record for each edge of the row, with a share for each that is left.
use mathlib.Core.Path.{ap₂, ◌∙◌}
use Prim.Native.Nat.{ℕ, ◌+◌}
use native.Mathlib.Omega.{arith}
use lib.ListN.{length}
use lib.Seq.{take_all}
use Rattle.schedule.specs.Sweep.{to_edges}
use Rattle.schedule.proofs.RowLaws.{row_long}
use Rattle.schedule.proofs.WritingLaws.{length-shared, wrote_none, wrote_append, wrote_as, room_left, shared_more}
use Rattle.schedule.proofs.edges.to_edges.Goals as goal

pub loop-j-init : goal.loop-j-init
unfolding to_edges
loop-j-init c = wrote_none c.args.w.now

pub put-requires : goal.put-requires
put-requires c =
    let row = c.row-row.result.now in
    room_left c.loop-j.invariant 1 c.requires.room
    (omega (arith, length-shared c.args.u (length row + c.args.more) row c.loop-j.j (omega arith), row_long c.args.edges.now c.args.u c.row-row.ensures.things))

pub loop-j-preserved : goal.loop-j-preserved
loop-j-preserved c =
    let row = c.row-row.result.now in
    wrote_as (wrote_append c.loop-j.invariant c.put.ensures)
    (shared_more row c.loop-j.j c.args.u (length row + c.args.more) (omega arith))

pub returns : goal.returns
returns c =
    let row = c.row-row.result.now in
    wrote_as c.loop-j.invariant
    (ap₂ (λ (q : ℕ). to_edges c.args.u (q + c.args.more)) (row_long c.args.edges.now c.args.u c.row-row.ensures.things) (take_all c.loop-j.j row (omega arith) ∙ c.row-row.ensures.things))
