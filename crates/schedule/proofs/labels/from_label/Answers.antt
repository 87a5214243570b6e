-- `from_label` meets its contract: a record for each place of the row.
use mathlib.Core.Path.{ap, ◌∙◌}
use mathlib.Core.List.{[], ◌∷◌}
use Prim.Native.Nat.{ℕ}
use native.Mathlib.Omega.{arith}
use lib.ListN.{get_or}
use Rattle.schedule.specs.Sweep.{entry}
use Rattle.schedule.specs.Writing.{spot, spotted}
use Rattle.schedule.proofs.RowLaws.{row_long, row_inside}
use Rattle.schedule.proofs.WritingLaws.{length-mapped, wrote_none, wrote_append, wrote_as, room_left, mapped_more}
use Rattle.schedule.proofs.labels.from_label.Goals as goal

pub loop-place-init : goal.loop-place-init
loop-place-init c = wrote_none c.args.w.now

pub bounds-spots-from : goal.bounds-spots-from
bounds-spots-from c =
    omega (arith, row_inside c.args.label c.requires.rows c.row-place-items.ensures.things c.requires.label_bound c.loop-place.place-index (omega arith))

pub put-requires : goal.put-requires
put-requires c =
    room_left c.loop-place.invariant 1 c.requires.room
    (omega (arith, length-mapped (spotted c.args.spots.now) c.row-place-items.result.now c.loop-place.place-index (omega arith), row_long c.args.places.now c.args.label c.row-place-items.ensures.things))

pub loop-place-preserved : goal.loop-place-preserved
loop-place-preserved c =
    let spots = c.args.spots.now in
    let e = ap (λ (k : ℕ). entry 4 (get_or spots c.from.result (spot 0 0)).node k 1 ∷ []) c.from-in-loop-place.ensures in
    let d = ap (λ (i : ℕ). spotted spots i ∷ []) c.from.ensures in
    wrote_as (wrote_append c.loop-place.invariant (wrote_as c.put.ensures (e ∙ d)))
    (mapped_more c.row-place-items.result.now c.loop-place.place-index 0 (omega arith) (spotted c.args.spots.now))
