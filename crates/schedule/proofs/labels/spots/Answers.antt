-- `spots` meets its contract: one node after another.
use Rattle.std.proofs.Common.{ℕ, get_or, subst, arith}
use Rattle.instance.specs.Instance.{first}
use Rattle.instance.proofs.Sheets.{start_is, row_here, nodes_few, positions_few}
use Rattle.schedule.specs.Writing.{Marked}
use Rattle.schedule.proofs.SpotLaws.{spots_more}
use Rattle.schedule.proofs.labels.spots.Goals as goal

pub offset_bounds-sheet-u : goal.offset_bounds-sheet-u
offset_bounds-sheet-u c = omega (arith, c.loop-u-test.true, nodes_few c.args.sheet.now)

pub bounds-sheet-u : goal.bounds-sheet-u
bounds-sheet-u c = omega (arith, c.loop-u-test.true, nodes_few c.args.sheet.now)

pub mark-requires : goal.mark-requires
mark-requires c =
    let x = c.args.sheet.now in
    let h = c.loop-u-test.true in
    let d = c.degree.ensures in
    (c.loop-u.invariant.size, omega (arith, start_is x h, d.0, row_here x h, positions_few x), omega (arith, d.2), omega (arith, h, nodes_few x))

pub loop-u-preserved : goal.loop-u-preserved
unfolding first
loop-u-preserved c =
    let x = c.args.sheet.now in
    let u = c.loop-u.u in
    spots_more c.loop-u.invariant (start_is x c.loop-u-test.true) (subst (λ (k : ℕ). Marked c.loop-u.spots (get_or x.starts u 0) u k c.mark.new.spots) c.degree.ensures.0 c.mark.ensures)
