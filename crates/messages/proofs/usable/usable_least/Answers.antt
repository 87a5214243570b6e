-- `usable_least` meets its contract. The loop's invariant: `best` is the least usable cell before `from`, and the cells from there up to the k-th row are usable.
use Rattle.std.proofs.Common.{◌<◌, Some, length, get_or, refl, ◌∙◌, arith}
use Rattle.integers.proofs.Bits.{answer}
use Rattle.messages.specs.Clash.{Skips}
use Rattle.messages.proofs.UsableLeast.{passing_none, passing_whole, passing_skip, passing_done}
use Rattle.messages.proofs.EdgeLaws.{row_end}
use Rattle.messages.proofs.usable.usable_least.Goals as goal
use Rattle.messages.proofs.usable.usable_least.Goals.{in-Some, in_default}

pub loop-k-init : goal.loop-k-init
loop-k-init c = passing_none _ _ _

pub loop-k-preserved : goal.loop-k-preserved
loop-k-preserved c =
    let e = c.requires.ends in
    let g = c.loop-k.invariant in
    let labels = c.args.high.now in
    let label = get_or c.args.low.now c.loop-k.k 0 in
    let h : c.loop-k.k < length c.args.low.now = c.loop-k-test.true in
    let room = row_end e.shape h refl in
    elim c.match-clash.branch [
      | in-Some w ↦ let s : Skips labels label (Some w.in-Some.skip) = w.in-Some.ensures in
          rw (w.best-is, w.from-is) (passing_skip e g w.in-Some.skip h room s.passed s.inside (answer w.least-best.type_inv w.least-best.ensures))
      | in_default w ↦ rw (w.best-is, w.from-is) (passing_whole e g h room w.in_default.ensures)
    ]

pub returns : goal.returns
returns c =
    answer c.least.type_inv c.least.ensures ∙ passing_done c.requires.ends c.loop-k.invariant (omega arith) c.requires.within
