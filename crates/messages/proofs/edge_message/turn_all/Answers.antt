-- `turn_all` meets its contract. The loop's invariant: the first places hold what is given, and the others are as they were.
use Rattle.std.proofs.Common.{length, get_or, ℤ, pos, ap, ◌∙◌, arith, to_z-of_z, w64, to_z, of_z, rules}
use Rattle.integers.specs.Places.{tabulate}
use Rattle.integers.proofs.Bits.{answer}
use Rattle.messages.specs.EdgeMessage.{turned_least}
use Rattle.messages.proofs.OverLaws.{written_none, written_next, written_more, written_all, over_full}
use Rattle.messages.proofs.edge_message.turn_all.Goals as goal

pub turned_least-requires : goal.turned_least-requires
turned_least-requires c =
    let k = c.loop-cost.cost-index in
    rw (to_z-of_z c.ranges.low, to_z-of_z {w = w64} {z = get_or c.loop-cost.least k (pos 0)} (search rules), written_next c.loop-cost.invariant) (c.requires.by_index k (omega arith), c.requires.low_bound)

pub loop-cost-preserved : goal.loop-cost-preserved
loop-cost-preserved c =
    let k = c.loop-cost.cost-index in
    written_more c.loop-cost.invariant (omega arith)
    (answer c.turned_least.type_inv c.turned_least.ensures
    ∙ ap (λ (x : ℤ). turned_least x (to_z w64 (of_z w64 c.args.low)) c.args.share.parts) (to_z-of_z {w = w64} {z = get_or c.loop-cost.least k (pos 0)} (search rules) ∙ written_next c.loop-cost.invariant))

pub returns : goal.returns
returns c =
    let l = c.args.least.now in
    written_all c.loop-cost.invariant (omega arith)
    ∙ over_full (λ j. turned_least (get_or l j (pos 0)) (to_z w64 (of_z w64 c.args.low)) c.args.share.parts) l
    ∙ ap (λ (z : ℤ). tabulate (length l) (λ j. turned_least (get_or l j (pos 0)) z c.args.share.parts)) (to_z-of_z c.ranges.low)

pub loop-cost-init : goal.loop-cost-init
loop-cost-init c = written_none _ _ _ (omega arith)
