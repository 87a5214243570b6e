-- `all_half` meets its contract. The loop's invariant: if what is joined stays below twice `half`, each cost so far lies within it.
use Rattle.std.proofs.Common.{◌≤◌, get_or, ℤ, pos, nat_abs, subst, arith, to_z-of_z, w64, rules}
use Rattle.messages.proofs.ExcessLaws.{halving_more}
use Rattle.messages.proofs.rows.all_half.Goals as goal

pub loop-cost-preserved : goal.loop-cost-preserved
loop-cost-preserved c =
    let x = get_or c.args.costs.now c.loop-cost.cost-index (pos 0) in
    halving_more c.raised-all.result c.loop-cost.invariant (omega arith)
    (λ h. subst (λ (z : ℤ). nat_abs z ≤ c.half-half.result.most) (to_z-of_z {w = w64} {z = x} (search rules)) (c.raised-all.ensures h))
