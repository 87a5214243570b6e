-- `row_fits` meets its contract: what each cost gives is joined.
use Rattle.std.proofs.Common.{get_or, ℤ, pos, ◌+ℤ◌, neg_ℤ, ◌∙◌, ap₂, arith, to_z-of_z, w64, rules}
use Rattle.integers.specs.Checks.{within}
use Rattle.messages.proofs.ExcessLaws.{joining_none, joining_more, joining_shifted}
use Rattle.messages.proofs.edge_message.Joint.row_fits.Goals as goal

pub loop-k-init : goal.loop-k-init
loop-k-init c = joining_none _ _

pub loop-k-preserved : goal.loop-k-preserved
loop-k-preserved c =
    let k = c.loop-k.k in
    joining_more c.excess_without-all.result c.loop-k.invariant (omega arith)
    (c.excess_without-all.ensures
    ∙ ap₂ (λ (x y : ℤ). within c.args.limit.most (x +ℤ neg_ℤ y)) (to_z-of_z {w = w64} {z = get_or c.args.self.now.row.now k (pos 0)} (search rules))
    (to_z-of_z {w = w64} {z = get_or c.args.amounts.each.now k (pos 0)} (search rules)))

pub returns : goal.returns
returns c =
    let x = c.args in joining_shifted x.limit.most (λ k. neg_ℤ (get_or x.amounts.each.now k (pos 0))) x.self.now.row.now c.loop-k.invariant (omega arith)
