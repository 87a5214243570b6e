-- `excess_line` meets its contract: what each cell gives is joined.
use Rattle.std.proofs.Common.{ℕ, cond, get_or, ℤ, pos, ◌+ℤ◌, ap, ◌∙◌, ap₂, arith, to_z-of_z, w64, rules}
use Rattle.integers.specs.Checks.{within}
use Rattle.messages.specs.EdgeMessage.{by_rows}
use Rattle.messages.proofs.ExcessLaws.{joining_none, joining_more, joining_shifted}
use Rattle.messages.proofs.edge_message.excess_line.Goals as goal

pub loop-j-init : goal.loop-j-init
loop-j-init c = joining_none _ _

pub loop-j-preserved : goal.loop-j-preserved
loop-j-preserved c =
    let v = c.args.amounts.each.now in
    let i = c.either.result in
    joining_more c.excess_with-all.result c.loop-j.invariant (omega arith)
    (c.excess_with-all.ensures
    ∙ ap₂ (λ (x y : ℤ). within c.args.limit.most (x +ℤ y)) (to_z-of_z {w = w64} {z = get_or c.args.line.now c.loop-j.j (pos 0)} (search rules))
    (to_z-of_z {w = w64} {z = get_or v i (pos 0)} (search rules) ∙ ap (λ (i : ℕ). get_or v i (pos 0)) c.either.ensures))

pub returns : goal.returns
returns c =
    let x = c.args in joining_shifted x.limit.most (λ j. get_or x.amounts.each.now (cond (by_rows x.end) x.k j) (pos 0)) x.line.now c.loop-j.invariant (omega arith)
