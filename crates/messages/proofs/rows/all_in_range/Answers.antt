-- `all_in_range` meets its contract: what lies within half the limit lies within it.
use Rattle.std.proofs.Common.{◌/◌, get_or, pos, nat_abs, ◌≤◌, sym, ◌∙◌, arith}
use Rattle.integers.specs.Checks.{within}
use Rattle.integers.proofs.Checks.{le_within}
use Rattle.messages.proofs.RowLaws.{every_below}
use Rattle.messages.proofs.rows.all_in_range.Goals as goal

pub returns-then-all_half : goal.returns-then-all_half
returns-then-all_half c =
    let l = c.args.costs.now in
    let m = c.args.limit.most in
    let h = c.all_half.ensures c.if-all_half.true in
    c.if-all_half.true ∙ sym (every_below (within m) l (pos 0) (λ i _. le_within m (get_or l i (pos 0)) (let b : nat_abs (get_or l i (pos 0)) ≤ m / 2 = h i in omega (arith, b))))
