-- `cells_fit` meets its contract: halves of the limit add up to no more than it, and else each cell is tested.
use Rattle.std.proofs.Common.{ℕ, ◌/◌, ◌≤◌, length, get_or, ℤ, pos, nat_abs, sym, subst, get_or-take, arith}
use Rattle.messages.specs.EdgeMessage.{by_rows, position_in}
use Rattle.messages.specs.Joints.{columns}
use Rattle.messages.proofs.ExcessLaws.{halves_fit}
use Rattle.messages.proofs.UsableLaws.{position_below}
use Rattle.messages.proofs.edge_message.Joint.cells_fit.Goals as goal

pub returns-then-all_half-2 : goal.returns-then-all_half-2
returns-then-all_half-2 c =
    let j = c.args.self.now in
    let v = c.args.amounts.each.now in
    let b = by_rows j.end in
    let k : ℕ → ℕ = (λ i. position_in b (columns j) i) in
    let half = c.all_half.ensures c.if-all_half.true in
    sym (halves_fit (omega arith) (λ i. get_or v (k i) (pos 0)) j.cells.now (c.all_half-then-all_half.ensures c.if-all_half-2.true)
    (λ i h. subst (λ (z : ℤ). nat_abs z ≤ c.args.limit.most / 2) (get_or-take (length j.own.now) v (k i) (pos 0) (position_below b j.joined.ends i h)) (half (k i))))
