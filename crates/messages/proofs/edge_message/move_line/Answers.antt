-- `move_line` meets its contract. The loop's invariant: the first j cells have received their amounts, and the others are as they were.
use Rattle.std.proofs.Common.{ℕ, cond, ◌^◌, ◌≤◌, nat_abs, get_or, set, ℤ, pos, ap, arith}
use Rattle.rules.specs.Calls.{cost_limit}
use Rattle.messages.specs.EdgeMessage.{by_rows}
use Rattle.messages.proofs.RowLaws.{sum_fits, sum_is}
use Rattle.messages.proofs.OverLaws.{written_none, written_next, raised_more, raised_all}
use Rattle.messages.proofs.edge_message.move_line.Goals as goal
use Rattle.messages.proofs.edge_message.move_line.Goals.{After-either, In-loop-j, Start}

-- the amount at a place
abbrev f : Start → ℕ → ℤ
f q j = get_or q.args.amounts.each.now (cond (by_rows q.args.end) q.args.k j) (pos 0)

-- the sum of a cell and its amount
module _ (c : After-either) where
  abbrev q : Start
  q = (goal.at.After-either c).Start

  abbrev i : In-loop-j
  i = (goal.at.After-either c).In-loop-j

  abbrev x : ℤ
  x = get_or i.loop-j.line i.loop-j.j (pos 0)

  abbrev y : ℤ
  y = get_or q.args.amounts.each.now c.either.result (pos 0)

  small : nat_abs x ≤ cost_limit
  small = rw (written_next i.loop-j.invariant) (q.requires.range i.loop-j.j)

  few : nat_abs y ≤ 2 ^ 41
  few = q.args.amounts.small c.either.result

pub loop-j-init : goal.loop-j-init
loop-j-init c = written_none _ _ _ (omega arith)

pub overflow_add-cost : goal.overflow_add-cost
overflow_add-cost c = let e = (goal.at.overflow_add-cost c).After-either in sum_fits (x e) (y e) (small e) (few e)

pub loop-j-preserved : goal.loop-j-preserved
loop-j-preserved c =
    let e = (goal.at.loop-j-preserved c).After-either in
    raised_more (f (q e)) c.loop-j.invariant (omega arith) (ap (λ (k : ℕ). get_or c.args.amounts.each.now k (pos 0)) c.either.ensures) (ap (set c.loop-j.line c.loop-j.j) (sum_is (x e) (y e) (small e) (few e)))

pub returns : goal.returns
returns c = raised_all (f (goal.at.returns c).Start) c.loop-j.invariant (omega arith)
