-- `take_line` meets its contract. The loop's invariant: the first k costs have given their amounts, and the others are as they were.
use Rattle.std.proofs.Common.{ℕ, ◌^◌, ◌≤◌, nat_abs, get_or, set, ℤ, pos, neg_ℤ, refl, ap, arith}
use Rattle.rules.specs.Calls.{cost_limit}
use Rattle.messages.proofs.RowLaws.{less_fits, less_is}
use Rattle.messages.proofs.OverLaws.{written_none, written_next, raised_more, raised_all}
use Rattle.messages.proofs.edge_message.take_line.Goals as goal
use Rattle.messages.proofs.edge_message.take_line.Goals.{In-loop-k, Start}

-- what a place receives: its amount negated
abbrev f : Start → ℕ → ℤ
f q k = neg_ℤ (get_or q.args.amounts.each.now k (pos 0))

-- a cost and its amount
module _ (c : In-loop-k) where
  abbrev q : Start
  q = (goal.at.In-loop-k c).Start

  abbrev x : ℤ
  x = get_or c.loop-k.line c.loop-k.k (pos 0)

  abbrev y : ℤ
  y = get_or q.args.amounts.each.now c.loop-k.k (pos 0)

  small : nat_abs x ≤ cost_limit
  small = rw (written_next c.loop-k.invariant) (q.requires.within c.loop-k.k)

  few : nat_abs y ≤ 2 ^ 41
  few = q.args.amounts.small c.loop-k.k

pub loop-k-init : goal.loop-k-init
loop-k-init c = written_none _ _ _ (omega arith)

pub overflow_sub-cost : goal.overflow_sub-cost
overflow_sub-cost c = let e = (goal.at.overflow_sub-cost c).In-loop-k in less_fits (x e) (y e) (small e) (few e)

pub loop-k-preserved : goal.loop-k-preserved
loop-k-preserved c =
    let e = (goal.at.loop-k-preserved c).In-loop-k in
    raised_more (f (q e)) c.loop-k.invariant (omega arith) refl (ap (set c.loop-k.line c.loop-k.k) (less_is (x e) (y e) (small e) (few e)))

pub returns : goal.returns
returns c = raised_all (f (goal.at.returns c).Start) c.loop-k.invariant (omega arith)
