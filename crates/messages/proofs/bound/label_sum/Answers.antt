-- `label_sum` meets its contract: what is gone through is summed.
use Rattle.std.proofs.Common.{◌≡◌, ℕ, ◌<◌, ◌≤◌, List, length, take, get_or, ℤ, pos, ◌+ℤ◌, nat_abs, refl, ap, ◌∙◌, arith, w64, SFits, to_z, of_z, to_z-of_z, length-take}
use Rattle.std.proofs.lemmas.List.{get_or-take}
use Rattle.integers.specs.Places.{total}
use Rattle.integers.proofs.Totals.{total_ext}
use Rattle.integers.proofs.Parts.{linear, abs}
use Rattle.rules.specs.Calls.{cost_limit}
use Rattle.messages.proofs.SumLaws.{added_none, added_more, added_fits, added_all}
use Rattle.messages.proofs.bound.label_sum.Goals as goal
use Rattle.messages.proofs.bound.label_sum.Goals.{In-loop-cost, Start}

-- the leasts that are summed
module _ (q : Start) where
  abbrev items : List ℤ
  items = take q.args.count q.args.least.now

  size : length items ≡ q.args.count
  size = omega (arith, length-take q.args.count q.args.least.now, q.requires.count_bound, q.told-least)

  at : (i : ℕ) → i < length items → get_or items i (pos 0) ≡ get_or q.args.least.now i (pos 0)
  at i h = get_or-take q.args.count q.args.least.now i (pos 0) (omega (arith, size))

-- one of them
module _ (p : In-loop-cost) where
  abbrev start : Start
  start = (goal.at.In-loop-cost p).Start

  abbrev cost : ℤ
  cost = get_or (items start) p.loop-cost.cost-index (pos 0)

  small : nat_abs cost ≤ cost_limit
  small = rw (at start p.loop-cost.cost-index p.loop-cost-test.true) (start.requires.within p.loop-cost.cost-index)

  fits : SFits w64 (to_z w64 p.loop-cost.sum-bits +ℤ cost)
  fits = added_fits p.loop-cost.invariant cost small (omega arith) (omega (arith, p.loop-cost-test.true, size start, start.requires.count_bound))

  same : to_z w64 (of_z w64 cost) ≡ cost
  same = to_z-of_z {w = w64} {z = cost} (omega (linear, abs cost, small))

pub loop-cost-init : goal.loop-cost-init
loop-cost-init c = added_none _ _

pub overflow_add-sum : goal.overflow_add-sum
overflow_add-sum c = let p = (goal.at.overflow_add-sum c).In-loop-cost in rw (same p) (fits p)

pub loop-cost-preserved : goal.loop-cost-preserved
loop-cost-preserved c =
    let p = (goal.at.loop-cost-preserved c).In-loop-cost in rw (same p, to_z-of_z (fits p)) (added_more c.loop-cost.invariant (cost p) (small p) refl)

pub returns : goal.returns
returns c =
    let q = (goal.at.returns c).Start in
    let d = added_all c.loop-cost.invariant (omega arith) c.loop-cost-test.false in
    let e = total_ext (length (items q)) (λ k. get_or (items q) k (pos 0)) (λ k. get_or q.args.least.now k (pos 0)) (at q) in
    (d.0 ∙ e ∙ ap (λ (n : ℕ). total n (λ k. get_or q.args.least.now k (pos 0))) (size q), rw (← size q) d.1)
