-- `layers` meets its contract: each turn is one of `Searching`.
use Prim.Native.Nat.{ℕ, ◌+◌, ◌<◌}
use mathlib.Core.Path.{◌≡◌, sym, subst}
use mathlib.Core.Bool.{true}
use native.Mathlib.Omega.{arith}
use Rattle.std.proofs.Common.{rules}
use lib.Count.{count_trailing_zeros}
use lib.ListN.{set}
use Rattle.integers.specs.Words.{bit, Words}
use Rattle.integers.proofs.Places.{left_true}
use Rattle.placing.specs.Words.{Met}
use Rattle.placing.proofs.Searching.{queue, newly, layers_none, in_layer, searching_none, searching_met, turn_small, turn_few, turn_same, turn_next, turn_last}
use Rattle.placing.proofs.seats.Seats.layers.Goals as goal
use Rattle.placing.proofs.seats.Seats.layers.Goals.{After-lowest-l, At-loop-layer}

-- inside the loop: the label of the turn
module _ (c : After-lowest-l) where
  abbrev head : At-loop-layer
  head = (goal.at.After-lowest-l c).At-loop-layer

  abbrev l : ℕ
  l = c.lowest-l.result

  abbrev fits : Words head.args.self.now.reach
  fits = head.args.self.now.linked.fit_reach

  abbrev some : head.loop-layer.layer ≡ 0 → ⊥
  some = c.loop-layer-test.true

  abbrev low : l ≡ count_trailing_zeros 64 head.loop-layer.layer
  low = c.lowest-l.ensures

  left : queue head.loop-layer.layer head.loop-layer.next l ≡ true
  left = left_true (bit head.loop-layer.next l) (in_layer head.loop-layer.invariant.1 some low)

  small : c.lowest-l.result < 64
  small = turn_small head.loop-layer.invariant.0 l left

  few : head.loop-layer.count < 64
  few = turn_few head.loop-layer.invariant.0 l left

pub loop-layer-init : goal.loop-layer-init
loop-layer-init c =
    (searching_none (search rules) (search rules) c.ranges.start.fits c.requires.0 c.requires.1 c.ranges.before.fits, layers_none c.args.start c.ranges.start.fits)

pub returns-then-met-ne0 : goal.returns-then-met-ne0
returns-then-met-ne0 c =
    let t = (goal.at.returns-then-met-ne0 c).After-lowest-l in
    let h = (head t).loop-layer in
    rw c.from-from.ensures (subst (Met (head t).args.self.now.reach (head t).args.goals (head t).args.start (head t).args.before (set h.steps.by h.count (l t)) (set h.steps.words h.count (newly (head t).args.self.now.reach h.seen (l t))) (h.count + 1))
    (sym (rw c.from-from.ensures at c.lowest-label.ensures)) (searching_met h.invariant.0 (l t) (left t) (fits t) (rw c.from-from.ensures at c.if-met-ne0.true)))

pub returns-then-all-eq0 : goal.returns-then-all-eq0
returns-then-all-eq0 c =
    let t = (goal.at.returns-then-all-eq0 c).After-lowest-l in rw c.from-from.ensures (turn_last (head t).loop-layer.invariant.0 (head t).loop-layer.invariant.1 (fits t) (some t) (l t) (low t) (rw c.from-from.ensures at c.if-met-ne0.false) c.if-left-eq0.true (rw c.from-from.ensures at c.if-all-eq0.true))

pub loop-layer-preserved-then-left-eq0 : goal.loop-layer-preserved-then-left-eq0
loop-layer-preserved-then-left-eq0 c =
    let t = (goal.at.loop-layer-preserved-then-left-eq0 c).After-lowest-l in rw c.from-from.ensures (turn_next (head t).loop-layer.invariant.0 (head t).loop-layer.invariant.1 (fits t) (some t) (l t) (low t) (rw c.from-from.ensures at c.if-met-ne0.false) c.if-left-eq0.true)

pub loop-layer-preserved : goal.loop-layer-preserved
loop-layer-preserved c =
    let t = (goal.at.loop-layer-preserved c).After-lowest-l in rw c.from-from.ensures (turn_same (head t).loop-layer.invariant.0 (head t).loop-layer.invariant.1 (fits t) (some t) (l t) (low t) (rw c.from-from.ensures at c.if-met-ne0.false) c.if-left-eq0.false)

pub loop-layer-smaller-then-left-eq0 : goal.loop-layer-smaller-then-left-eq0
loop-layer-smaller-then-left-eq0 c = omega (arith, few (goal.at.loop-layer-smaller-then-left-eq0 c).After-lowest-l)

pub loop-layer-smaller : goal.loop-layer-smaller
loop-layer-smaller c = omega (arith, few (goal.at.loop-layer-smaller c).After-lowest-l)

pub bounds-steps-count : goal.bounds-steps-count
bounds-steps-count c = few (goal.at.bounds-steps-count c).After-lowest-l

pub bounds-steps-count-in-loop-layer : goal.bounds-steps-count-in-loop-layer
bounds-steps-count-in-loop-layer c = few (goal.at.bounds-steps-count-in-loop-layer c).After-lowest-l
