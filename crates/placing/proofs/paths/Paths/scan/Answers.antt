-- `scan` meets its contract: label by label of the row.
use Rattle.std.proofs.Common.{rules, ◌≡◌, ℕ, ◌+◌, ◌<◌, ◌≤◌, ℤ, ◌+ℤ◌, pos, ap, ap₂, ◌∙◌, subst, arith, length, get_or, to_z-of_z, to_z, of_z, w64, SFits, List}
use Rattle.integers.proofs.Parts.{linear, add, abs}
use Rattle.placing.specs.declared.offers.Offers.{Offers}
use Rattle.placing.specs.Words.{entry}
use Rattle.placing.specs.Priced.{price}
use Rattle.placing.specs.Paths.{paid, may, Reached}
use Rattle.placing.proofs.Offering.{paid_within, row_few, row_label, label_there, start_few}
use Rattle.placing.proofs.Reaching.{scanning_none, scanning_more, scanning_all}
use Rattle.placing.proofs.Slots.{opens_kinds}
use Rattle.placing.proofs.paths.Paths.scan.Goals as goal
use Rattle.placing.proofs.paths.Paths.scan.Goals.{In-loop-k, At-loop-k}

module _ (c : At-loop-k) where
  abbrev o : Offers
  o = c.args.offers.now

  base_is : to_z w64 (of_z w64 c.args.base) ≡ c.args.base
  base_is = to_z-of_z c.ranges.base

-- the label of a turn, and what the node pays there
module _ (c : In-loop-k) where
  abbrev h : At-loop-k
  h = (goal.at.In-loop-k c).At-loop-k

  abbrev labels : List ℕ
  labels = c.labels_of-labels.result.now

  abbrev l : ℕ
  l = entry labels c.loop-k.k

  few : length labels ≤ 16
  few = rw c.labels_of-labels.ensures (row_few (o h) c.requires.0.node)

  here : may (o h) c.args.u l × (entry (o h).sheet.now.starts c.args.u + c.loop-k.k < length (o h).costs.now) × (get_or (o h).costs.now (entry (o h).sheet.now.starts c.args.u + c.loop-k.k) (pos 0) ≡ paid (o h) c.args.u l)
  here = rw c.labels_of-labels.ensures (row_label (o h) c.requires.0.node c.loop-k.k (rw c.labels_of-labels.ensures at c.loop-k-test.true))

  fits : SFits w64 (c.args.base +ℤ paid (o h) c.args.u l)
  fits =
      let y = paid (o h) c.args.u l in
      omega (linear, add c.args.base y, abs c.args.base, abs y, c.requires.0.base, paid_within (o h) c.args.u l)

  parts_are : to_z w64 (of_z w64 c.args.base) +ℤ to_z w64 (of_z w64 (get_or (o h).costs.now (entry (o h).sheet.now.starts c.args.u + c.loop-k.k) (pos 0))) ≡ c.args.base +ℤ paid (o h) c.args.u l
  parts_are = ap₂ ◌+ℤ◌ (base_is h) (to_z-of_z {w = w64} {z = get_or (o h).costs.now (entry (o h).sheet.now.starts c.args.u + c.loop-k.k) (pos 0)} (search rules) ∙ here.2)

  sum_is : to_z w64 (of_z w64 (to_z w64 (of_z w64 c.args.base) +ℤ to_z w64 (of_z w64 (get_or (o h).costs.now (entry (o h).sheet.now.starts c.args.u + c.loop-k.k) (pos 0))))) ≡ c.args.base +ℤ paid (o h) c.args.u l
  sum_is = ap (λ (y : ℤ). to_z w64 (of_z w64 y)) parts_are ∙ to_z-of_z fits

pub overflow_add-base : goal.overflow_add-base
overflow_add-base c = let t = (goal.at.overflow_add-base c).In-loop-k in rw (parts_are t) (fits t)

pub overflow_add-cost : goal.overflow_add-cost
overflow_add-cost c = let t = (goal.at.overflow_add-cost c).In-loop-k in omega (arith, start_few (o (h t)) c.requires.0.node, few t, c.loop-k-test.true)

pub offset_bounds-offers-start : goal.offset_bounds-offers-start
offset_bounds-offers-start c = let t = (goal.at.offset_bounds-offers-start c).In-loop-k in omega (arith, start_few (o (h t)) c.requires.0.node, few t, c.loop-k-test.true)

pub bounds-offers-start : goal.bounds-offers-start
bounds-offers-start c = (here (goal.at.bounds-offers-start c).In-loop-k).1

pub reach-requires : goal.reach-requires
reach-requires c =
    let t = (goal.at.reach-requires c).In-loop-k in
    let v = c.loop-k.invariant.0 in
    let y = paid (o (h t)) c.args.u (l t) in (
      opens_kinds (o (h t)).nodes.now.sets (o (h t)).nodes.now.own c.args.u (l t) (here t).0,
      rw v.kept.step c.requires.0.step,
      rw (sum_is t) (omega (linear, add c.args.base y, abs c.args.base, abs y, abs (c.args.base +ℤ y), c.requires.0.base, paid_within (o (h t)) c.args.u (l t))),
      rw v.kept.prices (c.requires.0.prices (l t)),
      c.loop-k.invariant.1,
    )

pub loop-k-init : goal.loop-k-init
loop-k-init c = (scanning_none _ _ _ _ _, c.requires.1)

pub loop-k-preserved : goal.loop-k-preserved
loop-k-preserved c =
    let t = (goal.at.loop-k-preserved c).In-loop-k in
    let v = c.loop-k.invariant.0 in
    let r = ap₂ (λ (y : ℤ) (w : List ℤ). y +ℤ price w (l t)) (sum_is t) v.kept.prices in
    (rw (base_is (h t)) (scanning_more (here t).0 (rw (base_is (h t)) at v) (subst (Reached c.loop-k.self c.reach.new.self (l t)) r c.reach.ensures.0)), c.reach.ensures.1)

pub returns : goal.returns
returns c =
    let t = (goal.at.returns c).At-loop-k in (
      scanning_all (rw (base_is t) at c.loop-k.invariant.0)
          (λ l m. let (j, g, e) = label_there (o t) c.requires.0.node l m in
          let k = ap length c.labels_of-labels.ensures in
          (j, omega (arith, c.loop-k-test.false), ap (λ (s : List ℕ). entry s j) c.labels_of-labels.ensures ∙ e)),
      c.loop-k.invariant.1,
    )
