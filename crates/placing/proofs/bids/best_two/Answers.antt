-- `best_two` meets its contract: each turn is one of `Two`.
use Rattle.std.proofs.Common.{◌≡◌, ℕ, ◌+◌, ◌≤◌, ◌<◌, ◌≤ℤ◌, ◌<ℤ◌, pos, length, List, ℤ, ◌+ℤ◌, ◌-ℤ◌, to_z, of_z, to_z-of_z, w64, SFits, arith, refl, sym, ap, ap₂, ◌∙◌, subst, get_or}
use Rattle.integers.proofs.Bits.{answer}
use Rattle.integers.proofs.Parts.{linear, add, abs, parts}
use Rattle.instance.specs.Described.{labels_of}
use Rattle.placing.specs.declared.offers.Offers.{Offers}
use Rattle.placing.specs.Words.{entry}
use Rattle.placing.specs.Priced.{price, net}
use Rattle.placing.specs.Paths.{paid, may, unmet}
use Rattle.placing.specs.Choices.{Lesser, Greater}
use Rattle.placing.specs.Bids.{Choice}
use Rattle.placing.proofs.Offering.{paid_within, start_few, row_few, row_some, row_label, row_once, label_there}
use Rattle.placing.proofs.Bidding.{two_one, two_more, two_done, raise_small}
use Rattle.placing.proofs.bids.best_two.Goals as goal
use Rattle.placing.proofs.bids.best_two.Goals.{After-labels_of-labels, After-price_of, In-loop-k, After-price_of-in-loop-k, After-loop-k}

-- a node's labels and net costs
module _ (t : After-labels_of-labels) where
  abbrev o : Offers
  o = t.args.offers.now

  abbrev u : ℕ
  u = t.args.u

  abbrev labels : List ℕ
  labels = t.labels_of-labels.result.now

  abbrev start : ℕ
  start = entry o.sheet.now.starts u

  same : length labels ≡ length (labels_of o.sheet.now.bytes.now u)
  same = ap length t.labels_of-labels.ensures

  some : 0 < length labels
  some = omega (arith, same, row_some o t.requires.node)

  few : length labels ≤ 16
  few = omega (arith, same, row_few o t.requires.node)

  fits : (l : ℕ) → SFits w64 (net (paid o) t.args.prices.now u l)
  fits l = omega (linear, t.requires.few l, paid_within o u l, add (paid o u l) (price t.args.prices.now l), abs (paid o u l), abs (price t.args.prices.now l))

  small : (l : ℕ) → net (paid o) t.args.prices.now u l <ℤ unmet
  small l = omega (linear, t.requires.few l, paid_within o u l, add (paid o u l) (price t.args.prices.now l), abs (paid o u l), abs (price t.args.prices.now l))

  module _ (k : ℕ) (inside : k < length labels) where
    row : may o u (entry labels k) × (start + k < length o.costs.now) × (get_or o.costs.now (start + k) (pos 0) ≡ paid o u (entry labels k))
    row = subst (λ (s : List ℕ). may o u (entry s k) × (start + k < length o.costs.now) × (get_or o.costs.now (start + k) (pos 0) ≡ paid o u (entry s k))) (sym t.labels_of-labels.ensures)
        (row_label o t.requires.node k (omega (arith, same, inside)))

    cost_is : (i : ℕ) → i ≡ start + k → to_z w64 (of_z w64 (get_or o.costs.now i (pos 0))) ≡ paid o u (entry labels k)
    cost_is i e =
        let y : get_or o.costs.now i (pos 0) ≡ paid o u (entry labels k) = ap (λ (j : ℕ). get_or o.costs.now j (pos 0)) e ∙ row.2 in
        ap (λ (z : ℤ). to_z w64 (of_z w64 z)) y ∙ to_z-of_z {w = w64} {z = paid o u (entry labels k)} (omega (linear, paid_within o u (entry labels k), abs (paid o u (entry labels k))))

    sum_is : {a b : ℤ} → a ≡ paid o u (entry labels k) → b ≡ price t.args.prices.now (entry labels k) → (a +ℤ b ≡ net (paid o) t.args.prices.now u (entry labels k)) × (to_z w64 (of_z w64 (a +ℤ b)) ≡ net (paid o) t.args.prices.now u (entry labels k))
    sum_is x y = let z = ap₂ ◌+ℤ◌ x y in (z, ap (λ (z : ℤ). to_z w64 (of_z w64 z)) z ∙ to_z-of_z (fits (entry labels k)))

pub bounds-labels-0 : goal.bounds-labels-0
bounds-labels-0 c = some (goal.at.bounds-labels-0 c).After-labels_of-labels

pub offset_bounds-offers-start : goal.offset_bounds-offers-start
offset_bounds-offers-start c = omega (arith, start_few c.args.offers.now c.requires.node)

pub bounds-offers-start : goal.bounds-offers-start
bounds-offers-start c = let t = (goal.at.bounds-offers-start c).After-labels_of-labels in omega (arith, (row t 0 (some t)).1)

-- the first label
module _ (t : After-price_of) where
  abbrev b : After-labels_of-labels
  b = (goal.at.After-price_of t).After-labels_of-labels

  first_is : (to_z w64 (of_z w64 (get_or (o b).costs.now (start b) (pos 0))) +ℤ to_z w64 (of_z w64 t.price_of.result) ≡ net (paid (o b)) t.args.prices.now (u b) (entry (labels b) 0))
      × (to_z w64 (of_z w64 (to_z w64 (of_z w64 (get_or (o b).costs.now (start b) (pos 0))) +ℤ to_z w64 (of_z w64 t.price_of.result))) ≡ net (paid (o b)) t.args.prices.now (u b) (entry (labels b) 0))
  first_is = sum_is b 0 (some b) (cost_is b 0 (some b) (start b) (omega arith)) (answer t.price_of.type_inv t.price_of.ensures)

pub overflow_add-least : goal.overflow_add-least
overflow_add-least c = let t = (goal.at.overflow_add-least c).After-price_of in rw (first_is t).0 (fits (b t) (entry (labels (b t)) 0))

pub loop-k-init : goal.loop-k-init
loop-k-init c =
    let t = (goal.at.loop-k-init c).After-price_of in
    let e = (first_is t).1 in
    two_one (entry (labels (b t))) e (let s = small (b t) (entry (labels (b t)) 0) in omega (linear, parts e))

-- a turn's label
module _ (t : In-loop-k) where
  abbrev d : After-labels_of-labels
  d = (goal.at.In-loop-k t).After-labels_of-labels

  inside : t.loop-k.k < length (labels d)
  inside = t.loop-k-test.true

pub overflow_add-net : goal.overflow_add-net
overflow_add-net c = let t = (goal.at.overflow_add-net c).In-loop-k in omega (arith, start_few c.args.offers.now c.requires.node, few (d t), inside t)

pub offset_bounds-offers-start-in-loop-k : goal.offset_bounds-offers-start-in-loop-k
offset_bounds-offers-start-in-loop-k c = let t = (goal.at.offset_bounds-offers-start-in-loop-k c).In-loop-k in omega (arith, start_few c.args.offers.now c.requires.node, few (d t), inside t)

pub bounds-offers-start-in-loop-k : goal.bounds-offers-start-in-loop-k
bounds-offers-start-in-loop-k c = let t = (goal.at.bounds-offers-start-in-loop-k c).In-loop-k in (row (d t) c.loop-k.k (inside t)).1

module _ (t : After-price_of-in-loop-k) where
  abbrev x : In-loop-k
  x = (goal.at.After-price_of-in-loop-k t).In-loop-k

  abbrev k : ℕ
  k = t.loop-k.k

  net_is : (to_z w64 (of_z w64 (get_or (o (d x)).costs.now (start (d x) + k) (pos 0))) +ℤ to_z w64 (of_z w64 t.price_of-in-loop-k.result) ≡ net (paid (o (d x))) t.args.prices.now (u (d x)) (entry (labels (d x)) k))
      × (to_z w64 (of_z w64 (to_z w64 (of_z w64 (get_or (o (d x)).costs.now (start (d x) + k) (pos 0))) +ℤ to_z w64 (of_z w64 t.price_of-in-loop-k.result))) ≡ net (paid (o (d x))) t.args.prices.now (u (d x)) (entry (labels (d x)) k))
  net_is = sum_is (d x) k (inside x) (cost_is (d x) k (inside x) (start (d x) + k) refl) (answer t.price_of-in-loop-k.type_inv t.price_of-in-loop-k.ensures)

pub overflow_add-net-in-loop-k : goal.overflow_add-net-in-loop-k
overflow_add-net-in-loop-k c = let t = (goal.at.overflow_add-net-in-loop-k c).After-price_of-in-loop-k in rw (net_is t).0 (fits (d (x t)) (entry (labels (d (x t))) (k t)))

pub loop-k-preserved : goal.loop-k-preserved
loop-k-preserved c =
    let t = (goal.at.loop-k-preserved c).After-price_of-in-loop-k in
    two_more c.loop-k.invariant (net_is t).1 refl c.choose-label.ensures
    (subst (Lesser _ _) (sym (answer c.lesser-least.type_inv refl)) c.lesser-least.ensures)
    (subst (Greater _ _) (sym (answer c.greater.type_inv refl)) c.greater.ensures)
    (subst (Lesser _ _) (sym (answer c.lesser-second.type_inv refl)) c.lesser-second.ensures)

pub overflow_sub-raise : goal.overflow_sub-raise
overflow_sub-raise c =
    let b = raise_small c.loop-k.invariant (let n = c.if-second-lt-NONE.true in omega linear) c.requires.few in
    omega (linear, b, abs (to_z w64 c.loop-k.second-bits -ℤ to_z w64 c.loop-k.least-bits))

-- all labels are gone through
module _ (t : After-loop-k) where
  abbrev e : After-labels_of-labels
  e = (goal.at.After-loop-k t).After-labels_of-labels

  end : t.loop-k.k ≡ length (labels e)
  end = omega (arith, t.loop-k-test.false, t.loop-k.auto.k-end, some e)

  done : {raise : ℤ} → (to_z w64 t.loop-k.second-bits <ℤ unmet → raise ≡ to_z w64 t.loop-k.second-bits -ℤ to_z w64 t.loop-k.least-bits) → (unmet ≤ℤ to_z w64 t.loop-k.second-bits → raise ≡ pos 0)
      → Choice t.args.offers.now t.args.prices.now t.args.u t.loop-k.label raise
  done f g = two_done t.loop-k.invariant
      (λ j h. (row e j (omega (arith, end, h))).0)
      (λ l m. let (j, h, q) = label_there (o e) t.requires.node l m in (j, omega (arith, end, same e, h), ap (λ (s : List ℕ). entry s j) t.labels_of-labels.ensures ∙ q))
      (λ i j h h' q. row_once (o e) t.requires.node i j (omega (arith, end, same e, h)) (omega (arith, end, same e, h'))
      (ap (λ (s : List ℕ). entry s i) (sym t.labels_of-labels.ensures) ∙ q ∙ ap (λ (s : List ℕ). entry s j) t.labels_of-labels.ensures))
      f g (small e)

pub returns-then-second-lt-NONE : goal.returns-then-second-lt-NONE
returns-then-second-lt-NONE c =
    let z = to_z w64 c.loop-k.second-bits -ℤ to_z w64 c.loop-k.least-bits in
    let b = raise_small c.loop-k.invariant (let n = c.if-second-lt-NONE.true in omega linear) c.requires.few in
    let fit : SFits w64 z = omega (linear, b, abs z) in
    done (goal.at.returns-then-second-lt-NONE c).After-loop-k (λ _. to_z-of_z fit) (λ h. absurd (let n = c.if-second-lt-NONE.true in omega linear))

pub returns-else-second-lt-NONE : goal.returns-else-second-lt-NONE
returns-else-second-lt-NONE c = done (goal.at.returns-else-second-lt-NONE c).After-loop-k (λ h. absurd (let n = c.if-second-lt-NONE.false in omega linear)) (λ _. refl)
