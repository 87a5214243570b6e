-- `tight_row` meets its contract: each turn is one of `Gathered`.
use Rattle.std.proofs.Common.{rules, ◌≡◌, ℕ, ◌+◌, ◌<◌, ◌≤◌, ◌^◌, ℤ, ◌+ℤ◌, pos, ap, ap₂, ◌∙◌, subst, arith, get_or, to_z-of_z, w64, to_z, of_z, SFits, List, length, nat_abs}
use Rattle.integers.proofs.Bits.{answer}
use Rattle.integers.proofs.Parts.{linear, add, abs, parts}
use Rattle.instance.specs.Described.{labels_of}
use Rattle.placing.specs.declared.offers.Offers.{Offers}
use Rattle.placing.specs.Words.{entry}
use Rattle.placing.specs.Priced.{price, net}
use Rattle.placing.specs.Paths.{paid, may}
use Rattle.placing.specs.TightRows.{Joins}
use Rattle.placing.proofs.Offering.{paid_within, start_few, row_few, row_label}
use Rattle.placing.proofs.TightLaws.{Gathered, gathered_none, gathered_past, gathered_more, gathered_done}
use Rattle.placing.proofs.offers.Offers.tight_row.Goals as goal
use Rattle.placing.proofs.offers.Offers.tight_row.Goals.{After-price_of, In-loop-k, After-price_of-in-loop-k, then-here-least, else-here-least}

-- a net cost fits
net_fits : (o : Offers) (prices : List ℤ) (u l : ℕ) → nat_abs (price prices l) ≤ 2 ^ 50 → SFits w64 (paid o u l +ℤ price prices l)
net_fits o prices u l h = let a = paid_within o u l in omega (linear, add (paid o u l) (price prices l), abs (paid o u l), abs (price prices l))

module _ (t : After-price_of) where
  abbrev o : Offers
  o = t.args.self.now

  abbrev u : ℕ
  u = t.args.u

  fits : SFits w64 (net (paid o) t.args.prices.now u t.args.label)
  fits = net_fits o t.args.prices.now u t.args.label (t.requires.few t.args.label)

  cost_is : to_z w64 (of_z w64 t.cost.result) ≡ paid o u t.args.label
  cost_is = answer t.cost.type_inv t.cost.ensures

  price_is : to_z w64 (of_z w64 t.price_of.result) ≡ price t.args.prices.now t.args.label
  price_is = answer t.price_of.type_inv t.price_of.ensures

  least_is : to_z w64 (of_z w64 (to_z w64 (of_z w64 t.cost.result) +ℤ to_z w64 (of_z w64 t.price_of.result))) ≡ net (paid o) t.args.prices.now u t.args.label
  least_is = ap (λ (z : ℤ). to_z w64 (of_z w64 z)) (ap₂ ◌+ℤ◌ cost_is price_is) ∙ to_z-of_z fits

pub overflow_add-least : goal.overflow_add-least
overflow_add-least c = let t = (goal.at.overflow_add-least c).After-price_of in rw (cost_is t, price_is t) (fits t)

pub loop-k-init : goal.loop-k-init
loop-k-init c = gathered_none c.args.self.now c.args.prices.now c.args.u c.args.label

module _ (t : In-loop-k) where
  abbrev k : ℕ
  k = t.loop-k.k

  inside : k < length (labels_of t.args.self.now.sheet.now.bytes.now t.args.u)
  inside = subst (λ l. k < length l) t.labels_of-labels.ensures t.loop-k-test.true

  row : may t.args.self.now t.args.u (entry (labels_of t.args.self.now.sheet.now.bytes.now t.args.u) k) × (entry t.args.self.now.sheet.now.starts t.args.u + k < length t.args.self.now.costs.now)
      × (get_or t.args.self.now.costs.now (entry t.args.self.now.sheet.now.starts t.args.u + k) (pos 0) ≡ paid t.args.self.now t.args.u (entry (labels_of t.args.self.now.sheet.now.bytes.now t.args.u) k))
  row = row_label t.args.self.now t.requires.node.0 k inside

  place_few : entry t.args.self.now.sheet.now.starts t.args.u + k < 2 ^ 33
  place_few = omega (arith, start_few t.args.self.now t.requires.node.0, row_few t.args.self.now t.requires.node.0, inside)

pub overflow_add-here : goal.overflow_add-here
overflow_add-here c = omega (arith, place_few (goal.at.overflow_add-here c).In-loop-k)

pub offset_bounds-self-start : goal.offset_bounds-self-start
offset_bounds-self-start c = omega (arith, place_few (goal.at.offset_bounds-self-start c).In-loop-k)

pub bounds-self-start : goal.bounds-self-start
bounds-self-start c = (row (goal.at.bounds-self-start c).In-loop-k).1

-- the turn's label and its net cost
module _ (t : After-price_of-in-loop-k) where
  abbrev x : Offers
  x = t.args.self.now

  abbrev l : ℕ
  l = entry (labels_of x.sheet.now.bytes.now t.args.u) t.loop-k.k

  abbrev here : In-loop-k
  here = (goal.at.After-price_of-in-loop-k t).In-loop-k

  price_here : to_z w64 (of_z w64 t.price_of-in-loop-k.result) ≡ price t.args.prices.now l
  price_here = answer t.price_of-in-loop-k.type_inv t.price_of-in-loop-k.ensures ∙ ap (λ (b : List ℕ). price t.args.prices.now (entry b t.loop-k.k)) t.labels_of-labels.ensures

  cost_here : to_z w64 (of_z w64 (get_or x.costs.now (entry x.sheet.now.starts t.args.u + t.loop-k.k) (pos 0))) ≡ paid x t.args.u l
  cost_here = to_z-of_z {w = w64} {z = get_or x.costs.now (entry x.sheet.now.starts t.args.u + t.loop-k.k) (pos 0)} (search rules) ∙ (row here).2

  here_fits : SFits w64 (net (paid x) t.args.prices.now t.args.u l)
  here_fits = net_fits x t.args.prices.now t.args.u l (t.requires.few l)

  here_is : to_z w64 (of_z w64 (to_z w64 (of_z w64 (get_or x.costs.now (entry x.sheet.now.starts t.args.u + t.loop-k.k) (pos 0))) +ℤ to_z w64 (of_z w64 t.price_of-in-loop-k.result)))
      ≡ net (paid x) t.args.prices.now t.args.u l
  here_is = ap (λ (z : ℤ). to_z w64 (of_z w64 z)) (ap₂ ◌+ℤ◌ cost_here price_here) ∙ to_z-of_z here_fits

pub overflow_add-here-in-loop-k : goal.overflow_add-here-in-loop-k
overflow_add-here-in-loop-k c = rw (cost_here c, price_here c) (here_fits c)

pub loop-k-preserved : goal.loop-k-preserved
loop-k-preserved c =
    let t = (goal.at.loop-k-preserved c).After-price_of-in-loop-k in
    let q = c.args in
    let least = least_is (goal.at.loop-k-preserved c).After-price_of in
    let v = c.loop-k.invariant in
    elim c.if-here-least.branch [
      | then-here-least w ↦ rw w.row-is (gathered_more q.self.now q.prices.now q.u q.label v c.requires.node.0 (inside (here t)) (omega (linear, parts least, parts (here_is t), w.if-here-least.true))
          (subst (λ (b : List ℕ). Joins c.loop-k.row (entry b c.loop-k.k) w.joined-row.result) c.labels_of-labels.ensures w.joined-row.ensures))
      | else-here-least w ↦ rw w.row-is (gathered_past q.self.now q.prices.now q.u q.label v (λ low. omega (linear, parts least, parts (here_is t), w.if-here-least.false, low)))
    ]

pub returns : goal.returns
returns c =
    let b = labels_of c.args.self.now.sheet.now.bytes.now c.args.u in
    let e : c.loop-k.k ≡ length b = subst (λ (l : List ℕ). c.loop-k.k ≡ length l) c.labels_of-labels.ensures (omega (arith, c.loop-k-test.false, c.loop-k.auto.k-end)) in
    gathered_done c.args.self.now c.args.prices.now c.args.u c.args.label c.requires.node.0 (subst (λ (k : ℕ). Gathered c.args.self.now c.args.prices.now c.args.u c.args.label c.loop-k.row k) e c.loop-k.invariant)
