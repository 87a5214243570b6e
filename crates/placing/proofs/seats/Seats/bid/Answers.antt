-- `bid` meets its contract: the three outcomes of a bid.
use Rattle.std.proofs.Common.{rules, ◌≡◌, ℕ, ◌<◌, length, ℤ, ◌+ℤ◌, to_z, of_z, to_z-of_z, w64, SFits, arith, sym, ap, ap₂, ◌∙◌, subst, set, ⊎_elim, false, pos}
use Rattle.integers.proofs.Bits.{answer}
use Rattle.integers.proofs.Parts.{linear, abs}
use Rattle.integers.specs.Words.{bit}
use Rattle.assignment.proofs.Counts.{differ}
use Rattle.placing.specs.declared.offers.Offers.{Offers}
use Rattle.placing.specs.declared.seats.Seats.{Seats}
use Rattle.placing.specs.declared.tables.Nodes.{Nodes}
use Rattle.placing.specs.Words.{entry, Linked}
use Rattle.placing.specs.Priced.{price}
use Rattle.placing.proofs.Bidding.{bid_home, give_none, give_has, raised_small, bid_taken, bid_dearer}
use Rattle.placing.proofs.seats.Seats.bid.Goals as goal
use Rattle.placing.proofs.seats.Seats.bid.Goals.{After-displace-left, After-price_of, else-bid-eq0-via-then-bid-eq0+else-not-has, else-bid-eq0-via-else-bid-eq0}

pub returns-then-label-ge64-clause-placed : goal.returns-then-label-ge64-clause-placed
returns-then-label-ge64-clause-placed c out m h v = bid_home v c.requires.1 c.best_two-bid.ensures c.if-label-ge64.true

-- the label's node has left it
module _ (t : After-displace-left) where
  abbrev o : Offers
  o = t.args.offers.now

  abbrev s : Seats
  s = t.args.self.now

  abbrev label : ℕ
  label = t.best_two-bid.result.label

  inside : label < 64
  inside = omega (arith, t.if-label-ge64.false)

  linked : Linked o.nodes.now.sets s.taken s.holders s.reach s.free
  linked = subst (λ (n : Nodes). Linked n.sets s.taken s.holders s.reach s.free) t.requires.0 s.linked

  size : length t.displace-left.new.self.taken ≡ 64
  size = t.displace-left.new.self.linked.size_taken

pub give-requires : goal.give-requires
give-requires c =
    let t = (goal.at.give-requires c).After-displace-left in
    let (_, small, out, m, few, v) = c.requires in
    let ch = c.best_two-bid.ensures in
    let d = c.displace-left.ensures.displaced in (
      small,
      inside t,
      give_none v small ch few (inside t) (linked t) d (size t),
      d.vacant,
      ap (λ (n : Nodes). bit (entry n.sets c.args.u) (label t)) (c.displace-left.ensures.same ∙ c.requires.0) ∙ give_has v small ch few (inside t) (linked t) d (size t),
    )

-- its price
module _ (t : After-price_of) where
  abbrev d : After-displace-left
  d = (goal.at.After-price_of t).After-displace-left

  abbrev z : ℤ
  z = price t.args.prices.now (label d) +ℤ t.best_two-bid.result.raise

  sum_is : to_z w64 (of_z w64 t.price_of.result) +ℤ to_z w64 (of_z w64 t.best_two-bid.result.raise) ≡ z
  sum_is = ap₂ ◌+ℤ◌ (answer t.price_of.type_inv t.price_of.ensures) (search rules)

  fits : SFits w64 z
  fits = let (_, small, out, m, few, v) = t.requires in
      omega (linear, abs z, raised_small v small t.best_two-bid.ensures few (inside d) (linked d) t.displace-left.ensures.displaced (size d))

pub overflow_add-raised : goal.overflow_add-raised
overflow_add-raised c = let t = (goal.at.overflow_add-raised c).After-price_of in rw (sum_is t) (fits t)

pub returns-clause-placed : goal.returns-clause-placed
returns-clause-placed c out m h v =
    let t = (goal.at.returns-clause-placed c).After-price_of in
    bid_taken v c.requires.1 c.best_two-bid.ensures h (inside (d t)) (linked (d t)) c.displace-left.ensures.displaced (size (d t)) c.give.ensures.taken c.give.ensures.free
    (ap₂ (λ (i : ℕ) (y : ℤ). set c.args.prices.now i y) c.from.ensures (ap (λ (y : ℤ). to_z w64 (of_z w64 y)) (sum_is t) ∙ to_z-of_z (fits t)))

-- a node was displaced: the label was held, so its price rises
pub returns-clause-dearer : goal.returns-clause-dearer
returns-clause-dearer c h _ =
    let t = (goal.at.returns-clause-dearer c).After-price_of in
    let (_, small, out, m, few, v) = c.requires in
    let e = c.displace-left.ensures.displaced in
    let held : bit c.args.self.now.free (label (d t)) ≡ false = ⊎_elim (λ q. absurd (omega arith)) (λ (l, y, _). ap (bit c.args.self.now.free) (sym y) ∙ ((linked (d t)).taker c.displace-left.result l (let g = inside (d t) in omega arith)).0) e.kind in
    let rises : c.best_two-bid.result.raise ≡ pos 0 → ⊥ = elim c.else-bid-eq0.branch [
      | else-bid-eq0-via-then-bid-eq0+else-not-has w ↦ λ _. differ (sym w.has.ensures ∙ w.if-not-has.false) held
      | else-bid-eq0-via-else-bid-eq0 w ↦ λ y. w.if-bid-eq0.false (ap (of_z w64) y)
    ] in (
      label (d t),
      bid_dearer v small c.best_two-bid.ensures few (inside (d t)) (linked (d t)) e (size (d t)) c.give.ensures.taken c.give.ensures.free
          (ap₂ (λ (i : ℕ) (y : ℤ). set c.args.prices.now i y) c.from.ensures (ap (λ (y : ℤ). to_z w64 (of_z w64 y)) (sum_is t) ∙ to_z-of_z (fits t))) rises,
    )
