-- `go` meets its contract: the step's tables, and the holder's row.
use Rattle.std.proofs.Common.{rules, ◌≡◌, ℕ, ◌+◌, ◌<◌, ◌≤◌, ◌^◌, ℤ, ◌-ℤ◌, nat_abs, sym, ap, ap₂, ◌∙◌, subst, arith, w64, SFits, to_z, of_z, to_z-of_z, set, bit_xor}
use mathlib.Core.Path.{transport}
use Rattle.integers.proofs.Bits.{answer}
use Rattle.integers.proofs.Parts.{linear, abs}
use Rattle.placing.specs.declared.offers.Offers.{Offers}
use Rattle.placing.specs.declared.paths.Paths.{Paths}
use Rattle.placing.specs.declared.seats.Seats.{Seats}
use Rattle.placing.specs.Words.{entry}
use Rattle.placing.specs.Priced.{price}
use Rattle.placing.specs.Paths.{paid, may, far_of, Bounded, Scanned}
use Rattle.placing.proofs.Reaching.{far_small}
use Rattle.placing.proofs.Pathing.{root_few, length_fits, met_here, step_room, holder_few, holder_has, onward_fits, bounded_next, stepped_row}
use Rattle.placing.proofs.paths.Paths.go.Goals as goal
use Rattle.placing.proofs.paths.Paths.go.Goals.{After-at-price, After-cost-cost}

-- the tables with the step at the node u; w is the label's word
abbrev next : Paths → ℕ → ℕ → ℕ → Paths
next p l u w = record {
  prices = p.prices;
  far = p.far;
  by = p.by;
  labels = set p.labels (p.step + 1) l;
  nodes = set p.nodes (p.step + 1) u;
  step = p.step + 1;
  waiting = bit_xor p.waiting w;
  home = p.home;
  home_by = p.home_by;
  bound = p.bound;
  goal = p.goal;
}

module _ (c : After-at-price) where
  abbrev o : Offers
  o = c.args.offers.now

  abbrev s : Seats
  s = c.args.seats.now

  abbrev p : Paths
  p = c.args.self.now

  abbrev l : ℕ
  l = c.args.l

  abbrev root : ℕ
  root = c.requires.0

  abbrev d : ℤ
  d = far_of p l -ℤ price p.prices l

  holder : c.from-u.result ≡ entry s.holders l
  holder = c.from-u.ensures ∙ ap (entry s.holders) c.from.ensures

  few : c.from-u.result < o.nodes.now.count
  few = let e = c.requires.1 in subst (λ u. u < o.nodes.now.count) (sym holder) (holder_few e.turn e.searched e.nearest e.near)

  has : may o c.from-u.result l
  has = let e = c.requires.1 in subst (λ u. may o u l) (sym holder) (holder_has e.turn e.searched e.nearest e.near)

  room : p.step + 1 < 64
  room = let e = c.requires.1 in omega (arith, step_room e.turn e.searched e.nearest e.near, root_few e.turn)

  d_small : nat_abs d ≤ 2 ^ 48
  d_small = let e = c.requires.1 in omega (arith, length_fits e.turn e.searched l (met_here e.turn e.searched e.nearest e.near) (omega arith), room)

  fits : SFits w64 d
  fits = omega (linear, abs d, d_small)

  far_is : to_z w64 (of_z w64 c.at-far.result) ≡ far_of p l
  far_is = answer c.at-far.type_inv (c.at-far.ensures ∙ sym (far_small p c.requires.1.nearest.small))

  read : to_z w64 (of_z w64 c.at-far.result) -ℤ to_z w64 (of_z w64 c.at-price.result) ≡ d
  read = ap₂ ◌-ℤ◌ far_is (answer c.at-price.type_inv c.at-price.ensures)

module _ (c : After-cost-cost) where
  abbrev q : After-at-price
  q = (goal.at.After-cost-cost c).After-at-price

  abbrev b : ℤ
  b = d q -ℤ paid (o q) (entry (s q).holders (l q)) (l q)

  b_small : nat_abs b ≤ 2 ^ 48
  b_small = let e = c.requires.1 in omega (arith, onward_fits e.turn e.searched e.nearest e.near, room q)

  b_fits : SFits w64 b
  b_fits = omega (linear, abs b, b_small)

  read_b : to_z w64 (of_z w64 (to_z w64 (of_z w64 c.at-far.result) -ℤ to_z w64 (of_z w64 c.at-price.result))) -ℤ to_z w64 (of_z w64 c.cost-cost.result) ≡ b
  read_b = ap₂ ◌-ℤ◌ (ap (λ (z : ℤ). to_z w64 (of_z w64 z)) (read q) ∙ to_z-of_z (fits q)) (answer c.cost-cost.type_inv (c.cost-cost.ensures ∙ ap (λ (u : ℕ). paid (o q) u (l q)) (holder q)))

  base_is : to_z w64 (of_z w64 (to_z w64 (of_z w64 (to_z w64 (of_z w64 c.at-far.result) -ℤ to_z w64 (of_z w64 c.at-price.result))) -ℤ to_z w64 (of_z w64 c.cost-cost.result))) ≡ b
  base_is = ap (λ (z : ℤ). to_z w64 (of_z w64 z)) read_b ∙ to_z-of_z b_fits

pub overflow_sub-base : goal.overflow_sub-base
overflow_sub-base c = let t = (goal.at.overflow_sub-base c).After-at-price in rw (read t) (fits t)

pub overflow_sub-base-2 : goal.overflow_sub-base-2
overflow_sub-base-2 c = let t = (goal.at.overflow_sub-base-2 c).After-cost-cost in rw (read_b t) (b_fits t)

pub cost-cost-requires : goal.cost-cost-requires
cost-cost-requires c = let t = (goal.at.cost-cost-requires c).After-at-price in (few t, has t)

pub overflow_add-self : goal.overflow_add-self
overflow_add-self c = omega (arith, room (goal.at.overflow_add-self c).After-at-price)

pub bounds-self-self : goal.bounds-self-self
bounds-self-self c = room (goal.at.bounds-self-self c).After-at-price

pub bounds-self-self-2 : goal.bounds-self-self-2
bounds-self-self-2 c = room (goal.at.bounds-self-self-2 c).After-at-price

pub scan-requires : goal.scan-requires
scan-requires c =
    let t = (goal.at.scan-requires c).After-cost-cost in
    let e = c.requires.1 in (
      record { node = few (q t); step = room (q t); base = rw (base_is t) (omega (arith, b_small t)); prices = e.turn.priced.top },
      transport (λ j. Bounded c.args.seats.now.free (next c.args.self.now c.args.l (entry c.args.seats.now.holders (sym c.from.ensures j)) (sym c.bit_of.ensures j))) (bounded_next e.turn e.searched e.nearest e.near),
    )

pub returns : goal.returns
returns c root e =
    let x = (goal.at.returns c).After-cost-cost in
    let w = c.scan.new.self in
    let p = c.args.self.now in
    let r = transport (λ j. Scanned c.args.offers.now (next p c.args.l (entry c.args.seats.now.holders (c.from.ensures j)) (c.bit_of.ensures j)) w (holder (q x) j) (base_is x j)) c.scan.ensures.0 in
    (r.kept.prices, r.kept.step, stepped_row e.turn e.searched e.nearest e.near (search rules) (search rules) r c.scan.ensures.1)
