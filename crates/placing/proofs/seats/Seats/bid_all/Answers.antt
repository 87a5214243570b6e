-- `bid_all` meets its contract: the nodes so far have bidden, those from u on are not placed.
use Rattle.std.proofs.Common.{◌+◌, ◌*◌, ◌^◌, ◌-◌, ◌≤◌, ◌<◌, arith, refl, sym, ap, ◌∙◌, subst, bit_xor}
use Rattle.integers.proofs.Words.{bit_full, bit_kept}
use Rattle.integers.proofs.Places.{left_true}
use Rattle.placing.specs.declared.tables.Nodes.{Nodes}
use Rattle.placing.specs.Words.{Joined}
use Rattle.placing.specs.Bids.{Aloft, Landed}
use Rattle.placing.proofs.Bidding.{aloft_begins, aloft_ends, landed_none, landed_more}
use Rattle.placing.proofs.seats.Seats.bid_all.Goals as goal
use Rattle.placing.proofs.seats.Seats.bid_all.Goals.{In-loop-u}

pub loop-u-init : goal.loop-u-init
loop-u-init c =
    let s = c.args.self.now in
    (refl, (λ x h g. bit_full x g), subst (λ w. Landed c.args.offers.now s.taken s.free w (2 ^ 64 - 1) 0) (sym c.requires.2) (landed_none c.args.offers.now s.taken s.free c.requires.1))

-- the node of a turn is not placed
module _ (t : In-loop-u) where
  inside : t.loop-u.u < t.args.offers.now.nodes.now.count
  inside = subst (λ (n : Nodes). t.loop-u.u < n.count) t.requires.0 t.loop-u-test.true

  begun : Aloft t.args.offers.now t.loop-u.self.taken t.loop-u.self.free t.loop-u.prices (bit_xor t.loop-u.out (2 ^ t.loop-u.u)) (t.loop-u.u * 8) t.loop-u.u
  begun = let (_, high, v) = t.loop-u.invariant in aloft_begins v inside (high t.loop-u.u (omega arith) (omega (arith, inside, t.args.offers.now.nodes.now.few)))

  room : t.loop-u.u * 8 + 8 ≤ 512
  room = omega (arith, inside, t.args.offers.now.nodes.now.few)

pub bid_from-left-requires : goal.bid_from-left-requires
bid_from-left-requires c =
    let t = (goal.at.bid_from-left-requires c).In-loop-u in
    (c.loop-u.invariant.0 ∙ c.requires.0, omega (arith, inside t, c.args.offers.now.nodes.now.few), bit_xor c.loop-u.out (2 ^ c.loop-u.u), c.loop-u.u * 8, room t, begun t)

pub loop-u-preserved : goal.loop-u-preserved
loop-u-preserved c =
    let t = (goal.at.loop-u-preserved c).In-loop-u in
    let (same, high, v) = c.loop-u.invariant in
    let u = c.loop-u.u in
    let left = c.bid_from-left.result in
    let word = bit_xor c.loop-u.out (2 ^ u) in
    let joined = subst (λ w. Joined w left c.with_label-out.result) (ap (bit_xor c.loop-u.out) c.bit_of.ensures) c.with_label-out.ensures in
    let done = aloft_ends (c.bid_from-left.ensures.placed word (u * 8) (room t) (begun t)) joined in (
      c.bid_from-left.ensures.same ∙ same,
      λ x h g. joined.1 x g ∙ left_true _ (bit_kept c.loop-u.out u x (λ e. omega arith) ∙ high x (omega arith) g),
      landed_more ((u + 1) * 8) (omega arith) done,
    )
