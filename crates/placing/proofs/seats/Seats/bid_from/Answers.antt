-- `bid_from` meets its contract: so many bids were made.
use Rattle.std.proofs.Common.{ℕ, ◌+◌, ◌≤◌, ◌<◌, arith, sym, ◌∙◌, subst, ⊎_elim}
use Rattle.placing.specs.Bids.{Aloft}
use Rattle.placing.proofs.Bidding.{aloft_more}
use Rattle.placing.proofs.seats.Seats.bid_from.Goals as goal
use Rattle.placing.proofs.seats.Seats.bid_from.Goals.{After-from, After-bid-next}

-- the node of a turn
module _ (t : After-from) where
  turns : t.loop-turn.turn < 8
  turns = t.loop-turn-test.true

  now : (out m : ℕ) → m + 8 ≤ 512 → Aloft t.args.offers.now t.args.self.now.taken t.args.self.now.free t.args.prices.now out m t.args.u
      → Aloft t.args.offers.now t.loop-turn.self.taken t.loop-turn.self.free t.loop-turn.prices out (m + t.loop-turn.turn) t.from.result
  now out m h v = subst (λ (a : ℕ). Aloft t.args.offers.now t.loop-turn.self.taken t.loop-turn.self.free t.loop-turn.prices out (m + t.loop-turn.turn) a) (sym t.from.ensures) (t.loop-turn.invariant.2 out m h v)

-- it has bidden
module _ (t : After-bid-next) where
  abbrev b : After-from
  b = (goal.at.After-bid-next t).After-from

  bidden : (out m : ℕ) → m + 8 ≤ 512 → Aloft t.args.offers.now t.args.self.now.taken t.args.self.now.free t.args.prices.now out m t.args.u
      → Aloft t.args.offers.now t.bid-next.new.self.taken t.bid-next.new.self.free t.bid-next.new.prices out (m + (t.loop-turn.turn + 1)) t.bid-next.result
  bidden out m h v = aloft_more (m + (t.loop-turn.turn + 1)) (omega arith) (t.bid-next.ensures.placed out (m + t.loop-turn.turn) (let e = turns b in omega arith) (now b out m h v))

pub bid-next-requires : goal.bid-next-requires
bid-next-requires c =
    let t = (goal.at.bid-next-requires c).After-from in
    let (same, _, out, m, h, v) = c.requires in
    (c.loop-turn.invariant.0 ∙ same, omega (arith, c.from.ensures, c.loop-turn.invariant.1), out, m + c.loop-turn.turn, (let e = turns t in omega arith), now t out m h v)

pub returns-then-next-clause-placed : goal.returns-then-next-clause-placed
returns-then-next-clause-placed c out m h v =
    let t = (goal.at.returns-then-next-clause-placed c).After-bid-next in
    aloft_more (m + 8) (let e = turns (b t) in omega arith) (bidden t out m h v)

pub loop-turn-preserved : goal.loop-turn-preserved
loop-turn-preserved c =
    let t = (goal.at.loop-turn-preserved c).After-bid-next in
    let (_, _, out, m, h, v) = c.requires in (
      c.bid-next.ensures.same ∙ c.loop-turn.invariant.0,
      ⊎_elim (λ e. absurd (c.if-next.false e)) (λ s. omega (arith, s.0, c.args.offers.now.nodes.now.few)) (bidden t out m h v).kind,
      bidden t,
    )

pub returns-clause-placed : goal.returns-clause-placed
returns-clause-placed c out m h v = aloft_more (m + 8) (let e = c.loop-turn.auto.turn-end in omega arith) (c.loop-turn.invariant.2 out m h v)
