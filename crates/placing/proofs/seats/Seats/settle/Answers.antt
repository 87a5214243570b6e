-- `settle` meets its contract: each turn is one of `Trying`.
use mathlib.Core.Path.{refl, sym, ap, ◌∙◌, subst, transport}
use native.Mathlib.Omega.{arith}
use Rattle.placing.specs.Words.{Asked, Aimed, Rooted, Ended}
use Rattle.placing.proofs.Linking.{linked_as}
use Rattle.placing.proofs.Taking.{Least, least_of}
use Rattle.placing.proofs.Settling.{trying_none, trying_asked, trying_aimed, trying_more, trying_less, tried_none, tried_one}
use Rattle.placing.proofs.seats.Seats.settle.Goals as goal
use Rattle.placing.proofs.seats.Seats.settle.Goals.{After-lowest-l}

pub loop-rest-init : goal.loop-rest-init
loop-rest-init c = (refl, refl, trying_none c.args.u (c.args.self.now.linked.fit_sets c.args.u) c.ranges.before.fits)

-- the lowest label of the turn
low : (t : After-lowest-l) → Least t.loop-rest.rest t.lowest-l.result
low t = least_of t.loop-rest.rest t.lowest-l.result t.loop-rest.invariant.2.fit_rest t.loop-rest-test.true t.lowest-l.ensures

pub chain-requires : goal.chain-requires
chain-requires c =
    let (e, f, v) = c.loop-rest.invariant in
    let t = (goal.at.chain-requires c).After-lowest-l in
    transport (λ j. Asked (sym e j).sets (sym f j) (sym c.bit_of.ensures j) c.loop-rest.seen c.args.u × Aimed (sym e j).own (sym f j) c.args.goals c.loop-rest.seen)
    (trying_asked v c.lowest-l.result c.requires.0 c.requires.1 (low t).1, trying_aimed v c.requires.2)

pub returns-in-Ok-clause-tried : goal.returns-in-Ok-clause-tried
returns-in-Ok-clause-tried c =
    let (e, f, v) = c.loop-rest.invariant in
    let (met, g, r) = c.in-Ok.ensures.placed in
    tried_one v (low (goal.at.returns-in-Ok-clause-tried c).After-lowest-l) g (transport (λ j. Rooted (e j).own (f j) (c.bit_of.ensures j) c.loop-rest.seen c.args.u met c.chain.new.self.taken) r)

pub loop-rest-smaller : goal.loop-rest-smaller
loop-rest-smaller c =
    let ended = subst (λ w. Ended c.loop-rest.self.reach c.args.goals w c.loop-rest.seen c.in-Err.more) c.bit_of.ensures c.in-Err.ensures.barred.1 in
    omega (arith, trying_less c.loop-rest.invariant.2 c.lowest-l.ensures c.loop-rest-test.true ended, c.lowest-l.ensures, (low (goal.at.loop-rest-smaller c).After-lowest-l).0)

pub loop-rest-preserved : goal.loop-rest-preserved
loop-rest-preserved c =
    let (e, f, v) = c.loop-rest.invariant in
    let s = c.in-Err.ensures in
    (s.same ∙ e, s.barred.0 ∙ f, trying_more v s.barred.1 (linked_as (ap (λ n. n.sets) e) f c.loop-rest.self.linked))

pub returns-clause-tried : goal.returns-clause-tried
returns-clause-tried c = let (e, f, v) = c.loop-rest.invariant in tried_none v (c.args.self.now.linked.fit_sets c.args.u) c.loop-rest-test.false f
