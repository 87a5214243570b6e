-- `fill` meets its contract: the nodes so far could not leave.
use Prim.Native.Nat.{ℕ, ◌+◌, ◌^◌, ◌<◌}
use mathlib.Core.Path.{◌≡◌, refl, sym, ◌∙◌, subst, transport}
use mathlib.Core.Bool.{true, false}
use mathlib.Core.List.{List}
use native.Mathlib.Omega.{arith}
use lib.Bits.{bit_or, bit_xor}
use lib.ListN.{set}
use Rattle.integers.specs.Words.{bit}
use Rattle.placing.specs.Words.{entry, Aimed, Spent, Rooted, Passed}
use Rattle.placing.proofs.Reseating.{spent_none, spent_past, spent_more, spent_left}
use Rattle.placing.proofs.seats.Seats.fill.Goals as goal

pub loop-x-init : goal.loop-x-init
loop-x-init c =
    let s = c.args.self.now in let t = c.args.terms.now in
    let (inside, small, _, o, under) = c.requires in
    let (a, v) = subst (λ w. Aimed s.nodes.now.own s.taken (2 ^ c.args.owed) (bit_or t.closed (bit_xor s.free w)) × Spent s.nodes.now.sets s.taken t.idle c.args.owed c.args.u (c.args.u + 1) t.closed (bit_or t.closed (bit_xor s.free w)))
    (sym c.bit_of-goals.ensures) (spent_none s.nodes.now.few inside small o under s.linked) in
    (refl, refl, a, v)

pub returns-in-Ok-clause-placed : goal.returns-in-Ok-clause-placed
returns-in-Ok-clause-placed c =
    let s = c.args.self.now in
    let (inside, small, _, o, under) = c.requires in
    let (e, f, a, v) = c.loop-x.invariant in
    let (met, g, r) = c.in-Ok.ensures.placed in
    spent_left s.nodes.now.few inside small o under v (omega (arith, c.loop-x-test.true)) a s.linked.size_taken (s.linked.fit_sets c.loop-x.x) (omega (arith, c.loop-x.auto.x))
    (subst (λ (t : List ℕ). entry t c.loop-x.x < 64 → bit c.args.terms.now.idle (entry t c.loop-x.x) ≡ true) f (c.must_stay-stays.ensures.leaves c.if-stays.false))
    (subst (λ w. bit w met ≡ true) c.bit_of-goals.ensures g)
    (transport (λ j. Rooted (e j).own (set (f j) c.loop-x.x 255) (entry (e j).sets c.loop-x.x) c.loop-x.seen c.loop-x.x met c.reseat.new.self.taken) r)

pub loop-x-preserved : goal.loop-x-preserved
loop-x-preserved c =
    let s = c.args.self.now in
    let (inside, small, _, o, under) = c.requires in
    let (e, f, a, v) = c.loop-x.invariant in let p = c.in-Err.ensures.barren in
    let (b, w) = spent_more s.nodes.now.few inside small o under v c.loop-x-test.true a
    (transport (λ j. Passed (e j).sets (f j) (c.bit_of-goals.ensures j) c.loop-x.seen c.loop-x.x c.in-Err.more) p.1) in
    (c.reseat.ensures.same ∙ e, p.0 ∙ f, b, w)

pub loop-x-preserved-then-stays : goal.loop-x-preserved-then-stays
loop-x-preserved-then-stays c =
    let (inside, small, _, o, under) = c.requires in
    let (e, f, a, v) = c.loop-x.invariant in
    let (l, i) = subst (λ (t : List ℕ). (entry t c.loop-x.x < 64) × (bit c.args.terms.now.idle (entry t c.loop-x.x) ≡ false)) f (c.must_stay-stays.ensures.stays c.if-stays.true) in
    (e, f, a, spent_past c.args.self.now.nodes.now.few inside small o under v l i)
