-- `nearest` meets its contract: the best so far is the nearest but for those of the rest.
use Rattle.std.proofs.Common.{rules, ◌≡◌, ◌<◌, ◌^◌, ◌-◌, sym, subst, ◌∙◌, to_z, of_z, w64, to_z-of_z}
use mathlib.Core.Path.{transport}
use lib.Bits.{bit_and}
use Rattle.integers.proofs.Bits.{answer}
use Rattle.integers.proofs.Parts.{linear, parts}
use Rattle.integers.proofs.Words.{bit_small}
use Rattle.placing.specs.declared.paths.Paths.{Paths}
use Rattle.placing.specs.Paths.{far_of}
use Rattle.placing.proofs.Nearest.{Choosing, choosing_none, low_waits, choosing_low, choosing_same, choosing_done}
use Rattle.placing.proofs.Reaching.{far_small}
use Rattle.placing.proofs.paths.Paths.nearest.Goals as goal
use Rattle.placing.proofs.paths.Paths.nearest.Goals.{then-far-least, else-far-least, At-loop-rest, After-at-far}

fit : (t : At-loop-rest) → t.args.self.now.waiting < 2 ^ 64
fit t = search rules

pub loop-rest-init : goal.loop-rest-init
loop-rest-init c =
    let p = c.args.self.now in
    let e = to_z-of_z {w = w64} {z = p.bound} (search rules) in
    subst (λ z. Choosing p 64 z p.waiting) (sym e) (choosing_none p (search rules))

pub at-far-requires : goal.at-far-requires
at-far-requires c = bit_small c.args.self.now.waiting c.lowest-l.result (fit (goal.at.at-far-requires c).At-loop-rest) (low_waits c.loop-rest.invariant c.loop-rest-test.true c.lowest-l.ensures)

-- the label that is asked of
module _ (c : After-at-far) where
  abbrev p : Paths
  p = c.args.self.now

  far_is : to_z w64 (of_z w64 c.at-far.result) ≡ far_of p c.lowest-l.result
  far_is = answer c.at-far.type_inv (c.at-far.ensures ∙ sym (far_small p (bit_small p.waiting c.lowest-l.result (fit (goal.at.After-at-far c).At-loop-rest) (low_waits c.loop-rest.invariant c.loop-rest-test.true c.lowest-l.ensures))))

pub loop-rest-preserved : goal.loop-rest-preserved
loop-rest-preserved c =
    let x = (goal.at.loop-rest-preserved c).After-at-far in
    let v = c.loop-rest.invariant in
    let rest = bit_and c.loop-rest.rest (c.loop-rest.rest - 1) in
    let e = far_is x in
    elim c.if-far-least.branch [
      | then-far-least w ↦ transport (λ j. Choosing (p x) (sym w.best-is j) (sym (w.least-is ∙ e) j) rest) (choosing_low v c.loop-rest-test.true c.lowest-l.ensures (omega (linear, parts e, w.if-far-least.true)))
      | else-far-least w ↦ transport (λ j. Choosing (p x) (sym w.best-is j) (sym w.least-is j) rest) (choosing_same v c.loop-rest-test.true c.lowest-l.ensures (omega (linear, parts e, w.if-far-least.false)))
    ]

pub returns : goal.returns
returns c = choosing_done c.loop-rest.invariant (fit (goal.at.returns c).At-loop-rest) c.loop-rest-test.false
