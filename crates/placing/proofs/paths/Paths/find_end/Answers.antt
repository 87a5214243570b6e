-- `find_end` meets its contract: the rows of all steps so far were gone through.
use Rattle.std.proofs.Common.{ℕ, ◌<◌, ◌≤◌, ◌≡◌, true, ◌≤ℤ◌, ◌<ℤ◌, ◌∙◌, sym, subst, arith, to_z, of_z, w64, ⊎_elim}
use Rattle.integers.specs.Words.{bit}
use Rattle.integers.proofs.Bits.{answer}
use Rattle.integers.proofs.Parts.{linear, parts}
use Rattle.placing.specs.declared.paths.Paths.{Paths}
use Rattle.placing.specs.Paths.{far_of, Nearest, Turn, Onward, Chosen}
use Rattle.placing.proofs.Ending.{ended, ended_none}
use Rattle.placing.proofs.paths.Paths.find_end.Goals as goal
use Rattle.placing.proofs.paths.Paths.find_end.Goals.{At-loop-l, In-loop-l, After-way_out-bound}

chosen_near : {p : Paths} {l : ℕ} → Chosen p l → l < 64 → Nearest p l × (far_of p l <ℤ p.bound)
chosen_near v h = ⊎_elim (λ (e, _). absurd (omega arith)) (λ y. y) v

chosen_none : {p : Paths} {l : ℕ} → Chosen p l → 64 ≤ l → (k : ℕ) → bit p.waiting k ≡ true → p.bound ≤ℤ far_of p k
chosen_none v h = ⊎_elim (λ (_, y). y) (λ (n, _). let z = n.small in absurd (omega arith)) v

-- the search so far
module _ (c : At-loop-l) where
  abbrev p : Paths
  p = c.loop-l.self

  turn : Turn c.args.offers.now c.args.seats.now p.prices c.args.root
  turn = subst (λ w. Turn c.args.offers.now c.args.seats.now w c.args.root) (sym c.loop-l.invariant.0) c.requires

pub loop-l-init : goal.loop-l-init
loop-l-init c = (c.begin.ensures.0, c.begin.ensures.1, c.nearest-l.ensures)

-- a step goes on
onward : (c : In-loop-l) → Onward c.args.offers.now c.args.seats.now c.loop-l.self c.args.root c.loop-l.l
onward c =
    let v = c.loop-l.invariant.1 in
    let (n, h) = chosen_near c.loop-l.invariant.2 c.loop-l-test.true in
    record {
      turn = turn (goal.at.In-loop-l c).At-loop-l;
      searched = v;
      nearest = n;
      near = h;
    }

pub go-requires : goal.go-requires
go-requires c = (c.args.root, onward (goal.at.go-requires c).In-loop-l)

pub loop-l-smaller : goal.loop-l-smaller
loop-l-smaller c =
    let e = c.go.ensures c.args.root (onward (goal.at.loop-l-smaller c).In-loop-l) in
    omega (arith, e.1, c.loop-l.invariant.1.few)

pub loop-l-preserved : goal.loop-l-preserved
loop-l-preserved c =
    let e = c.go.ensures c.args.root (onward (goal.at.loop-l-preserved c).In-loop-l) in
    (e.0 ∙ c.loop-l.invariant.0, e.2, c.nearest-l-in-loop-l.ensures)

-- the bound
bound_is : (c : After-way_out-bound) → to_z w64 (of_z w64 c.way_out-bound.result) ≡ c.loop-l.self.bound
bound_is c = answer c.way_out-bound.type_inv c.way_out-bound.ensures

pub returns-then-bound-lt-FAR-clause-answer : goal.returns-then-bound-lt-FAR-clause-answer
returns-then-bound-lt-FAR-clause-answer c =
    let t = (goal.at.returns-then-bound-lt-FAR-clause-answer c).At-loop-l in
    let e = bound_is (goal.at.returns-then-bound-lt-FAR-clause-answer c).After-way_out-bound in
    let v = c.loop-l.invariant.1 in
    (v, ended (turn t) v (chosen_none c.loop-l.invariant.2 c.loop-l-test.false) (omega (linear, parts e, c.if-bound-lt-FAR.true)))

pub returns-else-bound-lt-FAR-clause-answer : goal.returns-else-bound-lt-FAR-clause-answer
returns-else-bound-lt-FAR-clause-answer c =
    let t = (goal.at.returns-else-bound-lt-FAR-clause-answer c).At-loop-l in
    let e = bound_is (goal.at.returns-else-bound-lt-FAR-clause-answer c).After-way_out-bound in
    ended_none (turn t) c.loop-l.invariant.1 (chosen_none c.loop-l.invariant.2 c.loop-l-test.false) (omega (linear, parts e, c.if-bound-lt-FAR.false))
