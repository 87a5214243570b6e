-- The end of a search: at a free label, at 255, or with no way on, and then not all nodes can be placed.
-- Assumes nothing.
use mathlib.Core.Path.{◌≡◌, refl, sym, ap, ◌∙◌}
use mathlib.Core.Bool.{true}
use mathlib.Core.Logic.{⊎_elim}
use Prim.Native.Nat.{ℕ, suc, ◌+◌, ◌-◌, ◌≤◌, ◌<◌}
use native.Mathlib.Omega.{arith}
use lib.Signed.{◌≤ℤ◌, ◌<ℤ◌, lt_z}
use Rattle.integers.specs.Words.{bit}
use Rattle.integers.proofs.Places.{by-test}
use Rattle.integers.proofs.Parts.{linear, parts}
use Rattle.assignment.proofs.Counts.{pigeonhole}
use Rattle.placing.specs.declared.offers.Offers.{Offers}
use Rattle.placing.specs.declared.paths.Paths.{Paths}
use Rattle.placing.specs.declared.seats.Seats.{Seats}
use Rattle.placing.specs.Words.{entry, All}
use Rattle.placing.specs.Paths.{may, unmet, far_of, Turn, Gone, Searched, Ended}
use Rattle.placing.proofs.Slots.{same_slot}
use Rattle.placing.proofs.Pathing.{count_all, way_small, node_few, nodes_once}

module _ {o : Offers} {s : Seats} {p : Paths} {root : ℕ} (t : Turn o s p.prices root) (v : Searched o s p root (p.step + 1)) where
  -- at the goal, to which no label that waits is nearer
  module _ (g : (k : ℕ) → bit p.waiting k ≡ true → p.bound ≤ℤ far_of p k) where
    open_far : (k : ℕ) → (Gone p k → ⊥) → far_of p k <ℤ unmet → p.bound ≤ℤ far_of p k
    open_far k d m = ⊎_elim (λ w. g k w) (λ c. ⊎_elim (λ y. absurd (d y)) (λ y. y) c) (v.met k m)

    pub ended : p.bound <ℤ unmet → Ended s p p.goal
    ended h = let e = v.bounded.goal in record {
      kind = v.bounded.kind;
      met = omega (linear, parts e);
      least = λ k d. by-test (lt_z (far_of p k) unmet)
          (λ z. let y = open_far k d (omega linear) in omega (linear, parts e))
          (λ z. omega (linear, parts e));
      bound = omega (linear, parts e);
    }

    -- with no way on
    module _ (h : unmet ≤ℤ p.bound) where
      exits : (i k : ℕ) → i ≤ p.step → may o (entry p.nodes i) k → Gone p k
      exits i k l a =
          let c = v.covered i k (omega arith) a in
          let b = way_small t (entry p.nodes i) k (v.base i) (let y = v.bases i l in omega (arith, v.few)) in
          let met : far_of p k <ℤ unmet = ⊎_elim (λ y. omega linear) (λ y. absurd (omega linear)) c in
          ⊎_elim (λ w. let y = g k w in absurd (omega linear)) (λ c. ⊎_elim (λ y. y) (λ y. absurd (omega linear)) c) (v.met k met)

      pub ended_none : (q : ℕ → ℕ) → All o.nodes.now.count o.nodes.now.sets o.nodes.now.own q → ⊥
      ended_none q m =
          let b = pigeonhole (λ i j. (i ≤ p.step) × (entry p.labels (suc j) ≡ q (entry p.nodes i)))
          (λ i j k x y.
          let z : q (entry p.nodes i) < 64 = (let (n, a, d, e) = exits i _ x.0 (m.allowed (entry p.nodes i) (node_few t v i x.0)) in let y = (v.steps n a d).small in omega arith) in
          nodes_once t v i j x.0 y.0 (m.distinct (entry p.nodes i) (entry p.nodes j) (node_few t v i x.0) (node_few t v j y.0) (same_slot (entry p.nodes i) (entry p.nodes j) z (sym x.1 ∙ y.1))))
          (suc p.step) p.step (λ _. true) (λ _. true)
          (λ i k _.
          let g : i ≤ p.step = omega arith in
          let (j, a, d, e) = exits i _ g (m.allowed (entry p.nodes i) (node_few t v i g)) in
          let z : suc (j - 1) ≡ j = omega arith in
          (j - 1, omega arith, refl, (g, ap (entry p.labels) z ∙ e))) in
          let e = count_all (suc p.step) in
          let e' = count_all p.step in
          omega arith
