-- The smallest of those of which P holds: settled node by node.
-- Assumes nothing.
use mathlib.Core.Path.{◌≡◌, ◌∙◌}
use mathlib.Core.Bool.{not}
use mathlib.Core.Logic.{inl, inr, ⊎_elim}
use Prim.Native.Nat.{ℕ, ◌+◌, ◌<◌}
use native.Mathlib.Nat.{not-suc-le-zero}
use native.Mathlib.Omega.{arith}
use borrow.Author.Tests.{eqb-true, eqb-false, ltb-true, ltb-false, not-true, not-false}
use lib.Dec.{eqb, ltb}
use Rattle.integers.proofs.Places.{by-test}
use Rattle.assignment.specs.First.{Agree, First, None, Settled}
use Rattle.assignment.proofs.Counts.{by-same, find}

module _ (P : (ℕ → ℕ) → Type 0) where
  pub settled_none : (p : ℕ → ℕ) → Settled P p 0
  settled_none p w h = absurd (not-suc-le-zero h)

  -- one node more
  pub settled_more : {p q : ℕ → ℕ} {u : ℕ} → Settled P p u → Agree u p q → None P p u (q u) → Settled P q (u + 1)
  settled_more {p} {q} {u} s a n w h x px e l = by-same w u
      (λ z. n x px (λ i k. a i k ∙ e i (omega arith)) (let y : x u < q u = rw z at l in y))
      (λ z. s w (omega arith) x px (λ i k. a i (omega arith) ∙ e i k) (let b = a w (omega arith) in omega arith))

  -- the end
  pub settled_first : {n : ℕ} {p : ℕ → ℕ} → P p → Settled P p n → First P n p
  settled_first {n} {p} pp s = record {
    one = pp;
    first = λ q pq. ⊎_elim
        (λ (u, h, e, f). inl (let a : Agree u p q = (λ w k. eqb-true (p w) (q w) (not-false (eqb (p w) (q w)) (f w k))) in
        let d : p u ≡ q u → ⊥ = eqb-false (p u) (q u) (not-true (eqb (p u) (q u)) e) in
        (u, h, a, by-test (ltb (p u) (q u)) (λ t. ltb-true (p u) (q u) t) (λ t. let g = ltb-false (p u) (q u) t in absurd (s u h q pq a (omega arith))))))
        (λ f. inr (λ w k. eqb-true (p w) (q w) (not-false (eqb (p w) (q w)) (f w k))))
        (find n (λ w. not (eqb (p w) (q w))));
  }
