-- Each place's node and position, marked node by node.
-- Assumes nothing.
use mathlib.Core.Path.{◌≡◌, sym, ap, ◌∙◌}
use mathlib.Core.List.{List}
use Prim.Native.Nat.{ℕ, ◌+◌, ◌<◌}
use native.Mathlib.Omega.{arith}
use borrow.Author.Tests.{eqb-true, eqb-false}
use lib.Dec.{eqb}
use lib.ListN.{get_or, replicate, length-replicate}
use Rattle.integers.specs.Places.{offset}
use Rattle.integers.proofs.Places.{by-test}
use Rattle.integers.proofs.Totals.{offset_le}
use Rattle.schedule.specs.declared.labels.Spot.{Spot}
use Rattle.schedule.specs.Writing.{spot, Marked, Spots}

-- one node after another
pub spots_none : (degree : ℕ → ℕ) → Spots degree 0 (replicate 1024 (spot 0 0))
spots_none degree = record { size = length-replicate {A = Spot} 1024 (spot 0 0); at = λ u k h. absurd (omega arith) }

pub spots_more : {degree : ℕ → ℕ} {n at : ℕ} {before after : List Spot} → Spots degree n before → at ≡ offset degree n → Marked before at n (degree n) after → Spots degree (n + 1) after
spots_more {degree} {n} {at} {before} {after} x e m = record {
  size = m.size ∙ x.size;
  at = λ u k h b. by-test (eqb u n)
      (λ t. let q : u ≡ n = eqb-true u n t in own u k q b)
      (λ t. let d = eqb-false u n t in
      let c : u < n = omega arith in
      let o = offset_le degree u n c in m.ahead (offset degree u + k) (omega arith) ∙ x.at u k c b);
}
  where
    own : (u k : ℕ) → u ≡ n → k < degree u → get_or after (offset degree u + k) (spot 0 0) ≡ spot u k
    own u k q b =
        let c : offset degree u + k ≡ at + k = ap (λ (w : ℕ). offset degree w + k) q ∙ (let z : offset degree n + k ≡ at + k = omega arith in z) in
        let v : spot n k ≡ spot u k = ap (λ (m : ℕ). spot m k) (sym q) in
        ap (λ (p : ℕ). get_or after p (spot 0 0)) c ∙ m.here k (let w = ap degree q in omega arith) ∙ v
