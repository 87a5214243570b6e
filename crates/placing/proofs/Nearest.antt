-- The label that waits with the least way: one label after another.
-- Assumes nothing.
use mathlib.Core.Path.{◌≡◌, refl, sym, ap, ◌∙◌, subst}
use mathlib.Core.Bool.{true}
use mathlib.Core.Logic.{◌⊎◌, inl, inr, ⊎_elim}
use Prim.Native.Nat.{ℕ, ◌-◌, ◌^◌, ◌<◌}
use native.Mathlib.Omega.{arith}
use lib.Bits.{bit_and, and_le_l}
use lib.Count.{count_trailing_zeros}
use lib.IntN.{ℤ}
use lib.Signed.{◌≤ℤ◌, ◌<ℤ◌}
use Rattle.integers.specs.Words.{bit}
use Rattle.integers.proofs.Words.{lowest, lowest_off, bit_small, some_bit}
use Rattle.integers.proofs.Order.{le_refl, le_trans}
use Rattle.integers.proofs.Parts.{linear, parts}
use Rattle.assignment.proofs.Counts.{differ, by-same}
use Rattle.placing.specs.declared.paths.Paths.{Paths}
use Rattle.placing.specs.Paths.{far_of, Chosen}

-- `best` waits and is `far` off, less than the bound, or is 64; none of the labels that wait is nearer but for those of `rest`, which wait too
pub record Choosing (p : Paths) (best : ℕ) (far : ℤ) (rest : ℕ) : Type 0 where
  pub fit : rest < 2 ^ 64
  pub is : ((best ≡ 64) × (far ≡ p.bound)) ⊎ ((bit p.waiting best ≡ true) × (far_of p best ≡ far) × (far <ℤ p.bound))
  pub among : (x : ℕ) → bit rest x ≡ true → bit p.waiting x ≡ true
  pub least : (x : ℕ) → bit p.waiting x ≡ true → (bit rest x ≡ true) ⊎ (far ≤ℤ far_of p x)

-- a word but for its lowest label
abbrev pub less : ℕ → ℕ
less w = bit_and w (w - 1)

pub choosing_none : (p : Paths) → p.waiting < 2 ^ 64 → Choosing p 64 p.bound p.waiting
choosing_none p fit = record { fit = fit; is = inl (refl, refl); among = λ x y. y; least = λ x y. inl y }

module _ {p : Paths} {best : ℕ} {least : ℤ} {rest : ℕ} (v : Choosing p best least rest) where
  -- of the best and the lowest of the rest the nearer
  module _ (z : rest ≡ 0 → ⊥) {l : ℕ} (e : l ≡ count_trailing_zeros 64 rest) where
    pub low_waits : bit p.waiting l ≡ true
    low_waits = let (_, y, _) = lowest rest v.fit z in v.among l (ap (bit rest) e ∙ y)

    choosing_more : {b : ℕ} {m : ℤ} → ((b ≡ 64) × (m ≡ p.bound)) ⊎ ((bit p.waiting b ≡ true) × (far_of p b ≡ m) × (m <ℤ p.bound)) → m ≤ℤ least → m ≤ℤ far_of p l → Choosing p b m (less rest)
    choosing_more {b} {m} s g h =
        let (o, k) = lowest_off rest v.fit z in
        record {
          fit = let f = v.fit in omega (arith, and_le_l rest (rest - 1));
          is = s;
          among = λ x w. by-same x (count_trailing_zeros 64 rest) (λ q. absurd (differ w (ap (bit (less rest)) q ∙ o))) (λ d. v.among x (sym (k x d) ∙ w));
          least = λ x w. by-same x (count_trailing_zeros 64 rest)
              (λ q. inr (subst (λ i. m ≤ℤ far_of p i) (e ∙ sym q) h))
              (λ d. ⊎_elim (λ q. inl (k x d ∙ q)) (λ q. inr (le_trans g q)) (v.least x w));
        }

    pub choosing_low : far_of p l <ℤ least → Choosing p l (far_of p l) (less rest)
    choosing_low h = choosing_more (inr (low_waits, refl, ⊎_elim (λ (_, q). omega (linear, parts q)) (λ (_, _, q). omega linear) v.is)) (omega linear) (le_refl (far_of p l))

    pub choosing_same : least ≤ℤ far_of p l → Choosing p best least (less rest)
    choosing_same h = choosing_more v.is (le_refl least) h

  pub choosing_done : p.waiting < 2 ^ 64 → rest ≡ 0 → Chosen p best
  choosing_done fit z = ⊎_elim
      (λ (e, q). inl (e, λ k w. let y = none k w in omega (linear, parts q)))
      (λ (b, q, h). inr (record { small = bit_small p.waiting best fit b; waits = b; least = λ k w. let y = none k w in omega (linear, parts q) }, omega (linear, parts q)))
      v.is
    where
      none : (x : ℕ) → bit p.waiting x ≡ true → least ≤ℤ far_of p x
      none x w = ⊎_elim (λ q. absurd (some_bit rest x q z)) (λ q. q) (v.least x w)
