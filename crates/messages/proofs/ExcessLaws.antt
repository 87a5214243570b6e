-- One test for many costs: each gives a number that reaches the half of the width exactly if the cost passes the limit, and these are joined by their bits.
-- Assumes nothing.
use Rattle.std.proofs.Common.{◌≡◌, ℕ, ◌+◌, ◌-◌, ◌*◌, ◌%◌, ◌^◌, ◌<◌, ◌≤◌, Bool, true, ◌&&◌, ltb, List, length, get_or, ℤ, pos, negsuc, ◌+ℤ◌, nat_abs, sym, refl, ap, ◌∙◌, ap₂, add-one, arith, w64, SFits, of_z, below_more, ltb-true, lt-ltb}
use lib.Bits.{bit_or, or_lt, or_add_and, and_le_l, and_le_r}
use Rattle.integers.specs.Sum.{Within}
use Rattle.integers.specs.Places.{every}
use Rattle.integers.specs.Checks.{below, within}
use Rattle.integers.proofs.Parts.{linear}
use Rattle.integers.proofs.Sum.{abs_add}
use Rattle.integers.proofs.Places.{both_ways, and_true, and_both, every-tabulate}
use Rattle.integers.proofs.Ranges.{shifted}
use Rattle.integers.proofs.Checks.{within_le, le_within}
use Rattle.rules.specs.Calls.{cost_limit}
use Rattle.messages.proofs.OverLaws.{every_made}

-- ---- the test

-- two joined are no less than each, and below the half exactly if both are
or_le : (a b : ℕ) → (a ≤ bit_or a b) × (b ≤ bit_or a b)
or_le a b = omega (arith, or_add_and a b, and_le_l a b, and_le_r a b)

joined : (a b : ℕ) → ltb (bit_or a b) (2 ^ 63) ≡ (ltb a (2 ^ 63) && ltb b (2 ^ 63))
joined a b =
    both_ways (ltb (bit_or a b) (2 ^ 63)) (ltb a (2 ^ 63) && ltb b (2 ^ 63))
    (λ e. let h = ltb-true (bit_or a b) (2 ^ 63) e in and_both (lt-ltb a (2 ^ 63) (omega (arith, or_le a b))) (lt-ltb b (2 ^ 63) (omega (arith, or_le a b))))
    (λ e. let (p, q) = and_true (ltb a (2 ^ 63)) (ltb b (2 ^ 63)) e in
    lt-ltb (bit_or a b) (2 ^ 63) (or_lt 63 a b (ltb-true a (2 ^ 63) p) (ltb-true b (2 ^ 63) q)))

-- the two sums that wrap: the one is past the half below the range, the other above it
module _ {limit : ℕ} (m : limit ≤ cost_limit) where
  abbrev up : ℤ → ℕ
  up z = (of_z w64 z + limit) % 2 ^ 64

  abbrev down : ℤ → ℕ
  down z = (limit + (2 ^ 64 - of_z w64 z)) % 2 ^ 64

  sums_low : (z : ℤ) → SFits w64 z → nat_abs z ≤ limit → (up z < 2 ^ 63) × (down z < 2 ^ 63)
  sums_low (pos n) f k = (omega linear, omega linear)
  sums_low (negsuc n) f k = (omega linear, omega linear)

  sums_high : (z : ℤ) → SFits w64 z → up z < 2 ^ 63 → down z < 2 ^ 63 → nat_abs z ≤ limit
  sums_high (pos n) f j k = omega linear
  sums_high (negsuc n) f j k = omega linear

  pub apart_limit : (z : ℤ) → SFits w64 z → ltb (bit_or (up z) (down z)) (2 ^ 63) ≡ within limit z
  apart_limit z f =
      both_ways (ltb (bit_or (up z) (down z)) (2 ^ 63)) (within limit z)
      (λ t. let j = ltb-true (bit_or (up z) (down z)) (2 ^ 63) t in le_within limit z (sums_high z f (omega (arith, or_le (up z) (down z))) (omega (arith, or_le (up z) (down z)))))
      (λ t. let (j, k) = sums_low z f (within_le limit z t) in lt-ltb (bit_or (up z) (down z)) (2 ^ 63) (or_lt 63 (up z) (down z) j k))

-- ---- a loop that joins what each place gives

pub record Joining (t : ℕ → Bool) (n i w : ℕ) : Type 0 where
  pub inside : i ≤ n
  pub told : ltb w (2 ^ 63) ≡ below i t

pub joining_none : (t : ℕ → Bool) (n : ℕ) → Joining t n 0 0
unfolding below
joining_none t n = record { inside = omega arith; told = refl }

pub joining_more : {t : ℕ → Bool} {n i w : ℕ} (v : ℕ) → Joining t n i w → i < n → ltb v (2 ^ 63) ≡ t i → Joining t n (i + 1) (bit_or w v)
unfolding below
joining_more {t} {n} {i} {w} v j h e =
    record { inside = omega arith; told = joined w v ∙ ap₂ ◌&&◌ j.told e ∙ ap (λ (k : ℕ). below k t) (sym (add-one i)) }

pub joining_all : {t : ℕ → Bool} {n i w : ℕ} → Joining t n i w → n ≤ i → ltb w (2 ^ 63) ≡ below n t
joining_all {t} {n} {i} {w} j h = let e : i ≡ n = omega arith in j.told ∙ ap (λ (k : ℕ). below k t) e

-- of costs that each receive something
pub joining_shifted : (limit : ℕ) (f : ℕ → ℤ) (l : List ℤ) {i w : ℕ} → Joining (λ j. within limit (get_or l j (pos 0) +ℤ f j)) (length l) i w → length l ≤ i
    → ltb w (2 ^ 63) ≡ every (within limit) (shifted f l)
joining_shifted limit f l j h = joining_all j h ∙ sym (every_made (within limit) (length l) (λ j. get_or l j (pos 0) +ℤ f j))

-- ---- the quick test: costs within half the limit

pub half_way : (z : ℤ) → SFits w64 z → {half : ℕ} → half ≤ cost_limit → (x : ℕ) → x ≡ (of_z w64 z + half) % 2 ^ 64 → x < 2 * half → nat_abs z ≤ half
half_way (pos n) f m x e h = omega linear
half_way (negsuc n) f m x e h = omega linear

pub record Halving (half : ℕ) (l : List ℤ) (i w : ℕ) : Type 0 where
  pub inside : i ≤ length l
  pub told : w < 2 * half → (j : ℕ) → j < i → nat_abs (get_or l j (pos 0)) ≤ half

pub halving_more : {half : ℕ} {l : List ℤ} {i w : ℕ} (v : ℕ) → Halving half l i w → i < length l → (v < 2 * half → nat_abs (get_or l i (pos 0)) ≤ half)
    → Halving half l (i + 1) (bit_or w v)
halving_more {half} {l} {i} {w} v r h e =
    record {
      inside = omega arith;
      told = λ g. below_more (λ j. nat_abs (get_or l j (pos 0)) ≤ half) i (r.told (omega (arith, or_le w v))) (e (omega (arith, or_le w v)));
    }

-- two halves add up to no more than the limit
pub halves_fit : {half limit : ℕ} → 2 * half ≤ limit → (f : ℕ → ℤ) (l : List ℤ) → Within half l → ((k : ℕ) → k < length l → nat_abs (f k) ≤ half) → every (within limit) (shifted f l) ≡ true
halves_fit {half} {limit} m f l h g =
    every-tabulate (within limit) (length l) (λ i. get_or l i (pos 0) +ℤ f i)
    (λ i k. le_within limit (get_or l i (pos 0) +ℤ f i) (omega (arith, abs_add (get_or l i (pos 0)) (f i), h i, g i k)))
