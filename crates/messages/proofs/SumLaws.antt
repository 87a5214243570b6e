-- Sums that a loop adds up: of one term for each part of a list, and of a table's entries.
-- Assumes nothing.
use Rattle.std.proofs.Common.{◌≡◌, ℕ, ◌+◌, ◌-◌, ◌*◌, ◌<◌, ◌≤◌, List, length, ℤ, pos, ◌+ℤ◌, nat_abs, sym, refl, ap, ◌∙◌, ap₂, add-mul, mul-le-mul, add-one, arith, w64, SFits}
use Rattle.integers.specs.Sum.{Within}
use Rattle.integers.specs.Rows.{part}
use Rattle.integers.specs.Places.{total, offset}
use Rattle.integers.proofs.Parts.{linear, add, abs}
use Rattle.integers.proofs.Sum.{abs_add}
use Rattle.integers.proofs.Rows.{length_part, within_part}
use Rattle.integers.proofs.Totals.{offset_le}
use Rattle.rules.specs.Calls.{cost_limit}

-- ---- a sum of f over the places below u, each term within k

pub record Added (k : ℕ) (f : ℕ → ℤ) (sum : ℤ) (u : ℕ) : Type 0 where
  pub is : sum ≡ total u f
  pub small : nat_abs sum ≤ u * k

pub added_none : (k : ℕ) (f : ℕ → ℤ) → Added k f (pos 0) 0
unfolding total
added_none k f = record { is = refl; small = omega arith }

module _ {k : ℕ} {f : ℕ → ℤ} {sum : ℤ} {u : ℕ} (a : Added k f sum u) (x : ℤ) (h : nat_abs x ≤ k) where
  pub added_fits : k ≤ cost_limit → u ≤ 1_024 → SFits w64 (sum +ℤ x)
  added_fits l g = omega (linear, add sum x, abs sum, abs x, a.small, mul-le-mul {n₁ = u} {m₁ = k} {n₂ = 1_024} {m₂ = cost_limit} g l)

  pub added_more : x ≡ f u → Added k f (sum +ℤ x) (u + 1)
  unfolding total
  added_more e = record { is = rw (add-one u) (ap₂ ◌+ℤ◌ a.is e); small = omega (arith, abs_add sum x, a.small, add-mul u 1 k) }

-- ---- one term for each part of a list, the parts being of the sizes z

-- parts that fill a list
pub record Parts (z : ℕ → ℕ) (l : List ℤ) (count : ℕ) : Type 0 where
  pub long : length l ≡ offset z count
  pub within : Within cost_limit l

-- the part u, which begins at `at`
module _ {z : ℕ → ℕ} {l : List ℤ} {count at size u : ℕ} (p : Parts z l count) (h : u < count) (a : at ≡ offset z u) (e : size ≡ z u) where
  pub part_inside : at + size ≤ length l
  part_inside = omega (arith, a, offset_le z u count h, p.long)

  pub part_is : part l at (at + size - at) ≡ part l (offset z u) (z u)
  part_is = let d : at + size - at ≡ z u = omega arith in ap₂ (λ (a n : ℕ). part l a n) a d

  pub part_length : length (part l at (at + size - at)) ≡ z u
  part_length = let d : at + size - at ≡ z u = omega arith in length_part l at (at + size - at) (omega (arith, part_inside)) ∙ d

  pub part_range : Within cost_limit (part l at (at + size - at))
  part_range = within_part cost_limit at (at + size - at) l p.within

-- all of them
pub added_all : {k : ℕ} {f : ℕ → ℤ} {sum : ℤ} {u count : ℕ} → Added k f sum u → u ≤ count → count ≤ u → (sum ≡ total count f) × (nat_abs sum ≤ count * k)
added_all {k} {f} {sum} {u} {count} a h g = let e : u ≡ count = omega arith in (a.is ∙ ap (λ (n : ℕ). total n f) e, rw (sym e) a.small)
