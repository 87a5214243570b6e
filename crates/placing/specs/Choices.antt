-- One of two numbers.
use Rattle.std.specs.Prelude.{◌≡◌, ◌⊎◌, ℤ, ◌≤ℤ◌}

-- z is the lesser of a and b
abbrev pub Lesser : ℤ → ℤ → ℤ → Type 0
Lesser a b z = (z ≤ℤ a) × (z ≤ℤ b) × ((z ≡ a) ⊎ (z ≡ b))

-- z is the greater of a and b
abbrev pub Greater : ℤ → ℤ → ℤ → Type 0
Greater a b z = (a ≤ℤ z) × (b ≤ℤ z) × ((z ≡ a) ⊎ (z ≡ b))
