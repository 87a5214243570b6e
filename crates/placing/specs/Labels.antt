-- The labels of a node as they stand in a sheet, and their word.
use Rattle.std.specs.Prelude.{◌≡◌, Bool, cond, ◌⊎◌, ℕ, suc, ◌-◌, ◌≤◌, ◌<◌, eqb}
use Rattle.integers.specs.Words.{word_of}

-- d labels, at least one: they rise, and lie below 64 but for the last, which may be 255
pub record Labels (f : ℕ → ℕ) (d : ℕ) : Type 0 where
  pub some : 1 ≤ d
  pub known : (k : ℕ) → k < d → (f k < 64) ⊎ ((f k ≡ 255) × (suc k ≡ d))
  pub rising : (k : ℕ) → suc k < d → f k < f (suc k)

-- whether 255 is among them, and the word of the others
pub record Worded (f : ℕ → ℕ) (d word : ℕ) (own : Bool) : Type 0 where
  pub last : own ≡ eqb (f (d - 1)) 255
  pub others : word ≡ word_of f (d - cond own 1 0)
