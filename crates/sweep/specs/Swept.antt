-- The sweep of a sheet in the direction that an argument names, or its refusal.
use Rattle.std.specs.Prelude.{cond, ◌≡◌, List, [], ◌∷◌, ◌++◌, ℕ, ◌≤◌, eqb, length, get_or, take}
use Rattle.integers.specs.Checks.{first_failure}
use Rattle.instance.specs.Sheet.{instance_of, checks}
use Rattle.schedule.specs.Sweep.{bytes, sweep, known}

-- the texts "0" and "1"; any other, none too, is 2, which is no direction
unfoldable pub direction_of : List ℕ → ℕ
direction_of text = cond (eqb (length text) 1) (cond (eqb (get_or text 0 0) 48) 0 (cond (eqb (get_or text 0 0) 49) 1 2)) 2

-- "1 to 7 as listed for the sheet; direction (12) for a sweep"
unfoldable pub refusal_for : List ℕ → ℕ → ℕ
refusal_for s direction = first_failure (checks s ++ ((known direction, 12) ∷ []))

-- the list of records; nothing when refused
unfoldable pub sweep_bytes : List ℕ → ℕ → List ℕ
sweep_bytes s direction = cond (eqb (refusal_for s direction) 0) (bytes (sweep (instance_of s) direction)) []

-- what is answered, and what stands at the start of the buffer
pub record Sweeps (s : List ℕ) (direction : ℕ) (out : List ℕ) (refusal count : ℕ) : Type 0 where
  pub number : refusal ≡ refusal_for s direction
  pub text : take count out ≡ sweep_bytes s direction
  pub room : count ≤ length out
