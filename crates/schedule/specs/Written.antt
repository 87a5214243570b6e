-- What writing a sweep answers, and what the lent buffer then holds.
use Rattle.std.specs.Prelude.{Bool, cond, List, [], ◌∷◌, ◌++◌, ℕ, eqb, length}
use Rattle.integers.specs.Checks.{first_failure}
use Rattle.instance.specs.Sheet.{instance_of, checks, refusal_of}
use Rattle.schedule.specs.Sweep.{bytes, sweep, known, sweep_length}

pub record Written : Type 0 where
  pub content : List ℕ
  pub refusal : ℕ

abbrev pub written : List ℕ → ℕ → Written
written content refusal = record { content = content; refusal = refusal }

-- how many bytes to lend for a sweep: none for a sheet that is refused
unfoldable pub sweep_room : List ℕ → ℕ
sweep_room s = cond (eqb (refusal_of s) 0) (sweep_length (instance_of s)) 0

module _ (s : List ℕ) (direction : ℕ) where
  -- "1 to 7 as listed for the sheet; direction (12) for a sweep; 8"; 15 is one of the sheet's (document 02, wish 2)
  unfoldable pub own_checks : List ℕ → List (Bool × ℕ)
  own_checks out = (known direction, 12) ∷ (eqb (length out) (sweep_length (instance_of s)), 8) ∷ []

  unfoldable pub sweep_refusal : List ℕ → ℕ
  sweep_refusal out = first_failure (checks s ++ own_checks out)

  -- "a refusal answers its number", and alters nothing
  unfoldable pub sweep_of : List ℕ → Written
  sweep_of out = let k = sweep_refusal out in written (cond (eqb k 0) (bytes (sweep (instance_of s) direction)) out) k
