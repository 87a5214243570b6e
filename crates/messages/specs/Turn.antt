-- What holds of the buffers between two records of a run.
use Rattle.std.specs.Prelude.{◌≡◌, ℕ, true, List}
use Rattle.instance.specs.Sheet.{instance_of, refusal_of}
use Rattle.rules.specs.Costs.{Buffers, in_range}
use Rattle.rules.specs.Held.{Sound}

-- a readable sheet, buffers of the right lengths with an incumbent that is none or a matching, and every cost within the limit
pub record Good (s : List ℕ) (limit : ℕ) (b : Buffers) : Type 0 where
  pub readable : refusal_of s ≡ 0
  pub sound : Sound (instance_of s) b
  pub ranged : in_range limit b ≡ true
