-- What one record leaves and answers.
use Rattle.std.specs.Prelude.{Result, Ok, Err, ℕ, ◌+◌, ◌*◌, List, slice_index}
use Rattle.rules.specs.Costs.{Buffers}
use Rattle.instance.specs.Instance.{Instance}
use Rattle.rules.specs.Run as runs
use Rattle.rules.specs.Run.{Outcome, refused, done, kind_of, effect}

pub record Settled : Type 0 where
  pub buffers : Buffers
  -- 1 for a rounding that is stuck
  pub stuck : ℕ
  pub refusal : ℕ

abbrev pub settle : Buffers → ℕ → ℕ → Settled
settle b stuck refusal = record { buffers = b; stuck = stuck; refusal = refusal }

-- a refused record leaves the buffers b as they were
abbrev pub settled : Buffers → Outcome → Settled
settled b (refused number) = settle b 0 number
settled b (done b' s) = settle b' s 0

-- how many roundings were stuck, by what the code answers
abbrev pub stuck_in : {E : Type 0} → Result ℕ E → ℕ
stuck_in (Ok n) = n
stuck_in (Err e) = 0

-- what a record of some kind leaves and answers by the rules
abbrev pub settled_as : Instance → ℕ → Buffers → runs.Kind → ℕ → ℕ → ℕ → Settled
settled_as I limit b kind u k r = settled b (effect I limit b kind u k r)

-- the same of the record in five bytes
abbrev pub settled_by : Instance → ℕ → Buffers → List ℕ → Settled
settled_by I limit b l = settled_as I limit b (kind_of (slice_index l 0)) (slice_index l 1) (slice_index l 2 + 256 * slice_index l 3) (slice_index l 4)
