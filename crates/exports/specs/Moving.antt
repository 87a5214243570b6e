-- The answers of a run and of a report as numbers.
use Rattle.std.specs.Prelude.{cond, List, [], ◌∷◌, ℕ, eqb, length, ℤ, pos}
use Rattle.instance.specs.Sheet.{refusal_of}
use Rattle.rules.specs.Costs.{Buffers}
use Rattle.rules.specs.Run.{Ran}
use Rattle.rules.specs.Calls.{Report, refused, bound, kept, cost_limit, run_of, report_of}
use Rattle.exports.specs.Stored.{Answered, answered, unlent, answered_in}

-- ---- a run: the four buffers, the refusal, and the counts

pub record Outcome : Type 0 where
  pub buffers : Buffers
  pub refusal : ℕ
  pub counts : List ℕ

abbrev pub outcome : Buffers → ℕ → List ℕ → Outcome
outcome b refusal counts = record { buffers = b; refusal = refusal; counts = counts }

-- "the records done, the roundings stuck and, if it stopped, the refusal"
unfoldable pub outcome_of : Ran → Outcome
outcome_of q = outcome q.buffers q.refusal (q.finished ∷ q.stuck ∷ [])

-- with another number of places for the counts nothing is run
unfoldable pub ran_in : List ℕ → Buffers → List ℕ → List ℕ → Outcome
ran_in s b l counts = cond (eqb (length counts) 2) (outcome_of (run_of s cost_limit b l)) (outcome b (unlent (refusal_of s)) counts)

-- ---- a report: its number, and four values: 1 if one is kept, the bound, the cost, the gap

unfoldable pub number_of : Report → ℕ
number_of (refused k) = k
number_of (bound z) = 0
number_of (kept z p g) = 0

-- a refused report leaves them as they were
unfoldable pub values_in : List ℤ → Report → List ℤ
values_in values (refused k) = values
values_in values (bound z) = pos 0 ∷ z ∷ pos 0 ∷ pos 0 ∷ []
values_in values (kept z p g) = pos 1 ∷ z ∷ p ∷ g ∷ []

unfoldable pub reported_in : List ℕ → Buffers → List ℤ → Answered ℤ
reported_in s b values = let q = report_of s cost_limit b in answered_in 4 (refusal_of s) (answered (number_of q) (values_in values q)) values
