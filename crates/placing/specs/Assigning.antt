-- The matching with the least sum of node costs, as the code answers it (document 02, wish 6).
use Rattle.std.specs.Prelude.{◌≡◌, true, ℕ, ◌≤◌, ◌<◌, Option, None, Some, List, ℤ, pos, slice_index, slice_index_or}
use Rattle.std.proofs.Math.Option.{Option as Choice, none, some}
use Rattle.integers.specs.Words.{bit}
use Rattle.integers.specs.Places.{tabulate}
use Rattle.rules.specs.Costs.{Costs}
use Rattle.placing.specs.Words.{entry}

-- the costs of a lent node buffer
abbrev pub node_costs : List ℤ → Costs
node_costs costs = record { node = λ i. slice_index_or costs i (pos 0); label = λ i. pos 0; edge = λ j. pos 0 }

-- a position for each node and 0 in the unused places, or none
unfoldable pub rounded_by : Choice (List ℕ) → Option (List ℕ)
rounded_by none = None
rounded_by (some x) = Some (tabulate 64 (λ k. slice_index x k))

-- ---- private functions

-- nodes below n that may take the labels that they take, none twice; the rest take 255
pub record Seatable (n : ℕ) (sets taken : List ℕ) : Type 0 where
  pub few : n ≤ 64
  pub inside : (u : ℕ) → u < 64 → entry taken u < 64 → bit (entry sets u) (entry taken u) ≡ true
  pub once : (u w : ℕ) → u < 64 → w < 64 → entry taken u < 64 → entry taken u ≡ entry taken w → u ≡ w
  pub none : (u : ℕ) → u < 64 → 64 ≤ entry taken u → entry taken u ≡ 255
  pub later : (u : ℕ) → n ≤ u → u < 64 → entry taken u ≡ 255
