-- The tight cells of one node, as a word and a flag.
use Rattle.std.specs.Prelude.{◌≡◌, Bool, true, cond, ◌&&◌, List, ◌⊎◌, ℕ, ◌^◌, ◌≤◌, ◌<◌, eqb, ltb, ℤ, ◌≤ℤ◌}
use Rattle.integers.specs.Words.{bit}
use Rattle.placing.specs.declared.tables.Row.{Row}
use Rattle.placing.specs.Words.{opens}
use Rattle.placing.specs.Priced.{net}

-- whether the label k is in the row: in its word, or it is 255 and the row has that
unfoldable pub in_row : Row → ℕ → Bool
in_row r k = cond (ltb k 64) (bit r.word k) (eqb k 255 && r.own)

-- r' has what r has, and the label l too; a label from 64 on is taken for 255
pub record Joins (r : Row) (l : ℕ) (r' : Row) : Type 0 where
  pub fit : r.word < 2 ^ 64 → r'.word < 2 ^ 64
  pub is : (k : ℕ) → in_row r' k ≡ true → (in_row r k ≡ true) ⊎ ((l < 64) × (k ≡ l)) ⊎ ((64 ≤ l) × (k ≡ 255))
  pub stays : (k : ℕ) → in_row r k ≡ true → in_row r' k ≡ true
  pub has : (l < 64) ⊎ (l ≡ 255) → in_row r' l ≡ true

-- the labels of node u at which it pays no more than at l
pub record RowTight (sets : List ℕ) (own : List Bool) (c : ℕ → ℕ → ℤ) (u l : ℕ) (prices : List ℤ) (r : Row) : Type 0 where
  pub fit : r.word < 2 ^ 64
  pub is : (k : ℕ) → in_row r k ≡ true → (opens sets own u k ≡ true) × (net c prices u k ≤ℤ net c prices u l)
  pub has : (k : ℕ) → opens sets own u k ≡ true → net c prices u k ≤ℤ net c prices u l → in_row r k ≡ true
