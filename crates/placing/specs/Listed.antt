-- Each label of a node stands in the sheet at its rank.
use Rattle.std.specs.Prelude.{◌≡◌, Bool, true, List, ℕ, ◌+◌, ◌<◌}
use Rattle.instance.specs.Instance.{Instance, first}
use Rattle.placing.specs.Words.{entry, opens, rank}

-- the words of the nodes below n, and whether they have 255
pub record Listed (I : Instance) (n : ℕ) (sets : List ℕ) (own : List Bool) : Type 0 where
  pub has : (u k : ℕ) → u < n → k < I.degree u → opens sets own u (I.label (first I u + k)) ≡ true
  pub ranks : (u k : ℕ) → u < n → k < I.degree u → rank (entry sets u) (I.label (first I u + k)) ≡ k
  pub stands : (u l : ℕ) → u < n → opens sets own u l ≡ true → (rank (entry sets u) l < I.degree u) × (I.label (first I u + rank (entry sets u) l) ≡ l)
