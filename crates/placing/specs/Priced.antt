-- A placing of least cost, by prices of the labels: each node is where its cost and the label's price are least together, and only labels that are taken have a price.
use Rattle.std.specs.Prelude.{◌≡◌, Bool, true, List, ℕ, ◌+◌, ◌^◌, ◌≤◌, ◌<◌, length, get_or, ℤ, pos, ◌+ℤ◌, ◌≤ℤ◌, nat_abs}
use Rattle.integers.specs.Words.{bit}
use Rattle.instance.specs.Instance.{Instance, first}
use Rattle.placing.specs.Words.{entry, opens, rank}

-- what node u pays for its label l: the cost at the label's place
unfoldable pub cost_at : Instance → List ℕ → List ℤ → ℕ → ℕ → ℤ
cost_at I sets costs u l = get_or costs (first I u + rank (entry sets u) l) (pos 0)

-- the price of a label; 255 lies outside the table and has none
abbrev pub price : List ℤ → ℕ → ℤ
price prices l = get_or prices l (pos 0)

-- the two together
abbrev pub net : (ℕ → ℕ → ℤ) → List ℤ → ℕ → ℕ → ℤ
net c prices u l = c u l +ℤ price prices l

-- the nodes of D, each at a label `taken` that costs it least with the prices; a free label has none
pub record Priced (D : ℕ → Type 0) (sets : List ℕ) (own : List Bool) (c : ℕ → ℕ → ℤ) (taken : List ℕ) (free : ℕ) (prices : List ℤ) : Type 0 where
  pub size : length prices ≡ 64
  pub floor : (l : ℕ) → pos 0 ≤ℤ price prices l
  pub top : (l : ℕ) → nat_abs (price prices l) ≤ 2 ^ 50
  pub least : (u k : ℕ) → D u → opens sets own u k ≡ true → net c prices u (entry taken u) ≤ℤ net c prices u k
  pub idle : (l : ℕ) → l < 64 → bit free l ≡ true → price prices l ≡ pos 0

-- the cells at which a node pays no more than at its label: `sets'` and `own'` are those of `sets` and `own`
pub record Tight (n : ℕ) (sets : List ℕ) (own : List Bool) (c : ℕ → ℕ → ℤ) (taken : List ℕ) (prices : List ℤ) (sets' : List ℕ) (own' : List Bool) : Type 0 where
  pub is : (u k : ℕ) → u < n → opens sets' own' u k ≡ true → (opens sets own u k ≡ true) × (net c prices u k ≤ℤ net c prices u (entry taken u))
  pub has : (u k : ℕ) → u < n → opens sets own u k ≡ true → net c prices u k ≤ℤ net c prices u (entry taken u) → opens sets' own' u k ≡ true

-- the labels that have no price
pub record Unpriced (prices : List ℤ) (idle : ℕ) : Type 0 where
  pub is : (l : ℕ) → l < 64 → bit idle l ≡ true → price prices l ≡ pos 0
  pub has : (l : ℕ) → l < 64 → price prices l ≡ pos 0 → bit idle l ≡ true
