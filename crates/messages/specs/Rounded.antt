-- What rounding's code answers and asks: keys as an array, and the choice as a number.
use Rattle.std.specs.Prelude.{ℕ, ◌+◌, ◌*◌, ◌<◌, Bool, false, cond, Option, None, Some, List, [], ◌∷◌, get_or, ℤ, pos, ◌+ℤ◌, int_lt, nat_lt, slice_index, slice_index_or}
use Rattle.std.proofs.Math.Option.{Option as Choice, none, some}
use Rattle.integers.specs.Rows.{part}
use Rattle.integers.specs.Places.{range, select, tabulate, only}
use Rattle.instance.specs.Instance.{Instance, table}
use Rattle.instance.specs.Sheet.{instance_of}
use Rattle.rules.specs.Costs.{Costs, position}
use Rattle.rules.specs.Rounding.{best, key}
use Rattle.index.specs.Index.{Indexed}

-- the costs of lent node and edge buffers
abbrev pub costs_by : List ℤ → List ℤ → Costs
costs_by nodes edges = record {
  node = λ i. slice_index_or nodes i (pos 0);
  label = λ i. pos 0;
  edge = λ j. slice_index_or edges j (pos 0);
}

-- ---- the keys

-- a row added to keys, place by place
unfoldable pub added : List ℤ → List ℤ → List ℤ
added [] row = []
added (x ∷ keys) [] = x ∷ keys
added (x ∷ keys) (y ∷ row) = (x +ℤ y) ∷ added keys row

-- the keys of all positions of u by the rule, and 0 in the rest of 16 places
unfoldable pub keys_at : Instance → Costs → List ℕ → ℕ → List ℤ
keys_at I c x u = tabulate 16 (λ k. only (nat_lt k (I.degree u)) (key I c x u k))

-- the row of edge e that the position of its lower end picks
abbrev pub edge_row : Instance → List ℤ → List ℕ → ℕ → List ℤ
edge_row I edges x e = part edges (table I e + I.degree (I.high e) * position x (I.low e)) (I.degree (I.high e))

-- ---- the choice

-- the rules' choice as the code answers it
unfoldable pub or_none : Choice ℕ → Option ℕ
or_none none = None
or_none (some k) = Some k

-- the best so far, if there is one, against a position k
unfoldable pub better : Bool → (ℕ → ℤ) → Option ℕ → ℕ → Option ℕ
better free key None k = cond free (Some k) None
better free key (Some b) k = cond free (cond (int_lt (key k) (key b)) (Some k) (Some b)) (Some b)

-- of the first positions, those whose labels are untaken; the node's places begin at `at`
unfoldable pub chosen_from : Instance → ℕ → List ℤ → List Bool → ℕ → Option ℕ
chosen_from I at keys untaken degree = or_none (best (λ k. get_or keys k (pos 0)) (select (λ k. get_or untaken (I.label (at + k)) false) (range 0 degree)))

-- ---- what is asked

-- each node below u has one of its positions
abbrev pub Placed : Instance → List ℕ → ℕ → Type 0
Placed I x u = (w : ℕ) → w < u → slice_index x w < I.degree w

-- the index of the edges by their higher ends
abbrev pub Lowers : List ℕ → List ℕ → Type 0
Lowers s lowers = Indexed (instance_of s).high (instance_of s).edge_count lowers
