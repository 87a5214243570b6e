-- What a sheet that was read says of itself: its counts, where its sections stand, and where each node's places and each edge's table begin.
use Rattle.std.specs.Prelude.{◌≡◌, ◌+◌, ℕ, List}
use Rattle.integers.specs.Rows.{part}
use Rattle.integers.specs.Checks.{padded}
use Rattle.instance.specs.Instance.{first, node_cells, table, edge_cells}
use Rattle.instance.specs.Sheet.{instance_of, node_prices_at, ends_at, edge_prices_at}

module _ (s : List ℕ) where
  -- "n, L, E, N, M"
  abbrev pub Counts : ℕ → ℕ → ℕ → ℕ → ℕ → Type 0
  Counts nodes labels edges positions cells =
      (nodes ≡ (instance_of s).node_count)
      × (labels ≡ (instance_of s).label_count)
      × (edges ≡ (instance_of s).edge_count)
      × (positions ≡ node_cells (instance_of s))
      × (cells ≡ edge_cells (instance_of s))

  abbrev pub Places : ℕ → ℕ → ℕ → Type 0
  Places prices ends edge_prices = (prices ≡ node_prices_at s) × (ends ≡ ends_at s) × (edge_prices ≡ edge_prices_at s)

  -- "where each node's cells and each edge's table begin, counted in cells"; "unused places are 0"
  abbrev pub starts_of : List ℕ
  starts_of = padded 64 (instance_of s).node_count (first (instance_of s))

  abbrev pub tables_of : List ℕ
  tables_of = padded 256 (instance_of s).edge_count (table (instance_of s))

  -- the labels of node u, a part of the sheet
  abbrev pub labels_of : ℕ → List ℕ
  labels_of u = part s ((instance_of s).node_count + first (instance_of s) u) ((instance_of s).degree u)
