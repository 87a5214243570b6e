-- Kinds 1 and 2 whole: what goes between the costs of one node and one edge's table, whether all stay within the limit, and both lists afterwards. Document 01, kinds 1 and 2.
use Rattle.std.specs.Prelude.{◌≡◌, ℕ, ◌+◌, ◌<◌, ◌≤◌, Bool, cond, ◌&&◌, ◌⊎◌, List, ◌++◌, map, length, get_or, take, drop, ℤ, pos, ◌-ℤ◌, neg_ℤ, slice_index_or}
use Rattle.integers.specs.Least.{least_of}
use Rattle.integers.specs.Share.{share, excess}
use Rattle.integers.specs.Sum.{Within}
use Rattle.integers.specs.Places.{every}
use Rattle.integers.specs.Checks.{within}
use Rattle.integers.specs.Rows.{part}
use Rattle.integers.proofs.Ranges.{shifted}
use Rattle.instance.specs.Instance.{Instance, first, table_size, table}
use Rattle.instance.specs.Sheet.{instance_of}
use Rattle.rules.specs.Places.{end_place, end_places, node_places, usable_places}
use Rattle.rules.specs.Calls.{cost_limit}
use Rattle.messages.specs.Lent.{NodeFits, EdgeFits}
use Rattle.messages.specs.EdgeMessage.{node_amounts, edge_amounts, moved_row, moved_cells, Ends}

-- node costs and edge costs that a move leaves, with its refusal: 0, or 13 where a cost would pass the limit and nothing is written
pub record EdgeMove : Type 0 where
  pub refusal : ℕ
  pub nodes : List ℤ
  pub edges : List ℤ

abbrev pub edge_move : ℕ → List ℤ → List ℤ → EdgeMove
edge_move refusal nodes edges = record { refusal = refusal; nodes = nodes; edges = edges }

module _ (I : Instance) (nodes edges : List ℤ) where
  -- the amount that goes from the node cost at the place i to the cells with u there: kind 1, or turned round, kind 2
  unfoldable pub edge_amount : Bool → ℕ → ℕ → ℕ → ℕ → ℤ
  edge_amount turned u e r i =
      cond turned
      (neg_ℤ (excess (map (λ j. get_or edges j (pos 0)) (end_places I e u i)) (least_of (map (λ j. get_or edges j (pos 0)) (usable_places I e))) r))
      (share (slice_index_or nodes i (pos 0) -ℤ least_of (map (λ j. get_or nodes j (pos 0)) (node_places I u))) r)

  -- the costs of node u once p of each place is given away, and the cells of edge e once each has received it
  abbrev pub given_row : ℕ → (ℕ → ℤ) → List ℤ
  given_row u p = shifted (λ k. neg_ℤ (p (first I u + k))) (part nodes (first I u) (I.degree u))

  abbrev pub given_cells : ℕ → ℕ → (ℕ → ℤ) → List ℤ
  given_cells u e p = shifted (λ j. p (end_place I e u (table I e + j))) (part edges (table I e) (table_size I e))

  -- p goes from each node cost of u, at the place i, to every cell of edge e with u there, where all that is touched stays within the limit
  unfoldable pub moved_by : ℕ → ℕ → ℕ → (ℕ → ℤ) → EdgeMove
  moved_by limit u e p =
      cond (every (within limit) (given_row u p) && every (within limit) (given_cells u e p))
      (edge_move 0
      (take (first I u) nodes ++ (given_row u p ++ drop (first I u + I.degree u) nodes))
      (take (table I e) edges ++ (given_cells u e p ++ drop (table I e + table_size I e) edges)))
      (edge_move 13 nodes edges)

  -- what a record of kind 1, or turned round of kind 2, leaves
  unfoldable pub edge_moved : ℕ → Bool → ℕ → ℕ → ℕ → EdgeMove
  edge_moved limit turned u e r = moved_by limit u e (edge_amount turned u e r)

-- the costs of nodes and of edges, or of a part of each, are within the limit of the call
pub record CostsWithin (limit : ℕ) (nodes edges : List ℤ) : Type 0 where
  pub of_nodes : Within limit nodes
  pub of_edges : Within limit edges

-- a record that names what exists, and lent costs that fit and are within the limit: u is an end of edge e
pub record EdgeLegal (limit : ℕ) (s : List ℕ) (nodes edges : List ℤ) (u e r : ℕ) : Type 0 where
  pub node_costs : NodeFits s nodes
  pub edge_costs : EdgeFits s edges
  pub ranged : CostsWithin limit nodes edges
  pub node : u < (instance_of s).node_count
  pub edge : e < (instance_of s).edge_count
  pub touches : (u ≡ (instance_of s).low e) ⊎ (u ≡ (instance_of s).high e)
  pub shares : 1 ≤ r

-- ---- the same of the node's row and the edge's table alone, the amounts by position in a list

-- a row and a table with the labels of its ends, of the right sizes, of costs that fit
pub record Joined (row cells : List ℤ) (by_row : Bool) (own other : List ℕ) : Type 0 where
  pub some : 0 < length row
  pub few : length row ≤ 16
  pub ends : Ends by_row own other cells
  pub row_range : Within cost_limit row
  pub cell_range : Within cost_limit cells

-- what each position gives to the cells
abbrev pub amounts_of : Bool → Bool → List ℕ → List ℕ → List ℤ → List ℤ → ℕ → List ℤ
amounts_of turned by_row own other row cells r = cond turned (edge_amounts by_row own other cells r) (node_amounts row r)

-- whether all stay within the limit
abbrev pub fit_parts : ℕ → List ℤ → Bool → ℕ → List ℤ → List ℤ → Bool
fit_parts limit amounts by_row width row cells = every (within limit) (moved_row amounts row) && every (within limit) (moved_cells by_row width amounts cells)

-- both afterwards
unfoldable pub parts_moved : ℕ → List ℤ → List ℤ → List ℤ → Bool → ℕ → EdgeMove
parts_moved limit amounts row cells by_row width =
    cond (fit_parts limit amounts by_row width row cells)
    (edge_move 0 (moved_row amounts row) (moved_cells by_row width amounts cells))
    (edge_move 13 row cells)
