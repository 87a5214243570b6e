-- Kinds 3 and 4: one amount between the node cost and the label cost of one place.
use Rattle.std.specs.Prelude.{◌≡◌, ℕ, ◌+◌, ◌<◌, ◌≤◌, Bool, true, cond, ◌&&◌, List, ◌∷◌, map, get_or, ℤ, pos, ◌+ℤ◌, neg_ℤ, slice_index_or}
use Rattle.integers.specs.Least.{least_from}
use Rattle.integers.specs.Share.{amount}
use Rattle.integers.specs.Rows.{add_at}
use Rattle.integers.specs.Places.{others}
use Rattle.integers.specs.Checks.{within}
use Rattle.instance.specs.Instance.{Instance, exclusive, first, node_cells}
use Rattle.instance.specs.Sheet.{instance_of}
use Rattle.rules.specs.Places.{node_places, label_places}
use Rattle.index.specs.Index.{Indexed}
use Rattle.messages.specs.declared.records.Flow.{Flow}
use Rattle.messages.specs.declared.records.Flow.TheVariants.{FromNode, ToNode}

-- node and label costs that a move leaves, with its refusal: 0, or 13 where a cost would pass the limit and nothing is written
pub record Moved : Type 0 where
  pub refusal : ℕ
  pub nodes : List ℤ
  pub labels : List ℤ

abbrev pub label_move : ℕ → List ℤ → List ℤ → Moved
label_move refusal nodes labels = record { refusal = refusal; nodes = nodes; labels = labels }

-- p goes from the node cost to the label cost at the place i
unfoldable pub label_moved : ℕ → List ℤ → List ℤ → ℕ → ℤ → Moved
label_moved limit nodes labels i p =
    cond (within limit (slice_index_or nodes i (pos 0) +ℤ neg_ℤ p) && within limit (slice_index_or labels i (pos 0) +ℤ p))
    (label_move 0 (add_at nodes i (neg_ℤ p)) (add_at labels i p))
    (label_move 13 nodes labels)

-- the least of 0 and the label's other costs
abbrev pub label_rival : Instance → List ℤ → ℕ → ℤ
label_rival I labels i = least_from (pos 0) (map (λ j. get_or labels j (pos 0)) (others i (label_places I (I.label i))))

-- the index of the places by their labels
abbrev pub Holders : List ℕ → List ℕ → Type 0
Holders s holders = Indexed (instance_of s).label (node_cells (instance_of s)) holders

-- what the node cost at the place i gives against the node's others, and the label cost there against 0 and the label's others
abbrev pub node_amount : Instance → List ℤ → ℕ → ℕ → ℕ → ℤ
node_amount I nodes u i r = amount (slice_index_or nodes i (pos 0)) (map (λ j. get_or nodes j (pos 0)) (others i (node_places I u))) r

abbrev pub label_amount : Instance → List ℤ → ℕ → ℕ → ℤ
label_amount I labels i r = amount (slice_index_or labels i (pos 0)) (pos 0 ∷ map (λ j. get_or labels j (pos 0)) (others i (label_places I (I.label i)))) r

-- what goes from the node cost to the label cost there: kind 3, or turned round kind 4
abbrev pub label_given : Instance → List ℤ → List ℤ → Bool → ℕ → ℕ → ℕ → ℤ
label_given I nodes labels turned u i r = cond turned (neg_ℤ (label_amount I labels i r)) (node_amount I nodes u i r)

-- a node, one of its positions, whose label is not 255, and a share
pub record PlaceAsked (I : Instance) (u k share : ℕ) : Type 0 where
  pub node : u < I.node_count
  pub position : k < I.degree u
  pub exclusive : exclusive (I.label (first I u + k)) ≡ true
  pub some : 1 ≤ share

-- a node, or a label that an index has a row for: what the costs of a message belong to
abbrev pub Asked : Instance → Flow → ℕ → Type 0
Asked I FromNode u = u < I.node_count
Asked I ToNode l = l < 64
