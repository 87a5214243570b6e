-- The indexes of a sheet: of its places by their labels, and of its edges by one of their ends.
use Rattle.std.specs.Prelude.{ℕ, ◌+◌, ◌*◌, List}
use Rattle.integers.specs.Rows.{part}
use Rattle.instance.specs.Instance.{Instance, node_cells}
use Rattle.instance.specs.Sheet.{instance_of, ends_at}
use Rattle.index.specs.Index.{index_of, Indexed}
use Rattle.messages.specs.declared.end.End.{End}
use Rattle.messages.specs.declared.end.End.TheVariants.{Lower, Higher}

-- the labels, a byte each, behind the degrees
abbrev pub place_index : List ℕ → List ℕ
place_index s = index_of (part s (instance_of s).node_count (node_cells (instance_of s))) 1

-- where an end stands in an edge's two bytes
abbrev pub end_place : End → ℕ
end_place Lower = 0
end_place Higher = 1

-- every second byte of the ends
abbrev pub edge_index : List ℕ → End → List ℕ
edge_index s end = index_of (part s (ends_at s + end_place end) (2 * (instance_of s).edge_count)) 2

-- the node at an end of each edge
abbrev pub node_at : Instance → End → ℕ → ℕ
node_at I Lower = I.low
node_at I Higher = I.high

abbrev pub Ended : List ℕ → End → List ℕ → Type 0
Ended s end index = Indexed (node_at (instance_of s) end) (instance_of s).edge_count index
