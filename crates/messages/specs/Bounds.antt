-- The least cost of a node and of an edge as parts of the lent buffers.
use Rattle.std.specs.Prelude.{ℕ, true, List, map, ℤ, pos, nat_eq, slice_index_or}
use Rattle.integers.specs.Least.{least_from, least_of}
use Rattle.integers.specs.Rows.{part}
use Rattle.integers.specs.Places.{range, select, tabulate}
use Rattle.instance.specs.Instance.{Instance, first, table_size, table}
use Rattle.instance.specs.Sheet.{instance_of}
use Rattle.instance.specs.Described.{labels_of}
use Rattle.messages.specs.EdgeMessage.{usable_cells}

-- the least cost of node u
abbrev pub row_least : Instance → List ℤ → ℕ → ℤ
row_least I nodes u = least_of (part nodes (first I u) (I.degree u))

-- the least usable cell of edge e
abbrev pub table_least : List ℕ → List ℤ → ℕ → ℤ
table_least s edges e =
    let I = instance_of s in
    least_of (usable_cells true (labels_of s (I.low e)) (labels_of s (I.high e)) (part edges (table I e) (table_size I e)))

-- for each label the least of 0 and its costs among the first i places
abbrev pub label_below : Instance → List ℤ → ℕ → ℕ → ℤ
label_below I labels i l = least_from (pos 0) (map (λ j. slice_index_or labels j (pos 0)) (select (λ j. nat_eq (I.label j) l) (range 0 i)))

unfoldable pub least_labels : Instance → List ℤ → ℕ → List ℤ
least_labels I labels i = tabulate 256 (label_below I labels i)
