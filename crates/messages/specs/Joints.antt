-- A node's row and an edge's table as the code has them in one value: what its parts are, and what a message makes of them.
use Rattle.std.specs.Prelude.{◌≡◌, ℕ, ◌<◌, Bool, List, length, ℤ}
use Rattle.integers.specs.Least.{least_from}
use Rattle.messages.specs.declared.edge_message.Joint.{Joint}
use Rattle.messages.specs.declared.records.Flow.{Flow}
use Rattle.messages.specs.EdgeMessage.{by_rows, width_of, height_of, line_at, unbounded, own_stride, other_stride, least_at, moved_cells}
use Rattle.messages.specs.EdgeRecord.{amounts_of, fit_parts}
use Rattle.messages.specs.Records.{to_node}

module _ (j : Joint) where
  -- the table has so many columns, and so many rows
  abbrev pub columns : ℕ
  columns = width_of (by_rows j.end) j.own.now j.other.now

  abbrev pub rows : ℕ
  rows = height_of (by_rows j.end) j.own.now j.other.now

  -- the cells with the end at a position: a row, or a column
  abbrev pub line_in : ℕ → List ℤ
  line_in = line_at (by_rows j.end) columns rows j.cells.now

  -- the least of them
  abbrev pub low_in : ℕ → ℤ
  low_in k = least_from unbounded (line_in k)

  -- the least usable one of them
  abbrev pub least_in : ℕ → ℤ
  least_in = least_at (by_rows j.end) j.own.now j.other.now j.cells.now

  -- at each position no unusable cell is lower than the least usable one
  abbrev pub Above : Type 0
  Above = (k : ℕ) → k < length j.own.now → low_in k ≡ least_in k

  -- how far apart the cells of neighbouring positions stand: of this end, and of the other
  abbrev pub own_step : ℕ
  own_step = own_stride (by_rows j.end) j.other.now

  abbrev pub other_step : ℕ
  other_step = other_stride (by_rows j.end) j.own.now

  -- what each position gives
  abbrev pub given_in : Flow → ℕ → List ℤ
  given_in flow = amounts_of (to_node flow) (by_rows j.end) j.own.now j.other.now j.row.now j.cells.now

  -- the cells once each has received its amount, and whether the row and they stay within a limit
  abbrev pub cells_with : List ℤ → List ℤ
  cells_with amounts = moved_cells (by_rows j.end) columns amounts j.cells.now

  abbrev pub fit_in : ℕ → List ℤ → Bool
  fit_in limit amounts = fit_parts limit amounts (by_rows j.end) columns j.row.now j.cells.now
