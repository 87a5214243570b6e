-- Messages between one row of node costs and one edge's table of cells: what is given, and both lists once it is given. Document 01, kinds 1 and 2.
use Rattle.std.specs.Prelude.{◌≡◌, ℕ, ◌+◌, ◌-◌, ◌*◌, ◌/◌, ◌%◌, ◌^◌, ◌<◌, ◌≤◌, Bool, true, false, cond, not, Option, None, Some, List, ◌++◌, map, length, get_or, drop, ℤ, pos, ◌-ℤ◌, neg_ℤ, int_lt, nat_eq, nat_lt, slice_index, slice_index_or}
use Rattle.integers.specs.Least.{least_from, least_of, without}
use Rattle.integers.specs.Share.{share, excess}
use Rattle.integers.specs.Sum.{Within}
use Rattle.integers.specs.Places.{tabulate, select, range}
use Rattle.integers.specs.Rows.{part}
use Rattle.integers.proofs.Ranges.{shifted}
use Rattle.instance.specs.Instance.{usable}
use Rattle.rules.specs.Calls.{cost_limit}
use Rattle.messages.specs.Clash.{Rising}
use Rattle.messages.specs.declared.end.End.{End}
use Rattle.messages.specs.declared.end.End.TheVariants.{Lower, Higher}

-- whether each position of an end has a row of the table, and not a column
abbrev pub by_rows : End → Bool
by_rows Lower = true
by_rows Higher = false

-- where u stands in the cell j: rows for the lower end, columns for the higher
abbrev pub position_in : Bool → ℕ → ℕ → ℕ
position_in by_row width j = cond by_row (j / width) (j % width)

-- kind 1: for each position its distance from the node's least, one r-th, rounded down; 16 places, the rest 0
unfoldable pub node_amounts : List ℤ → ℕ → List ℤ
node_amounts row r = tabulate 16 (λ k. cond (nat_lt k (length row)) (share (slice_index_or row k (pos 0) -ℤ least_of row) r) (pos 0))

-- ---- the usable cells (document 02, wish 2)

-- `own` has the labels of the end that a record names, `other` those of the other end. A table has as many columns as the higher end has labels
abbrev pub width_of : Bool → List ℕ → List ℕ → ℕ
width_of by_row own other = cond by_row (length other) (length own)

abbrev pub height_of : Bool → List ℕ → List ℕ → ℕ
height_of by_row own other = cond by_row (length own) (length other)

-- whether the cell j is usable, by the labels that the two ends have there
abbrev pub usable_in : Bool → List ℕ → List ℕ → ℕ → Bool
usable_in by_row own other j =
    let w = width_of by_row own other in
    usable (slice_index own (position_in by_row w j)) (slice_index other (position_in (not by_row) w j))

-- of n cells the usable ones, and of those the ones with u at its position k
abbrev pub usable_of : Bool → List ℕ → List ℕ → ℕ → List ℕ
usable_of by_row own other n = select (usable_in by_row own other) (range 0 n)

abbrev pub places_at : Bool → List ℕ → List ℕ → ℕ → ℕ → List ℕ
places_at by_row own other n k = select (λ j. nat_eq (position_in by_row (width_of by_row own other) j) k) (usable_of by_row own other n)

-- their costs
abbrev pub usable_cells : Bool → List ℕ → List ℕ → List ℤ → List ℤ
usable_cells by_row own other cells = map (λ j. get_or cells j (pos 0)) (usable_of by_row own other (length cells))

abbrev pub cells_at : Bool → List ℕ → List ℕ → List ℤ → ℕ → List ℤ
cells_at by_row own other cells k = map (λ j. get_or cells j (pos 0)) (places_at by_row own other (length cells) k)

-- kind 2 is kind 1 turned round, so the amounts are negated: for each position of u the distance of the least usable cell there from the least of all usable ones, and 0 where there is none
unfoldable pub edge_amounts : Bool → List ℕ → List ℕ → List ℤ → ℕ → List ℤ
edge_amounts by_row own other cells r = tabulate 16 (λ k. neg_ℤ (excess (cells_at by_row own other cells k) (least_of (usable_cells by_row own other cells)) r))

-- the node's costs once the amounts are given away
abbrev pub moved_row : List ℤ → List ℤ → List ℤ
moved_row amounts row = shifted (λ k. neg_ℤ (slice_index_or amounts k (pos 0))) row

-- the edge's cells once each has received the amount at its position
abbrev pub moved_cells : Bool → ℕ → List ℤ → List ℤ → List ℤ
moved_cells by_row width amounts cells = shifted (λ j. get_or amounts (position_in by_row width j) (pos 0)) cells

-- the table of an edge: `height` rows of `width` cells
pub record Shape (width height : ℕ) (cells : List ℤ) : Type 0 where
  pub wide : 1 ≤ width
  pub narrow : width ≤ 16
  pub high : 1 ≤ height
  pub low : height ≤ 16
  pub size : length cells ≡ height * width

-- ---- what the functions on the way cite

-- a list of which the first n elements are f of their places, and the others are as they were
unfoldable pub over : (ℕ → ℤ) → ℕ → List ℤ → List ℤ
over f n l = tabulate n f ++ drop n l

-- one row of the table, the k-th, once it has received its amounts: one for all its cells, or one for each column
abbrev pub moved_line : Bool → ℕ → List ℤ → List ℤ → List ℤ
moved_line by_row k amounts line = shifted (λ j. get_or amounts (cond by_row k j) (pos 0)) line

-- such a row: few costs, each within the limit
pub record Line (k : ℕ) (line : List ℤ) : Type 0 where
  pub few : length line ≤ 16
  pub place : k < 16
  pub range : Within cost_limit line

-- above every cost: the least of no cells
abbrev pub unbounded : ℤ
unbounded = pos (2 ^ 63 - 1)

-- the cells at a position of an end, usable or not: of the lower end a row, of the higher a column
abbrev pub line_at : Bool → ℕ → ℕ → List ℤ → ℕ → List ℤ
line_at by_row width height cells k = cond by_row (part cells (k * width) width) (tabulate height (λ r. get_or cells (width * r + k) (pos 0)))

-- how far apart the cells of neighbouring positions stand: of the end that a record names, and of the other
abbrev pub own_stride : Bool → List ℕ → ℕ
own_stride by_row other = cond by_row (length other) 1

abbrev pub other_stride : Bool → List ℕ → ℕ
other_stride by_row own = cond by_row 1 (length own)

-- the costs of a row but for the one at a place, if there is one
abbrev pub left_of : List ℤ → Option ℕ → List ℤ
left_of l None = l
left_of l (Some k) = without l k

-- the least usable cell of each position
abbrev pub least_at : Bool → List ℕ → List ℕ → List ℤ → ℕ → ℤ
least_at by_row own other cells k = least_from unbounded (cells_at by_row own other cells k)

-- what such a least gives down to the least of all, turned round: 0 of no cells
unfoldable pub turned_least : ℤ → ℤ → ℕ → ℤ
turned_least cost low r = cond (int_lt cost unbounded) (neg_ℤ (share (cost -ℤ low) r)) (pos 0)

-- an edge's table with the labels of its ends, of which the other's rise; a cell of it is usable
pub record Ends (by_row : Bool) (own other : List ℕ) (cells : List ℤ) : Type 0 where
  pub shape : Shape (width_of by_row own other) (height_of by_row own other) cells
  pub rises : Rising other
  pub some : 0 < length (usable_of by_row own other (length cells))
