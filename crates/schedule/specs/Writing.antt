-- Contracts of the private functions: writing records one after another, and the records as the indexes have them.
use Rattle.std.specs.Prelude.{◌≡◌, cond, List, ◌++◌, map, Result, Ok, Err, ℕ, ◌+◌, ◌-◌, ◌*◌, ◌≤◌, ◌<◌, eqb, length, get_or, take}
use Rattle.integers.specs.Places.{range, offset}
use Rattle.instance.specs.declared.refusal.Refusal.{Refusal}
use Rattle.instance.specs.declared.refusal.Refusal.TheVariants.{NoSuchRecord}
use Rattle.instance.specs.Instance.{Instance, exclusive, first}
use Rattle.index.specs.Index.{many, held}
use Rattle.schedule.specs.declared.labels.Spot.{Spot}
use Rattle.schedule.specs.declared.sweep.Direction.{Direction}
use Rattle.schedule.specs.declared.sweep.Direction.TheVariants.{Forward, Backward}
use Rattle.schedule.specs.declared.writer.Kind.{Kind}
use Rattle.schedule.specs.declared.writer.Kind.TheVariants.{ToEdge, FromEdge, ToLabel, FromLabel, Round}
use Rattle.schedule.specs.declared.writer.Writer.{Writer}
use Rattle.schedule.specs.Sweep.{Entry, entry, bytes, from_edges, to_edges, to_labels}

-- all records of a list were written: the bytes ahead of the place are those that were, and then theirs
pub record Wrote (w : Writer) (l : List Entry) (w' : Writer) : Type 0 where
  pub same_reference : w'.out.ghost_name ≡ w.out.ghost_name
  pub size : length w'.out.now ≡ length w.out.now
  pub place : w'.at ≡ w.at + 5 * length l
  pub content : take w'.at w'.out.now ≡ take w.at w.out.now ++ bytes l

-- there is room for so many records
pub record Room (w : Writer) (count : ℕ) : Type 0 where
  pub fits : w.at + 5 * count ≤ length w.out.now

-- ---- numbers

abbrev pub kind_number : Kind → ℕ
kind_number ToEdge = 1
kind_number FromEdge = 2
kind_number ToLabel = 3
kind_number FromLabel = 4
kind_number Round = 5

abbrev pub direction_number : Direction → ℕ
direction_number Forward = 0
direction_number Backward = 1

-- the direction by its number, refused with 12 where there is none
unfoldable pub direction_of : ℕ → Result Direction Refusal
direction_of n = cond (eqb n 0) (Ok Forward) (cond (eqb n 1) (Ok Backward) (Err NoSuchRecord))

-- ---- the records as the indexes have them

-- an index of things below `bound`, of which a row has at most 64
pub record Rows (index : List ℕ) (bound : ℕ) : Type 0 where
  pub few : (l : ℕ) → l < 64 → many index l ≤ 64
  pub inside : (l j : ℕ) → l < 64 → j < many index l → get_or index (65 * l + 1 + j) 0 < bound

-- from the edges in the row of u, and to them with shares that fall from their number and `more` on
abbrev pub received : List ℕ → ℕ → List Entry
received edges u = from_edges u (held edges u)

abbrev pub sent : List ℕ → ℕ → ℕ → List Entry
sent edges more u = to_edges u (many edges u + more) (held edges u)

-- how many positions of a node have another label than 255, which only its last can be
abbrev pub exclusive_count : Instance → ℕ → ℕ
exclusive_count I u = cond (exclusive (I.label (first I u + (I.degree u - 1)))) (I.degree u) (I.degree u - 1)

-- a node's records of edges, from those of one index and to those of the other
abbrev pub passed : List ℕ → List ℕ → ℕ → ℕ → List Entry
passed from to more u = received from u ++ sent to more u

-- a node's part of each sweep, by its edges to lower and to higher nodes, and of a forward one by how many positions have a record
abbrev pub forward_of : Instance → List ℕ → List ℕ → ℕ → List Entry
forward_of I lower higher u = passed lower higher 1 u ++ to_labels u (range 0 (exclusive_count I u))

abbrev pub backward_by : List ℕ → List ℕ → ℕ → List Entry
backward_by lower higher u = passed higher lower 0 u

abbrev pub spot : ℕ → ℕ → Spot
spot u k = record { node = u; position = k }

-- the places of the nodes below n
pub record Spots (degree : ℕ → ℕ) (n : ℕ) (spots : List Spot) : Type 0 where
  pub size : length spots ≡ 1024
  pub at : (u k : ℕ) → u < n → k < degree u → get_or spots (offset degree u + k) (spot 0 0) ≡ spot u k

-- k places of node u more, from `at` on
pub record Marked (before : List Spot) (at u k : ℕ) (after : List Spot) : Type 0 where
  pub size : length after ≡ length before
  pub here : (j : ℕ) → j < k → get_or after (at + j) (spot 0 0) ≡ spot u j
  pub ahead : (i : ℕ) → i < at → get_or after i (spot 0 0) ≡ get_or before i (spot 0 0)

-- a label's records, by the places that have it
abbrev pub spotted : List Spot → ℕ → Entry
spotted spots i = let s = get_or spots i (spot 0 0) in entry 4 s.node s.position 1

abbrev pub label_by : List ℕ → List Spot → ℕ → List Entry
label_by places spots l = map (spotted spots) (held places l)
