-- The two least of some costs: a node's, or a label's. Beside any one of them the least of the others is one of the two.
use Rattle.std.specs.Prelude.{◌≡◌, ℕ, ◌<◌, cond, List, map, length, take, slice_index, ℤ, pos, ◌-ℤ◌, ◌≤ℤ◌, int_lt, slice_index_or}
use mathlib.Core.List.{Memᴰ as Mem}
use Rattle.integers.specs.Least.{min_ℤ, least_from}
use Rattle.integers.specs.Places.{others}
use Rattle.integers.specs.Share.{share}
use Rattle.instance.specs.Instance.{Instance}
use Rattle.rules.specs.Places.{node_places, label_places}
use Rattle.messages.specs.EdgeMessage.{unbounded}
use Rattle.messages.specs.declared.records.Flow.{Flow}
use Rattle.messages.specs.declared.records.Flow.TheVariants.{FromNode, ToNode}
use Rattle.messages.specs.declared.lows.Known.{Known}
use Rattle.messages.specs.declared.lows.Lows.{Lows}

abbrev pub lows : ℤ → ℤ → Lows
lows least second = record { least = least; second = second }

-- with one cost more
unfoldable pub lows_with : Lows → ℤ → Lows
lows_with l cost = cond (int_lt cost l.least) (lows cost l.least) (lows l.least (min_ℤ cost l.second))

-- the least beside a cost that is one of them
unfoldable pub low_beside : Lows → ℤ → ℤ
low_beside l cost = cond (int_lt l.least cost) l.least l.second

-- what a cost gives against the least beside it: a share of the distance, and 0 with no other
unfoldable pub given_by : ℤ → ℤ → ℕ → ℤ
given_by cost low r = cond (int_lt low unbounded) (share (cost -ℤ low) r) (pos 0)

-- once a cost, one of them, has moved toward the least beside it
unfoldable pub lows_moved : Lows → ℤ → ℤ → Lows
lows_moved l from to = cond (int_lt l.least from) (lows l.least (min_ℤ to l.second)) (lows to l.second)

-- they are the two least of `start` and the costs f at some places: beside the cost at any one of these, the least of `start` and the others
pub record Lowest (start : ℤ) (f : ℕ → ℤ) (places : List ℕ) (l : Lows) : Type 0 where
  pub order : l.least ≤ℤ l.second
  pub least : l.least ≡ least_from start (map f places)
  pub beside : (i : ℕ) → Mem i places → least_from start (map f (others i places)) ≡ low_beside l (f i)

-- no place of a list stands in it before
abbrev pub Apart : List ℕ → Type 0
Apart places = (j : ℕ) → j < length places → Mem (slice_index places j) (take j places) → ⊥

-- ---- what a run knows between records

-- of a message between a node and a label: the costs among which one is moved, at which places, and what counts besides them
abbrev pub costs_for : Flow → List ℤ → List ℤ → ℕ → ℤ
costs_for FromNode nodes labels = λ i. slice_index_or nodes i (pos 0)
costs_for ToNode nodes labels = λ i. slice_index_or labels i (pos 0)

abbrev pub places_for : Instance → Flow → ℕ → List ℕ
places_for I FromNode u = node_places I u
places_for I ToNode l = label_places I l

abbrev pub start_for : Flow → ℤ
start_for FromNode = unbounded
start_for ToNode = pos 0

-- the two least of them
abbrev pub LowestFor : Instance → List ℤ → List ℤ → Flow → ℕ → Lows → Type 0
LowestFor I nodes labels flow of l = Lowest (start_for flow) (costs_for flow nodes labels) (places_for I flow of) l

abbrev pub Knows : Instance → List ℤ → List ℤ → Known → Type 0
Knows I nodes labels k = LowestFor I nodes labels k.flow k.of k.lows
