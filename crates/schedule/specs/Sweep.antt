-- "Sweeps": the two lists of records, over an instance as a sheet describes it. Quotations are document 01's, and where it is said document 02's.
use Rattle.std.specs.Prelude.{Bool, not, cond, ◌||◌, List, [], ◌∷◌, ◌++◌, map, ℕ, zero, suc, ◌+◌, ◌-◌, ◌*◌, ◌/◌, ◌%◌, eqb, length}
use Rattle.integers.specs.Places.{range, select}
use Rattle.instance.specs.Instance.{Instance, exclusive, first, node_cells}

-- a record as the document writes it: kind, node, index, share
pub record Entry : Type 0 where
  pub kind : ℕ
  pub node : ℕ
  pub index : ℕ
  pub share : ℕ

abbrev pub entry : ℕ → ℕ → ℕ → ℕ → Entry
entry kind node index share = record { kind = kind; node = node; index = index; share = share }

-- "a list has 5 bytes a record: kind, node u, index (2 bytes), share r"; "integers are little-endian"
unfoldable pub bytes : List Entry → List ℕ
bytes [] = []
bytes (x ∷ l) = x.kind ∷ x.node ∷ x.index % 256 ∷ x.index / 256 ∷ x.share ∷ bytes l

-- the lists of some numbers, one after another; and the numbers below n, falling
unfoldable pub each : (ℕ → List Entry) → List ℕ → List Entry
each f [] = []
each f (i ∷ l) = f i ++ each f l

unfoldable pub falling : ℕ → List ℕ
falling zero = []
falling (suc n) = n ∷ falling n

-- ---- the parts of a sweep at node u

-- "kind 2 with share 1 from each edge"
unfoldable pub from_edges : ℕ → List ℕ → List Entry
from_edges u edges = map (λ e. entry 2 u e 1) edges

-- "kind 1 to each edge with shares q, q−1, .."
unfoldable pub to_edges : ℕ → ℕ → List ℕ → List Entry
to_edges u q [] = []
to_edges u q (e ∷ edges) = entry 1 u e q ∷ to_edges u (q - 1) edges

-- "kind 3 with share 1 at each position"
unfoldable pub to_labels : ℕ → List ℕ → List Entry
to_labels u positions = map (λ k. entry 3 u k 1) positions

-- "kind 4 with share 1"
unfoldable pub from_label : ℕ → List ℕ → List Entry
from_label u positions = map (λ k. entry 4 u k 1) positions

-- "then kind 5"; "the other four bytes are 0"
unfoldable pub rounding : List Entry
rounding = entry 5 0 0 0 ∷ []

-- "forward (direction 0)", "backward (1)"
unfoldable pub known : ℕ → Bool
known direction = eqb direction 0 || eqb direction 1

module _ (I : Instance) where
  -- the edges from u "to a lower node", which have u as their higher end, and "to a higher node"; "edges go by number"
  unfoldable pub to_lower : ℕ → List ℕ
  to_lower u = select (λ e. eqb (I.high e) u) (range 0 I.edge_count)

  unfoldable pub to_higher : ℕ → List ℕ
  to_higher u = select (λ e. eqb (I.low e) u) (range 0 I.edge_count)

  -- all positions of u, and the one at which u has the label l, if it has it
  unfoldable pub positions : ℕ → List ℕ
  positions u = range 0 (I.degree u)

  unfoldable pub labelled : ℕ → ℕ → List ℕ
  labelled l u = select (λ k. eqb (I.label (first I u + k)) l) (positions u)

  -- those at which u has another label than 255: "sweeps hold no kind 3 or 4 record for it" (document 02, wish 1)
  unfoldable pub exclusive_positions : ℕ → List ℕ
  exclusive_positions u = select (λ k. exclusive (I.label (first I u + k))) (positions u)

  -- "for u rising, kind 2 with share 1 from each edge to a lower node; kind 1 to each edge to a higher node with shares q, q−1, .. 2, where q is
  -- their number plus 1; kind 3 with share 1 at each position. Then kind 5."
  unfoldable pub forward_at : ℕ → List Entry
  forward_at u = from_edges u (to_lower u) ++ (to_edges u (length (to_higher u) + 1) (to_higher u) ++ to_labels u (exclusive_positions u))

  unfoldable pub forward : List Entry
  forward = each forward_at (range 0 I.node_count) ++ rounding

  -- "labels falling, each label's nodes rising, kind 4 with share 1; then u falling, kind 2 with share 1 from edges to higher nodes, kind 1 to
  -- edges to lower nodes with shares q, q−1, .. 1, where q is their number; then kind 5". Labels are those below L; 255 "lies outside L"
  unfoldable pub label_at : ℕ → List Entry
  label_at l = each (λ u. from_label u (labelled l u)) (range 0 I.node_count)

  unfoldable pub backward_at : ℕ → List Entry
  backward_at u = from_edges u (to_higher u) ++ to_edges u (length (to_lower u)) (to_lower u)

  unfoldable pub backward : List Entry
  backward = each label_at (falling I.label_count) ++ (each backward_at (falling I.node_count) ++ rounding)

  unfoldable pub sweep : ℕ → List Entry
  sweep direction = cond (eqb direction 0) forward backward

  -- V, how many places have the label 255
  unfoldable pub vanished : ℕ
  vanished = length (select (λ i. not (exclusive (I.label i))) (range 0 (node_cells I)))

  -- "either has 2E + N + 1 records"; "a sweep's length shrinks by one record for each" 255 (document 02, wish 1)
  unfoldable pub sweep_records : ℕ
  sweep_records = 2 * I.edge_count + (node_cells I - vanished) + 1

  -- "the sweep's 5 times" their number
  unfoldable pub sweep_length : ℕ
  sweep_length = 5 * sweep_records
