-- A sheet that was read and not refused: its edges and its labels, as the indexes have them, and how many places have another label than 255.
-- Assumes nothing.
use mathlib.Core.Path.{◌≡◌, sym, ap, ◌∙◌}
use mathlib.Core.List.{List, map, append_assoc}
use Prim.Native.Nat.{ℕ, ◌+◌, ◌-◌, ◌*◌, ◌≤◌, ◌<◌}
use native.Mathlib.Omega.{arith}
use lib.ListN.{length}
use Rattle.integers.specs.Places.{range, offset}
use Rattle.integers.proofs.Places.{length-range}
use Rattle.instance.specs.Instance.{Instance, first, node_cells}
use Rattle.instance.specs.Sheet.{instance_of}
use Rattle.instance.specs.declared.sheet.Sheet.{Sheet}
use Rattle.instance.proofs.LaidOut.{positions_few_lem}
use Rattle.instance.proofs.Sheets.{proper, nodes_is, labels_is, edges_is, nodes_few, labels_few, node_there}
use Rattle.index.specs.Index.{many, held, Indexed}
use Rattle.index.proofs.Indexed.{many_is}
use Rattle.schedule.specs.declared.labels.Spot.{Spot}
use Rattle.schedule.specs.Sweep.{entry, each, falling, from_edges, to_edges, from_label, to_lower, to_higher, exclusive_positions, forward_at, label_at, backward_at, vanished, sweep_records, sweep_length}
use Rattle.schedule.specs.Writing.{Rows, Spots, spotted, exclusive_count, forward_of, backward_by, label_by}
use Rattle.schedule.proofs.WritingLaws.{each_ext, mem_below, falling_mem}
use Rattle.schedule.proofs.CountLaws.{offset_ext}
use Rattle.schedule.proofs.Lengths.{all_exclusive}
use Rattle.schedule.proofs.LabelLaws.{label_list, exclusive_positions_lem}

-- an index whose things are few
rows_of : {key : ℕ → ℕ} {m bound : ℕ} {index : List ℕ} → Indexed key m index → m ≤ bound → Rows index bound
rows_of x h = record { few = x.few; inside = λ l j a b. let i = x.inside l j a b in omega arith }

module _ (x : Sheet) where
  abbrev I : Instance
  I = instance_of x.bytes.now

  abbrev n : ℕ
  n = x.nodes

  -- a node's last label stands ahead of the next node's first
  exclusive_node : {u : ℕ} → u < n → range 0 (exclusive_count I u) ≡ exclusive_positions I u
  exclusive_node {u} h = sym (exclusive_positions_lem I (proper x) u (node_there x h))

  pub exclusive_nodes : offset (exclusive_count I) n ≡ node_cells I - vanished I
  exclusive_nodes =
      offset_ext n (exclusive_count I) (λ u. length (exclusive_positions I u)) (λ u h. sym (length-range 0 (exclusive_count I u)) ∙ ap length (exclusive_node h))
      ∙ ap (offset (λ u. length (exclusive_positions I u))) (nodes_is x) ∙ all_exclusive I

  pub length_is : sweep_length I ≡ 5 * (2 * x.edges + offset (exclusive_count I) n + 1)
  unfolding sweep_length sweep_records
  length_is = omega (arith, exclusive_nodes, edges_is x)

  -- ---- the edges by their higher ends, and by their lower

  module _ {lower higher : List ℕ} (a : Indexed I.high I.edge_count lower) (b : Indexed I.low I.edge_count higher) where
    -- a node's edges
    module _ {u : ℕ} (h : u < 64) where
      lower_is : held lower u ≡ to_lower I u
      unfolding to_lower
      lower_is = a.rows u h

      higher_is : held higher u ≡ to_higher I u
      unfolding to_higher
      higher_is = b.rows u h

      many-lower : many lower u ≡ length (to_lower I u)
      unfolding to_lower
      many-lower = many_is a u h

      many-higher : many higher u ≡ length (to_higher I u)
      unfolding to_higher
      many-higher = many_is b u h

      forward_node : u < n → forward_of I lower higher u ≡ forward_at I u
      unfolding forward_at
      forward_node c = rw (lower_is, higher_is, many-higher, exclusive_node c) (append_assoc (from_edges u (to_lower I u)) (to_edges u (length (to_higher I u) + 1) (to_higher I u)) _)

      backward_node : backward_by lower higher u ≡ backward_at I u
      unfolding backward_at
      backward_node = let z : length (to_lower I u) + 0 ≡ length (to_lower I u) = omega arith in rw (higher_is, lower_is, many-lower, z)

    pub forward_nodes : each (forward_of I lower higher) (range 0 n) ≡ each (forward_at I) (range 0 I.node_count)
    forward_nodes =
        each_ext (forward_of I lower higher) (forward_at I) (range 0 n) (λ u m. let c = mem_below m in let f = nodes_few x in forward_node (omega arith) c)
        ∙ ap (λ (k : ℕ). each (forward_at I) (range 0 k)) (nodes_is x)

    pub backward_nodes : each (backward_by lower higher) (falling n) ≡ each (backward_at I) (falling I.node_count)
    backward_nodes =
        each_ext (backward_by lower higher) (backward_at I) (falling n) (λ u m. let c = falling_mem n m in let f = nodes_few x in backward_node (omega arith))
        ∙ ap (λ (k : ℕ). each (backward_at I) (falling k)) (nodes_is x)

  -- ---- the places by their labels

  module _ {places : List ℕ} {spots : List Spot} (a : Indexed I.label (node_cells I) places) (m : Spots I.degree n spots) where
    pub place_rows : Rows places 1024
    place_rows = rows_of a (positions_few_lem (proper x))

    label_is : {l : ℕ} → l < 64 → label_by places spots l ≡ label_at I l
    unfolding label_at from_label first
    label_is {l} h =
        ap (map (spotted spots)) (a.rows l h)
        ∙ sym (label_list I l (spotted spots) (λ u k. entry 4 u k 1) I.node_count (λ u k b d.
        ap (λ (s : Spot). entry 4 s.node s.position 1) (m.at u k (omega (arith, nodes_is x)) d)))

    pub label_lists : each (label_by places spots) (falling x.labels) ≡ each (label_at I) (falling I.label_count)
    label_lists =
        let f = labels_few x in
        each_ext (label_by places spots) (label_at I) (falling x.labels) (λ l b. let d = falling_mem x.labels b in label_is (omega arith))
        ∙ ap (λ (k : ℕ). each (label_at I) (falling k)) (labels_is x)
