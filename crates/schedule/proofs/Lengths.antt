-- "Either has 2E + N + 1 records", less one for each 255.
-- Assumes nothing.
use mathlib.Core.Path.{◌≡◌, refl, ap, ◌∙◌}
use mathlib.Core.List.{List, ◌++◌, map}
use Prim.Native.Nat.{ℕ, zero, suc, ◌+◌, ◌-◌, ◌*◌, ◌<◌}
use native.Mathlib.Omega.{arith}
use borrow.Author.Tests.{lt-ltb, ltb-true}
use lib.Dec.{eqb, ltb}
use lib.ListN.{length, length-append, length-map}
use Rattle.integers.specs.Places.{range, select, offset}
use Rattle.integers.proofs.Places.{by_cond, both_ways, length-range}
use Rattle.integers.proofs.Ranges.{select_all}
use Rattle.instance.specs.Instance.{Instance, exclusive, first, node_cells}
use Rattle.instance.specs.Readable.{Proper}
use Rattle.instance.proofs.LaidOut.{low_inside, label_known_lem, below_exclusive}
use Rattle.index.specs.Index.{having}
use Rattle.index.proofs.Lists.{select_ext}
use Rattle.schedule.specs.Sweep.{Entry, entry, bytes, each, falling, from_edges, to_edges, to_labels, from_label, rounding, to_lower, to_higher, positions, labelled, exclusive_positions, forward_at, forward, label_at, backward_at, backward, sweep, vanished, sweep_records, sweep_length}
use Rattle.schedule.proofs.WritingLaws.{mem_below, each_next, length-bytes, length-to_edges}
use Rattle.schedule.proofs.CountLaws.{offset_ext, offset_add, by_value, select_split, by_part}

-- ---- parts

length_rising : (f : ℕ → List Entry) (n : ℕ) → length (each f (range 0 n)) ≡ offset (λ i. length (f i)) n
unfolding each range offset
length_rising f zero = refl
length_rising f (suc n) = ap length (each_next f n) ∙ length-append (each f (range 0 n)) (f n) ∙ ap (λ (k : ℕ). k + length (f n)) (length_rising f n)

length-falling : (f : ℕ → List Entry) (n : ℕ) → length (each f (falling n)) ≡ offset (λ i. length (f i)) n
unfolding each falling offset
length-falling f zero = refl
length-falling f (suc n) = let ih = length-falling f n in let a = length-append (f n) (each f (falling n)) in omega arith

-- ---- the two lists

module _ (I : Instance) where
  length-forward_at : (u : ℕ) → length (forward_at I u) ≡ length (to_lower I u) + (length (to_higher I u) + length (exclusive_positions I u))
  unfolding forward_at from_edges to_labels
  length-forward_at u =
      let last = map (λ k. entry 3 u k 1) (exclusive_positions I u) in
      let a = length-append (map (λ e. entry 2 u e 1) (to_lower I u)) (to_edges u (length (to_higher I u) + 1) (to_higher I u) ++ last) in
      let b = length-append (to_edges u (length (to_higher I u) + 1) (to_higher I u)) last in
      let c = length-map (to_lower I u) (λ e. entry 2 u e 1) in
      let d = length-to_edges u (length (to_higher I u) + 1) (to_higher I u) in
      let e = length-map (exclusive_positions I u) (λ k. entry 3 u k 1) in
      omega arith

  length-backward_at : (u : ℕ) → length (backward_at I u) ≡ length (to_lower I u) + length (to_higher I u)
  unfolding backward_at from_edges
  length-backward_at u =
      let a = length-append (map (λ e. entry 2 u e 1) (to_higher I u)) (to_edges u (length (to_lower I u)) (to_lower I u)) in
      let b = length-map (to_higher I u) (λ e. entry 2 u e 1) in
      let c = length-to_edges u (length (to_lower I u)) (to_lower I u) in
      omega arith

  length_label_at : (l : ℕ) → length (label_at I l) ≡ length (having I.label l (node_cells I))
  unfolding label_at from_label labelled positions first
  length_label_at l =
      length_rising (λ u. map (λ k. entry 4 u k 1) (labelled I l u)) I.node_count
      ∙ offset_ext I.node_count (λ u. length (map (λ k. entry 4 u k 1) (labelled I l u))) (λ u. length (labelled I l u)) (λ u _. length-map (labelled I l u) (λ k. entry 4 u k 1))
      ∙ by_part (λ i. eqb (I.label i) l) I.degree I.node_count

  length-rounding : length rounding ≡ 1
  unfolding rounding
  length-rounding = refl

  -- the places whose label is not 255: in all, and counted by node
  exclusive_places : length (select (λ i. exclusive (I.label i)) (range 0 (node_cells I))) ≡ node_cells I - vanished I
  unfolding vanished
  exclusive_places = omega (arith, select_split (λ i. exclusive (I.label i)) (range 0 (node_cells I)), length-range 0 (node_cells I))

  pub all_exclusive : offset (λ u. length (exclusive_positions I u)) I.node_count ≡ node_cells I - vanished I
  unfolding exclusive_positions positions first
  all_exclusive = by_part (λ i. exclusive (I.label i)) I.degree I.node_count ∙ exclusive_places

  module _ (p : Proper I) where
    -- each edge has one higher and one lower end
    all_ends : (end : ℕ → ℕ) → ((e : ℕ) → e < I.edge_count → end e < I.node_count) → offset (λ u. length (having end u I.edge_count)) I.node_count ≡ I.edge_count
    all_ends end h =
        by_value end I.node_count (range 0 I.edge_count)
        ∙ ap length (select_all (λ e. ltb (end e) I.node_count) (range 0 I.edge_count) (λ e m. lt-ltb (end e) I.node_count (h e (mem_below m)))) ∙ length-range 0 I.edge_count

    all_lower : offset (λ u. length (to_lower I u)) I.node_count ≡ I.edge_count
    unfolding to_lower
    all_lower = all_ends I.high p.inside

    all_higher : offset (λ u. length (to_higher I u)) I.node_count ≡ I.edge_count
    unfolding to_higher
    all_higher = all_ends I.low (λ e h. low_inside p h)

    -- a place has a label below L if its label is not 255
    known_exclusive : (i : ℕ) → i < node_cells I → ltb (I.label i) I.label_count ≡ exclusive (I.label i)
    known_exclusive i h =
        both_ways (ltb (I.label i) I.label_count) (exclusive (I.label i)) (λ t. below_exclusive p (ltb-true (I.label i) I.label_count t)) (λ x. lt-ltb (I.label i) I.label_count (label_known_lem p i h x))

    all_labelled : offset (λ l. length (label_at I l)) I.label_count ≡ node_cells I - vanished I
    all_labelled =
        offset_ext I.label_count (λ l. length (label_at I l)) (λ l. length (having I.label l (node_cells I))) (λ l _. length_label_at l)
        ∙ by_value I.label I.label_count (range 0 (node_cells I))
        ∙ ap length (select_ext (λ i. ltb (I.label i) I.label_count) (λ i. exclusive (I.label i)) (range 0 (node_cells I)) (λ i m. known_exclusive i (mem_below m)))
        ∙ exclusive_places

    pub forward_records : length (forward I) ≡ sweep_records I
    unfolding forward sweep_records
    forward_records =
        let n = I.node_count in
        let a = length-append (each (forward_at I) (range 0 n)) rounding in
        let b = length_rising (forward_at I) n in
        let c = offset_ext n (λ u. length (forward_at I u)) (λ u. length (to_lower I u) + (length (to_higher I u) + length (exclusive_positions I u))) (λ u _. length-forward_at u) in
        let d = offset_add n (λ u. length (to_lower I u)) (λ u. length (to_higher I u) + length (exclusive_positions I u)) in
        let e = offset_add n (λ u. length (to_higher I u)) (λ u. length (exclusive_positions I u)) in
        omega (arith, all_lower, all_higher, all_exclusive, length-rounding)

    pub backward_records : length (backward I) ≡ sweep_records I
    unfolding backward sweep_records
    backward_records =
        let n = I.node_count in
        let m = I.label_count in
        let a = length-append (each (label_at I) (falling m)) (each (backward_at I) (falling n) ++ rounding) in
        let b = length-append (each (backward_at I) (falling n)) rounding in
        let c = length-falling (label_at I) m in
        let d = length-falling (backward_at I) n in
        let e = offset_ext n (λ u. length (backward_at I u)) (λ u. length (to_lower I u) + length (to_higher I u)) (λ u _. length-backward_at u) in
        let f = offset_add n (λ u. length (to_lower I u)) (λ u. length (to_higher I u)) in
        omega (arith, all_lower, all_higher, all_labelled, length-rounding)

    -- either: in records, and in bytes
    pub sweep_records_lem : (direction : ℕ) → length (sweep I direction) ≡ sweep_records I
    unfolding sweep
    sweep_records_lem direction = by_cond (λ (l : List Entry). length l ≡ sweep_records I) (eqb direction 0) (λ _. forward_records) (λ _. backward_records)

    pub sweep-length : (direction : ℕ) → length (bytes (sweep I direction)) ≡ sweep_length I
    unfolding sweep_length
    sweep-length direction = length-bytes (sweep I direction) ∙ ap (λ (k : ℕ). 5 * k) (sweep_records_lem direction)
