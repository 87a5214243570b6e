-- Of a readable sheet the places can be indexed by their labels, and the edges by their ends: no key has more than 64 of them.
-- Assumes nothing.
use Rattle.std.proofs.Common.{◌≡◌, ℕ, zero, suc, ◌+◌, ◌-◌, ◌*◌, ◌<◌, ◌≤◌, Bool, eqb, ◌⊎◌, List, ◌++◌, length, take, drop, ap, ◌∙◌, inl, inr, arith, length-append, eqb-true}
use Rattle.integers.specs.Places.{range, select, offset}
use Rattle.integers.proofs.Ranges.{range_add, select_append}
use Rattle.integers.proofs.Counting.{climbs, select_few}
use Rattle.index.specs.Index.{index_of, having, Indexed}
use Rattle.index.proofs.Indexed.{indexed_part}
use Rattle.instance.specs.Bytes.{byte}
use Rattle.instance.specs.Instance.{Instance, first, node_cells}
use Rattle.instance.specs.Sheet.{instance_of, ends_at, refusal_of}
use Rattle.instance.specs.Readable.{Proper, Readable}
use Rattle.instance.proofs.Readable.{readable}
use Rattle.instance.proofs.LaidOut.{positions_few_lem}

module _ (I : Instance) (p : Proper I) where
  -- labels rise within a node, so that it has a label at most once
  once : (l u : ℕ) → u < I.node_count → length (select (λ i. eqb (I.label i) l) (range (first I u) (I.degree u))) ≤ 1
  once l u h =
      let a = first I u in
      let f = select_few (λ i. eqb (I.label i) l) I.label a (I.degree u) l (suc l) (omega arith)
      (λ i x y t. let q = eqb-true (I.label i) l t in (omega arith, omega arith))
      (λ i j x y z s t. let e : a + (i - a) ≡ i = omega arith in
      let d : a + (j - a) ≡ j = omega arith in
      let r = climbs (λ k. I.label (a + k)) (I.degree u) (λ k b. p.rising u k h b) (i - a) (j - a) (omega arith) (omega arith) in
      omega (arith, ap I.label e, ap I.label d)) in
      omega arith

  -- the nodes below u have a label at most u times
  label_below_lem : (l u : ℕ) → u ≤ I.node_count → length (having I.label l (first I u)) ≤ u
  unfolding first offset range select
  label_below_lem l zero h = omega arith
  label_below_lem l (suc u) h =
      let t : ℕ → Bool = (λ i. eqb (I.label i) l) in
      let a = offset I.degree u in
      let z : 0 + a ≡ a = omega arith in
      let e : length (select t (range 0 (a + I.degree u))) ≡ length (select t (range 0 a)) + length (select t (range a (I.degree u))) =
      ap (λ (k : List ℕ). length (select t k)) (range_add 0 a (I.degree u) ∙ ap (λ (m : ℕ). range 0 a ++ range m (I.degree u)) z)
      ∙ ap length (select_append t (range 0 a) (range a (I.degree u))) ∙ length-append (select t (range 0 a)) (select t (range a (I.degree u))) in
      let o = once l u (omega arith) in
      let r = label_below_lem l u (omega arith) in
      omega arith

  pub labels_few_lem : (l : ℕ) → length (having I.label l (node_cells I)) ≤ I.node_count
  labels_few_lem l = label_below_lem l I.node_count (omega arith)

  -- edges rise by their lower ends, then by their higher, however far apart
  rise : (i j : ℕ) → i < j → j < I.edge_count → 64 * I.low i + I.high i < 64 * I.low j + I.high j
  rise = climbs (λ e. 64 * I.low e + I.high e) I.edge_count (λ e h. step e h (p.sorted e h))
    where
      step : (e : ℕ) → suc e < I.edge_count → (I.low e < I.low (suc e)) ⊎ ((I.low e ≡ I.low (suc e)) × (I.high e < I.high (suc e))) → 64 * I.low e + I.high e < 64 * I.low (suc e) + I.high (suc e)
      step e h (inl a) = omega (arith, p.inside e (omega arith), p.nodes_few)
      step e h (inr a) = omega (arith, a.0, a.1)

  -- a node's edges to higher nodes have different ends, from a on
  higher_from : (u a : ℕ) → a ≤ I.node_count → ((e : ℕ) → e < I.edge_count → I.low e ≡ u → a ≤ I.high e) → length (having I.low u I.edge_count) + a ≤ I.node_count
  higher_from u a h k =
      select_few (λ e. eqb (I.low e) u) I.high 0 I.edge_count a I.node_count h
      (λ e _ b t. (k e (omega arith) (eqb-true (I.low e) u t), p.inside e (omega arith)))
      (λ i j _ b c t s. let q = eqb-true (I.low i) u t in let r = eqb-true (I.low j) u s in let o = rise i j b (omega arith) in omega arith)

  pub higher_any : (u : ℕ) → length (having I.low u I.edge_count) ≤ I.node_count
  higher_any u = let f = higher_from u 0 (omega arith) (λ e _ _. omega arith) in omega arith

  pub higher_few : {u : ℕ} → u < I.node_count → length (having I.low u I.edge_count) + suc u ≤ I.node_count
  higher_few {u} h = higher_from u (suc u) h (λ e b q. let o = p.ordered e b in omega arith)

  -- and those to lower nodes below it
  pub lower_few : (u : ℕ) → length (having I.high u I.edge_count) ≤ u
  lower_few u =
      let f = select_few (λ e. eqb (I.high e) u) I.low 0 I.edge_count 0 u (omega arith)
      (λ e a b t. let q = eqb-true (I.high e) u t in let o = p.ordered e (omega arith) in (omega arith, omega arith))
      (λ i j a b c t s. let q = eqb-true (I.high i) u t in let r = eqb-true (I.high j) u s in let o = rise i j b (omega arith) in omega arith) in
      omega arith

-- ---- the indexes: of the places by their labels, of the edges by their higher ends and by their lower

module _ (s : List ℕ) (r : refusal_of s ≡ 0) where
  abbrev J : Instance
  J = instance_of s

  whole : Readable s
  whole = readable s r

  pub labels_indexed : {n count : ℕ} → n ≡ J.node_count → count ≡ node_cells J → Indexed J.label (node_cells J) (index_of (take count (drop n s)) 1)
  unfolding instance_of
  labels_indexed {n} {count} en ec =
      indexed_part s n count 1 (omega (arith, whole.whole)) (omega arith) (omega arith) (omega (arith, positions_few_lem whole.proper))
      (λ i h. let e : n + 1 * i ≡ J.node_count + i = omega arith in ap (byte s) e)
      (λ l h. omega (arith, labels_few_lem J whole.proper l, whole.proper.nodes_few))

  module _ {ends : ℕ} (place : ends ≡ ends_at s) where
    pub highs_indexed : {size : ℕ} → size ≡ 2 * J.edge_count → Indexed J.high J.edge_count (index_of (take size (drop (ends + 1) s)) 2)
    unfolding first instance_of
    highs_indexed {size} e =
        indexed_part s (ends + 1) size 2 (omega (arith, whole.whole)) (omega arith) (omega arith) (omega (arith, whole.proper.edges_few))
        (λ i h. let z : ends + 1 + 2 * i ≡ ends_at s + 2 * i + 1 = omega arith in ap (byte s) z)
        (λ l h. omega (arith, lower_few J whole.proper l))

    pub lows_indexed : {size : ℕ} → size ≡ 2 * J.edge_count → Indexed J.low J.edge_count (index_of (take size (drop ends s)) 2)
    unfolding first instance_of
    lows_indexed {size} e =
        indexed_part s ends size 2 (omega (arith, whole.whole)) (omega arith) (omega arith) (omega (arith, whole.proper.edges_few))
        (λ i h. ap (λ (a : ℕ). byte s (a + 2 * i)) place)
        (λ l h. omega (arith, higher_any J whole.proper l, whole.proper.nodes_few))
