-- Usable cells by their labels: which are, and that an edge has none only if each of its ends has one label.
-- Assumes nothing.
use Rattle.std.proofs.Common.{◌≡◌, ℕ, ◌+◌, ◌*◌, ◌<◌, ◌≤◌, Bool, true, not, ◌||◌, eqb, ltb, List, length, get_or, sym, refl, ap, ◌∙◌, ap₂, ⊎_elim, arith, ltb-false, ltb-true, ne_eqb, eqb-true}
use borrow.Author.Tests.{eqb-false, not-true, not-false}
use Rattle.integers.specs.Checks.{below}
use Rattle.integers.proofs.Places.{by-test, both_ways, or_split, left_true, right_true}
use Rattle.integers.proofs.Checks.{below_at, below_all, below_fails, below_not}
use Rattle.instance.specs.Bytes.{byte}
use Rattle.instance.specs.Instance.{Instance, exclusive, usable, first}
use Rattle.instance.specs.Sheet.{instance_of, ends_at, labels_ok, none_usable, usable_ok}
use Rattle.instance.specs.Described.{starts_of}
use Rattle.instance.specs.Passes.{Degrees, Ends, LabelsBegun, UsableAsked, Laid}
use Rattle.instance.proofs.Stages.{start_is, labels_begun, ends_asked}
use Rattle.instance.proofs.LaidOut.{row_inside}
use Rattle.instance.proofs.Readable.{label_rises, ends_order}
use Rattle.instance.proofs.Turns.{degree_bounds}

pub distinct_usable : (l m : ℕ) → (l ≡ m → ⊥) → usable l m ≡ true
unfolding usable
distinct_usable l m d = left_true _ (ap not (ne_eqb l m d))

pub shared_usable : (l m : ℕ) → not (exclusive l) ≡ true → usable l m ≡ true
unfolding usable
shared_usable l m e = right_true (not (eqb l m)) e

pub usable_sym : (l m : ℕ) → usable l m ≡ usable m l
usable_sym l m =
    by-test (eqb l m) (λ t. let e : l ≡ m = eqb-true l m t in ap₂ usable e (sym e))
    (λ t. let d : l ≡ m → ⊥ = eqb-false l m t in distinct_usable l m d ∙ sym (distinct_usable m l (λ e. d (sym e))))

-- ---- an edge whose ends have the labels f, a in all, and g, b in all

module _ (f g : ℕ → ℕ) {a b : ℕ} (ha : 1 ≤ a) (hb : 1 ≤ b) (rf : 1 < a → f 0 < f 1) (rg : 1 < b → g 0 < g 1) where
  abbrev none : Bool
  none = below a (λ k. below b (λ j. not (usable (f k) (g j))))

  found : (k j : ℕ) → k < a → j < b → usable (f k) (g j) ≡ true → not none ≡ true
  found k j h l e = ap not (below_fails a _ k h (below_fails b _ j l (ap not e)))

  -- of two labels one is not the other end's first
  pub some_usable_lem : not none ≡ ((ltb 1 a || ltb 1 b) || usable (f 0) (g 0))
  some_usable_lem = both_ways (not none) ((ltb 1 a || ltb 1 b) || usable (f 0) (g 0)) into out
    where
      into : not none ≡ true → ((ltb 1 a || ltb 1 b) || usable (f 0) (g 0)) ≡ true
      into e =
          let (k, hk, q) = below_not _ _ (not-true none e) in
          let (j, hj, r) = below_not _ _ q in
          by-test (ltb 1 a) (λ t. left_true _ (left_true _ t))
          (λ t. by-test (ltb 1 b) (λ t'. left_true _ (right_true (ltb 1 a) t'))
          (λ t'. let zk : k ≡ 0 = omega (arith, ltb-false 1 a t) in
          let zj : j ≡ 0 = omega (arith, ltb-false 1 b t') in
          right_true (ltb 1 a || ltb 1 b) (ap₂ (λ (x y : ℕ). usable (f x) (g y)) (sym zk) (sym zj) ∙ not-false (usable (f k) (g j)) r)))

      rows : 1 < a → not none ≡ true
      rows h =
          by-test (eqb (f 0) (g 0)) (λ t. let z : f 0 ≡ g 0 = eqb-true (f 0) (g 0) t in found 1 0 h hb (distinct_usable (f 1) (g 0) (λ q. omega (arith, rf h))))
          (λ t. found 0 0 ha hb (distinct_usable (f 0) (g 0) (eqb-false (f 0) (g 0) t)))

      columns : 1 < b → not none ≡ true
      columns h =
          by-test (eqb (f 0) (g 0)) (λ t. let z : f 0 ≡ g 0 = eqb-true (f 0) (g 0) t in found 0 1 ha h (distinct_usable (f 0) (g 1) (λ q. omega (arith, rg h))))
          (λ t. found 0 0 ha hb (distinct_usable (f 0) (g 0) (eqb-false (f 0) (g 0) t)))

      out : ((ltb 1 a || ltb 1 b) || usable (f 0) (g 0)) ≡ true → not none ≡ true
      out e =
          ⊎_elim
          (λ (t : (ltb 1 a || ltb 1 b) ≡ true). ⊎_elim (λ (p : ltb 1 a ≡ true). rows (ltb-true 1 a p)) (λ (p : ltb 1 b ≡ true). columns (ltb-true 1 b p)) (or_split (ltb 1 a) (ltb 1 b) t))
          (λ (t : usable (f 0) (g 0) ≡ true). found 0 0 ha hb t)
          (or_split (ltb 1 a || ltb 1 b) (usable (f 0) (g 0)) e)

-- ---- the first label of a node, as the code reads it

module _ {s : List ℕ} {n : ℕ} {starts : List ℕ} (b : LabelsBegun s n starts) {u : ℕ} (h : u < (instance_of s).node_count) where
  abbrev I : Instance
  I = instance_of s

  pub first_inside : n + get_or starts u 0 < length s
  unfolding first instance_of
  first_inside =
      let d = degree_bounds s n b.degrees.nodes b.small u (omega (arith, b.degrees.nodes)) in
      omega (arith, b.room, b.degrees.nodes, start_is b h, row_inside I h)

  pub first_is : byte s (n + get_or starts u 0) ≡ I.label (first I u)
  unfolding instance_of
  first_is = ap₂ (λ (i j : ℕ). byte s (i + j)) b.degrees.nodes (start_is b h)

-- ---- and an edge

module _ {s : List ℕ} {n at : ℕ} {starts : List ℕ} (asked : UsableAsked s n at starts) {e : ℕ} (h : e < (instance_of s).edge_count) where
  abbrev J : Instance
  J = instance_of s

  module _ {u v : ℕ} (eu : u ≡ byte s (at + 2 * e)) (ev : v ≡ byte s (at + 2 * e + 1)) where
    low_is : u ≡ J.low e
    unfolding instance_of
    low_is = eu ∙ ap (λ (z : ℕ). byte s (z + 2 * e)) asked.ends.place

    high_is : v ≡ J.high e
    unfolding instance_of
    high_is = ev ∙ ap (λ (z : ℕ). byte s (z + 2 * e + 1)) asked.ends.place

    pub ends_known : (u < J.node_count) × (v < J.node_count)
    ends_known = let o = ends_order s asked.ordered e h in (omega (arith, low_is), omega (arith, high_is))

    pub degrees_inside : (u < length s) × (v < length s)
    degrees_inside = let d = asked.labels.degrees in let k = ends_known in (omega (arith, d), omega (arith, d))

    pub edge_by : {low high : ℕ} → low ≡ J.label (first J u) → high ≡ J.label (first J v)
        → ((ltb 1 (byte s u) || ltb 1 (byte s v)) || usable low high) ≡ not (none_usable s e)
    unfolding instance_of
    edge_by {low} {high} el eh =
        let d : (w : ℕ) → w < J.node_count → (1 ≤ byte s w) × (byte s w ≤ 16) = degree_bounds s J.node_count refl asked.labels.small in
        let f : ℕ → ℕ → ℕ = (λ w k. J.label (first J w + k)) in
        let z : (w : ℕ) → w < J.node_count → 1 < byte s w → f w 0 < f w 1 = (λ w l. label_rises s asked.rising w 0 l) in
        let (ku, kv) = ends_known in
        let o : (w : ℕ) → first J w ≡ first J w + 0 = (λ w. omega arith) in
        ap₂ (λ (x y : ℕ). (ltb 1 (byte s u) || ltb 1 (byte s v)) || usable x y) (el ∙ ap J.label (o u)) (eh ∙ ap J.label (o v))
        ∙ sym (some_usable_lem (f u) (f v) (d u ku).0 (d v kv).0 (z u ku) (z v kv))
        ∙ ap₂ (λ (x y : ℕ). not (below (byte s x) (λ k. below (byte s y) (λ j. not (usable (f x k) (f y j)))))) low_is high_is

-- where each node has two labels or more, each edge has one
pub wide_usable : {s : List ℕ} {n at : ℕ} {starts : List ℕ} → UsableAsked s n at starts → below (instance_of s).node_count (λ u. ltb 1 (byte s u)) ≡ true → usable_ok s ≡ true
unfolding usable_ok
wide_usable {s} {n} {at} asked t =
    below_all (instance_of s).edge_count (λ e. not (none_usable s e))
    (λ e h. sym (edge_by asked h refl refl refl refl)
    ∙ left_true _ (left_true _ (below_at (instance_of s).node_count (λ u. ltb 1 (byte s u)) t (byte s (at + 2 * e)) (ends_known asked h refl refl).0)))

-- after the prices
module _ (s : List ℕ) {n labels edges : ℕ} {d : Degrees} {x : Ends} (l : Laid s n labels edges d x) where
  pub usable_asked : {starts : List ℕ} → starts ≡ starts_of s → {at : ℕ} → at ≡ ends_at s → labels_ok s ≡ true → UsableAsked s n at starts
  unfolding first instance_of
  usable_asked q e r =
      record {
        labels = labels_begun s l.begun q;
        ends = rw (← l.begun.counted.all) (ends_asked s l.begun e);
        ordered = l.ordered;
        rising = r;
      }
