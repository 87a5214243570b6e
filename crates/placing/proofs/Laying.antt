-- The words of a sheet's nodes, laid out node by node.
-- Assumes nothing.
use mathlib.Core.Path.{◌≡◌, refl, sym, ap, ap₂, ◌∙◌}
use mathlib.Core.Bool.{Bool, true, false, cond, ◌&&◌}
use mathlib.Core.List.{List}
use mathlib.Core.Logic.{◌⊎◌, inl, inr, ⊎_elim}
use Prim.Native.Nat.{ℕ, zero, suc, ◌+◌, ◌-◌, ◌^◌, ◌≤◌, ◌<◌}
use native.Mathlib.Numerals.{add-one}
use native.Mathlib.Omega.{arith}
use borrow.Author.Count.{below_more}
use borrow.Author.Tests.{eqb-true, eqb-false, eq-eqb, lt-ltb, le-ltb}
use lib.Bits.{bit_and, bit_or}
use lib.Count.{ones}
use lib.Dec.{eqb, ltb}
use lib.ListN.{length, set, take, length-set}
use Rattle.std.proofs.lemmas.List.{length-take-le, get_or-take}
use lib.Seq.{get_or-set_same, get_or-set_other}
use mir.Val.{bool_byte}
use Rattle.integers.specs.Words.{bit, word_of, Words}
use Rattle.integers.specs.Rows.{part}
use Rattle.integers.proofs.Rows.{length_part, get_d_part}
use Rattle.integers.proofs.Places.{by-test, and_true, and_both, if-true, if-false}
use Rattle.integers.proofs.Words.{word_has, word_only, word_fits, word_rank, word_ones}
use Rattle.instance.specs.Instance.{Instance, first}
use Rattle.instance.specs.Sheet.{instance_of}
use Rattle.instance.specs.Readable.{Readable}
use Rattle.instance.proofs.LaidOut.{row_inside}
use Rattle.assignment.proofs.Counts.{by-same}
use Rattle.placing.specs.Words.{entry, opens, below, rank, Laid}
use Rattle.placing.specs.Labels.{Labels, Worded}

-- a flag as a number
pub byte_is : (b : Bool) → bool_byte b ≡ cond b 1 0
byte_is true = refl
byte_is false = refl

-- words of the same numbers, and of the first of a list
word_same : (f g : ℕ → ℕ) (d : ℕ) → ((k : ℕ) → k < d → f k ≡ g k) → word_of f d ≡ word_of g d
unfolding word_of
word_same f g zero h = refl
word_same f g (suc d) h = ap₂ bit_or (word_same f g d (λ k j. h k (omega arith))) (ap (λ (x : ℕ). 2 ^ x) (h d (omega arith)))

pub word_part : (l : List ℕ) (m : ℕ) → m ≤ length l → word_of (entry (take m l)) (length (take m l)) ≡ word_of (entry l) m
word_part l m h = ap (word_of (entry (take m l))) (length-take-le m l h) ∙ word_same (entry (take m l)) (entry l) m (λ k j. get_or-take m l k 0 j)

-- one label more in a word
pub word_more : (f : ℕ → ℕ) (i : ℕ) → word_of f (i + 1) ≡ bit_or (word_of f i) (2 ^ f i)
unfolding word_of
word_more f i = ap (word_of f) (add-one i)

-- what stands below a label of a word, and below 255
below_small : (l : ℕ) → l < 64 → below l ≡ 2 ^ l - 1
unfolding below
below_small l h = if-true (2 ^ l - 1) (2 ^ 64 - 1) (lt-ltb l 64 h)

below_large : (l : ℕ) → 64 ≤ l → below l ≡ 2 ^ 64 - 1
unfolding below
below_large l h = if-false (2 ^ l - 1) (2 ^ 64 - 1) (le-ltb l 64 h)

-- ---- one node

-- whether a node of this word and flag may take the label l
abbrev takes : ℕ → Bool → ℕ → Bool
takes word own l = cond (ltb l 64) (bit word l) (eqb l 255 && own)

module _ {f : ℕ → ℕ} {d : ℕ} (p : Labels f d) where
  -- all labels are below 64 but for 255
  pub small : {own : Bool} → own ≡ eqb (f (d - 1)) 255 → (k : ℕ) → k < d - cond own 1 0 → f k < 64
  small {own = true} e k h = ⊎_elim (λ (b : f k < 64). b) (λ (v : (f k ≡ 255) × (suc k ≡ d)). absurd (omega arith)) (p.known k (omega arith))
  small {own = false} e k h =
      ⊎_elim (λ (b : f k < 64). b)
      (λ (v : (f k ≡ 255) × (suc k ≡ d)). let i : d - 1 ≡ k = omega arith in absurd (eqb-false (f (d - 1)) 255 (sym e) (ap f i ∙ v.0)))
      (p.known k (omega arith))

  -- a label is among those of the word, or it is 255 and the last
  split : {own : Bool} → own ≡ eqb (f (d - 1)) 255 → (k : ℕ) → k < d → (k < d - cond own 1 0) ⊎ ((own ≡ true) × (f k ≡ 255) × (k ≡ d - cond own 1 0))
  split {own = true} e k h = by-same k (d - 1) (λ i. inr (refl, ap f i ∙ eqb-true (f (d - 1)) 255 (sym e), i)) (λ i. inl (omega arith))
  split {own = false} e k h = inl (omega arith)

  module _ {word : ℕ} {own : Bool} (w : Worded f d word own) where
    abbrev m : ℕ
    m = d - cond own 1 0

    word_small : word < 2 ^ 64
    word_small = rw w.others (word_fits f m (small w.last))

    -- the node may take each of its labels, and no other
    takes_each : (k : ℕ) → k < d → takes word own (f k) ≡ true
    takes_each k h =
        ⊎_elim (λ (i : k < m). if-true _ _ (lt-ltb (f k) 64 (small w.last k i)) ∙ ap (λ (x : ℕ). bit x (f k)) w.others ∙ word_has f m k i)
        (λ (v : (own ≡ true) × (f k ≡ 255) × (k ≡ m)). if-false _ _ (le-ltb (f k) 64 (omega arith)) ∙ and_both (eq-eqb (f k) 255 v.1) v.0)
        (split w.last k h)

    takes_only : (l : ℕ) → takes word own l ≡ true → (k : ℕ) × (k < d) × (f k ≡ l)
    takes_only l e = by-test (ltb l 64)
        (λ t. let (k, h, q) = word_only f m l (ap (λ (x : ℕ). bit x l) (sym w.others) ∙ sym (if-true _ _ t) ∙ e) in (k, omega arith, q))
        (λ t. let (a, b) = and_true (eqb l 255) own (sym (if-false _ _ t) ∙ e) in
        (d - 1, omega (arith, p.some), eqb-true (f (d - 1)) 255 (sym w.last ∙ b) ∙ sym (eqb-true l 255 a)))

    -- a label's rank is its place
    ranked : (k : ℕ) → k < d → rank word (f k) ≡ k
    unfolding rank
    ranked k h =
        let among : ℕ → ℕ = (λ x. ones (bit_and (word_of f m) x)) in
        ap (λ (x : ℕ). rank x (f k)) w.others
        ∙ ⊎_elim (λ (i : k < m). ap among (below_small (f k) (small w.last k i)) ∙ word_rank f m up k i)
        (λ (v : (own ≡ true) × (f k ≡ 255) × (k ≡ m)). ap among (below_large (f k) (omega arith)) ∙ word_ones f m up (small w.last) ∙ sym v.2)
        (split w.last k h)
      where
        up : (x : ℕ) → suc x < m → f x < f (suc x)
        up x l = p.rising x (omega arith)

-- ---- all nodes

-- the nodes below u are laid out, in tables of 64
pub record Laying (I : Instance) (u : ℕ) (sets : List ℕ) (own : List Bool) : Type 0 where
  pub laid : Laid I u sets own
  pub size_sets : length sets ≡ 64
  pub size_own : length own ≡ 64

pub laid_none : (I : Instance) {sets : List ℕ} {own : List Bool} → Words sets → Laid I 0 sets own
laid_none I fit = record { fit = fit; has = λ u k h. absurd (omega arith); only = λ u l h. absurd (omega arith); ranks = λ u k h. absurd (omega arith) }

-- one node more, with labels f
module _ {I : Instance} {u : ℕ} {f : ℕ → ℕ} {d : ℕ} (p : Labels f d) (size : d ≡ I.degree u) (same : (k : ℕ) → k < d → f k ≡ I.label (first I u + k))
    (room : u < 64) {word : ℕ} {last : Bool} (w : Worded f d word last) {sets : List ℕ} {own : List Bool} (g : Laying I u sets own) where
  abbrev sets' : List ℕ
  sets' = set sets u word

  abbrev own' : List Bool
  own' = set own u last

  word_here : entry sets' u ≡ word
  word_here = get_or-set_same sets u word 0 (omega (arith, g.size_sets))

  word_before : (v : ℕ) → v < u → entry sets' v ≡ entry sets v
  word_before v h = get_or-set_other sets u v word 0 (λ e. omega arith)

  opens_here : (l : ℕ) → opens sets' own' u l ≡ takes word last l
  unfolding opens
  opens_here l = ap₂ (λ (x : ℕ) (b : Bool). takes x b l) word_here (get_or-set_same own u last false (omega (arith, g.size_own)))

  opens_before : (v l : ℕ) → v < u → opens sets' own' v l ≡ opens sets own v l
  unfolding opens
  opens_before v l h = ap₂ (λ (x : ℕ) (b : Bool). takes x b l) (word_before v h) (get_or-set_other own u v last false (λ e. omega arith))

  laid_node : Laid I (u + 1) sets' own'
  laid_node = record {
    fit = λ i. by-same i u (λ e. rw (e, word_here) (word_small p w)) (λ e. rw (get_or-set_other sets u i word 0 e) (g.laid.fit i));
    has = λ v k h.
        below_more (λ v. k < I.degree v → opens sets' own' v (I.label (first I v + k)) ≡ true) u
        (λ v h l. opens_before v (I.label (first I v + k)) h ∙ g.laid.has v k h l)
        (λ l. opens_here (I.label (first I u + k)) ∙ ap (takes word last) (sym (same k (omega arith))) ∙ takes_each p w k (omega arith)) v h;
    only = λ v l h.
        below_more (λ v. opens sets' own' v l ≡ true → (k : ℕ) × (k < I.degree v) × (I.label (first I v + k) ≡ l)) u
        (λ v h e. g.laid.only v l h (sym (opens_before v l h) ∙ e))
        (λ e. let (k, b, q) = takes_only p w l (sym (opens_here l) ∙ e) in (k, omega arith, sym (same k b) ∙ q)) v h;
    ranks = λ v k h.
        below_more (λ v. k < I.degree v → rank (entry sets' v) (I.label (first I v + k)) ≡ k) u
        (λ v h l. ap (λ (x : ℕ). rank x (I.label (first I v + k))) (word_before v h) ∙ g.laid.ranks v k h l)
        (λ l. ap₂ rank word_here (sym (same k (omega arith))) ∙ ranked p w k (omega arith)) v h;
  }

-- ---- the labels of a node, in a sheet

-- its bytes
abbrev pub bytes_of : List ℕ → ℕ → List ℕ
bytes_of s u = part s ((instance_of s).node_count + first (instance_of s) u) ((instance_of s).degree u)

module _ {s : List ℕ} (r : Readable s) {u : ℕ} (h : u < (instance_of s).node_count) where
  abbrev I : Instance
  I = instance_of s

  abbrev a : ℕ
  a = I.node_count + first I u

  bytes_inside : a + I.degree u ≤ length s
  bytes_inside = omega (arith, row_inside I h, r.whole)

  pub bytes_long : length (bytes_of s u) ≡ I.degree u
  bytes_long = length_part s a (I.degree u) bytes_inside

  pub bytes_at : (k : ℕ) → k < length (bytes_of s u) → entry (bytes_of s u) k ≡ I.label (first I u + k)
  unfolding instance_of
  bytes_at k l =
      let n = bytes_long in
      let e : a + k ≡ I.node_count + (first I u + k) = omega arith in
      get_d_part s a (I.degree u) k 0 (omega arith) ∙ ap (entry s) e

  pub bytes_labels : Labels (entry (bytes_of s u)) (length (bytes_of s u))
  bytes_labels = let n = bytes_long in let p = r.proper in record {
    some = omega (arith, p.labelled u h);
    known = λ k l.
        ⊎_elim (λ (b : I.label (first I u + k) < I.label_count). let e = bytes_at k l in inl (omega (arith, p.labels_few)))
        (λ (v : (I.label (first I u + k) ≡ 255) × (suc k ≡ I.degree u)). inr (bytes_at k l ∙ v.0, v.1 ∙ sym n))
        (p.known u k h (omega arith));
    rising = λ k l. let e = bytes_at k (omega arith) in let e' = bytes_at (suc k) l in omega (arith, p.rising u k h (omega arith));
  }

  -- its word and its flag stored
  pub laid_more : {word : ℕ} {last : Bool} → Worded (entry (bytes_of s u)) (length (bytes_of s u)) word last
      → {sets : List ℕ} {own : List Bool} → Laying I u sets own → Laying I (u + 1) (set sets u word) (set own u last)
  laid_more w g = record {
    laid = laid_node bytes_labels bytes_long bytes_at (omega (arith, r.proper.nodes_few)) w g;
    size_sets = simp length-set g.size_sets;
    size_own = simp length-set g.size_own;
  }
