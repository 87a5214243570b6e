-- The loop of a search: one label more is gone from at each turn, up to a free label, or until none is left.
-- Assumes nothing.
use mathlib.Core.Path.{◌≡◌, refl, sym, ap, ap₂, ◌∙◌, subst}
use mathlib.Core.Bool.{Bool, true, false, not, ◌||◌, or_assoc, or_comm, or-false}
use mathlib.Core.List.{List}
use mathlib.Core.Logic.{⊎_elim}
use Prim.Native.Nat.{ℕ, zero, suc, ◌+◌, ◌-◌, ◌^◌, ◌≤◌, ◌<◌}
use native.Mathlib.Numerals.{add-one}
use native.Mathlib.Omega.{arith}
use borrow.Author.Tests.{not-true, ltb-true, ltb-false}
use lib.Dec.{ltb}
use lib.Bits.{bit_and, bit_or, bit_xor, and_le_l, or_lt}
use lib.Count.{count_trailing_zeros}
use lib.ListN.{length, set, length-set}
use lib.Seq.{get_or-set_same, get_or-set_other}
use Rattle.integers.specs.Words.{bit, Words}
use Rattle.integers.proofs.Words.{bit_zero, bit_or_lem, bit_and_lem, bit_without, bit_small, lowest, lowest_off, without_fits}
use Rattle.integers.proofs.Places.{by-test, and_true, and_both, or_split, left_true, right_true}
use Rattle.assignment.specs.Rows.{In, but, count, put}
use Rattle.assignment.proofs.Counts.{differ, by-same, but_true, true_but, but_other, pigeonhole, put_same, put_other}
use Rattle.placing.specs.Words.{entry, seen_by, Trail, Met, Ended}

-- ---- tests

-- what is not so fails
pub fails : (b : Bool) → (b ≡ true → ⊥) → b ≡ false
fails b h = by-test b (λ e. absurd (h e)) (λ e. e)

pub or_fails : (a b : Bool) → (a || b) ≡ false → (a ≡ false) × (b ≡ false)
or_fails a b e = (fails a (λ h. differ (left_true b h) e), fails b (λ h. differ (right_true a h) e))

pub or_none_lem : {a b : Bool} → a ≡ false → b ≡ false → (a || b) ≡ false
or_none_lem e f = rw (e, f)

but_self : (t : ℕ → Bool) (x : ℕ) → but t x x ≡ false
but_self t x = fails (but t x x) (λ e. (true_but t x x e).1 refl)

-- ---- numbers below m, no two the same

count_every : (n : ℕ) → count n (λ _. true) ≡ n
unfolding count
count_every zero = refl
count_every (suc n) = let a = count_every n in omega arith

pub once_few : (f : ℕ → ℕ) (n m : ℕ) → ((t : ℕ) → t < n → f t < m) → ((s t : ℕ) → s < t → t < n → f s ≡ f t → ⊥) → n ≤ m
once_few f n m small once =
    let a = pigeonhole (λ t l. (t < n) × (f t ≡ l)) same n m (λ _. true) (λ _. true) (λ t h _. (f t, small t h, refl, (h, refl))) in
    omega (arith, count_every n, count_every m)
  where
    same : (s t l : ℕ) → (s < n) × (f s ≡ l) → (t < n) × (f t ≡ l) → s ≡ t
    same s t l p q = by-same s t (λ e. e) (λ d. by-test (ltb s t)
        (λ e. absurd (once s t (ltb-true s t e) q.0 (p.1 ∙ sym q.1)))
        (λ e. absurd (let h = ltb-false s t e in once t s (omega arith) p.0 (q.1 ∙ sym p.1))))

-- ---- the labels seen

module _ (start : ℕ) (words : List ℕ) where
  -- a step stored later changes none
  pub seen_kept : (k w t l : ℕ) → t ≤ k → seen_by start (set words k w) t l ≡ seen_by start words t l
  unfolding seen_by
  seen_kept k w zero l h = refl
  seen_kept k w (suc t) l h = ap₂ ◌||◌ (seen_kept k w t l (omega arith)) (ap (λ (x : ℕ). bit x l) (get_or-set_other words k t w 0 (λ e. omega arith)))

  pub seen_more : (k w l : ℕ) → k < length words → seen_by start (set words k w) (k + 1) l ≡ (seen_by start words k l || bit w l)
  unfolding seen_by
  seen_more k w l h = rw add-one (ap₂ ◌||◌ (seen_kept k w k l (omega arith)) (ap (λ (x : ℕ). bit x l) (get_or-set_same words k w 0 h)))

  pub seen_later : (t s l : ℕ) → t ≤ s → seen_by start words t l ≡ true → seen_by start words s l ≡ true
  unfolding seen_by
  seen_later t zero l h e = let q : t ≡ 0 = omega arith in subst (λ (x : ℕ). seen_by start words x l ≡ true) q e
  seen_later t (suc s) l h e = by-same t (suc s)
      (λ q. subst (λ (x : ℕ). seen_by start words x l ≡ true) q e)
      (λ q. left_true (bit (entry words s) l) (seen_later t s l (omega arith) e))

  pub seen_begin : (l : ℕ) → seen_by start words 0 l ≡ bit start l
  unfolding seen_by
  seen_begin l = refl

-- ---- the steps

pub trail_none : {reach : List ℕ} {free start before : ℕ} {by words : List ℕ} → length by ≡ 64 → length words ≡ 64 → start < 2 ^ 64
    → ((l : ℕ) → bit start l ≡ true → bit before l ≡ false) → Trail reach free start before by words 0
trail_none {reach} {free} {start} {before} {by} {words} b w f h = record {
  few = omega arith;
  size_by = b;
  size_words = w;
  small = λ l e. bit_small start l f (sym (seen_begin start words l) ∙ e);
  begins = h;
  from = λ t k. absurd (omega arith);
  once = λ s t k k' _. absurd (omega arith);
  leads = λ t l k _. absurd (omega arith);
}

module _ {reach : List ℕ} {free start before : ℕ} {by words : List ℕ} {count : ℕ} (trail : Trail reach free start before by words count) where
  -- from a label seen that was not gone from
  module _ (l : ℕ) (seen : seen_by start words count l ≡ true) (fresh : (s : ℕ) → s < count → entry by s ≡ l → ⊥) where
    -- the labels gone from are different and below 64
    pub trail_few : count < 64
    trail_few = once_few (put (entry by) count l) (suc count) 64 small once
      where
        small : (t : ℕ) → t < suc count → put (entry by) count l t < 64
        small t h = by-same t count
            (λ q. rw (q, put_same (entry by) count l) (trail.small l seen))
            (λ q. rw (put_other (entry by) count l t q) (trail.small (entry by t) (seen_later start words t count (entry by t) (omega arith) (trail.from t (omega arith)).0)))

        once : (s t : ℕ) → s < t → t < suc count → put (entry by) count l s ≡ put (entry by) count l t → ⊥
        once s t h k e =
            let a = put_other (entry by) count l s (λ q. omega arith) in
            by-same t count
            (λ q. fresh s (omega arith) (sym a ∙ e ∙ ap (put (entry by) count l) q ∙ put_same (entry by) count l))
            (λ q. trail.once s t h (omega arith) (sym a ∙ e ∙ put_other (entry by) count l t q))

    pub trail_more : bit free l ≡ false → (new : ℕ) → new < 2 ^ 64
        → ((k : ℕ) → bit new k ≡ true → (bit (entry reach l) k ≡ true) × (seen_by start words count k ≡ false) × (bit before k ≡ false))
        → Trail reach free start before (set by count l) (set words count new) (count + 1)
    trail_more held new fit leads = record {
      few = omega (arith, trail_few);
      size_by = simp length-set trail.size_by;
      size_words = simp length-set trail.size_words;
      small = λ k e. ⊎_elim (λ h. trail.small k h) (λ h. bit_small new k fit h)
          (or_split (seen_by start words count k) (bit new k) (sym (seen_more start words count new k (omega (arith, trail_few, trail.size_words))) ∙ e));
      begins = trail.begins;
      from = λ t h. by-same t count
          (λ q. rw (q, get_or-set_same by count l 0 (omega (arith, trail_few, trail.size_by)), seen_kept start words count new count l (omega arith)) (seen, held))
          (λ q. rw (get_or-set_other by count t l 0 q, seen_kept start words count new t (entry by t) (omega arith)) (trail.from t (omega arith)));
      once = λ s t h k e.
          let a = get_or-set_other by count s l 0 (λ q. omega arith) in
          by-same t count
          (λ q. fresh s (omega arith) (sym a ∙ e ∙ ap (entry (set by count l)) q ∙ get_or-set_same by count l 0 (omega (arith, trail_few, trail.size_by))))
          (λ q. trail.once s t h (omega arith) (sym a ∙ e ∙ get_or-set_other by count t l 0 q));
      leads = λ t k h e. by-same t count
          (λ q. let f : bit new k ≡ true = sym (ap (λ (x : ℕ). bit x k) (ap (entry (set words count new)) q ∙ get_or-set_same words count new 0 (omega (arith, trail_few, trail.size_words)))) ∙ e in
          rw (q, get_or-set_same by count l 0 (omega (arith, trail_few, trail.size_by)), seen_kept start words count new count k (omega arith)) (leads k f))
          (λ q. rw (get_or-set_other by count t l 0 q, seen_kept start words count new t k (omega arith))
          (trail.leads t k (omega arith) (sym (ap (λ (x : ℕ). bit x k) (get_or-set_other words count t new 0 q)) ∙ e)));
    }

-- ---- the labels that wait: those of this layer, and of the next

abbrev pub queue : ℕ → ℕ → ℕ → Bool
queue layer next l = bit layer l || bit next l

queue_none : (w l : ℕ) → queue w 0 l ≡ bit w l
queue_none w l = ap (λ (b : Bool). bit w l || b) (bit_zero l) ∙ or-false (bit w l)

-- ---- the search: the labels of `wait` were seen and are yet to be gone from

pub record Searching (reach : List ℕ) (free start before : ℕ) (by words : List ℕ) (count seen : ℕ) (wait : ℕ → Bool) : Type 0 where
  pub trail : Trail reach free start before by words count
  pub fit : seen < 2 ^ 64
  pub all : (l : ℕ) → bit seen l ≡ (bit before l || seen_by start words count l)
  pub held : (l : ℕ) → seen_by start words count l ≡ true → bit free l ≡ false
  pub waits : (l : ℕ) → In wait l → seen_by start words count l ≡ true
  pub passed : (t : ℕ) → t < count → wait (entry by t) ≡ false
  pub gone : (l k : ℕ) → seen_by start words count l ≡ true → wait l ≡ false → bit (entry reach l) k ≡ true → bit seen k ≡ true

-- the labels to which l leads and that were not seen
abbrev pub newly : List ℕ → ℕ → ℕ → ℕ
newly reach seen l = bit_xor (bit_or (entry reach l) seen) seen

-- a label in both words
pub both_bits : (a b : ℕ) → a < 2 ^ 64 → (bit_and a b ≡ 0 → ⊥) → (bit a (count_trailing_zeros 64 (bit_and a b)) ≡ true) × (bit b (count_trailing_zeros 64 (bit_and a b)) ≡ true)
both_bits a b h z =
    let l = count_trailing_zeros 64 (bit_and a b) in
    and_true (bit a l) (bit b l) (sym (bit_and_lem a b l) ∙ (lowest (bit_and a b) (omega (arith, and_le_l a b)) z).1)

pub no_both : (a b l : ℕ) → bit_and a b ≡ 0 → bit a l ≡ true → bit b l ≡ false
no_both a b l z e = fails (bit b l) (λ f. differ (and_both e f) (sym (bit_and_lem a b l) ∙ ap (λ (x : ℕ). bit x l) z ∙ bit_zero l))

module _ {reach : List ℕ} {free start before : ℕ} {by words : List ℕ} (size_by : length by ≡ 64) (size_words : length words ≡ 64) (fit : start < 2 ^ 64)
    (begins : (l : ℕ) → bit start l ≡ true → bit before l ≡ false) where
  -- a label from which it begins is met
  pub searching_begun : (bit_and start free ≡ 0 → ⊥) → Met reach free start before by words 0 (count_trailing_zeros 64 (bit_and start free))
  searching_begun z = record {
    trail = trail_none size_by size_words fit begins;
    met = let l = count_trailing_zeros 64 (bit_and start free) in seen_begin start words l ∙ (both_bits start free fit z).0;
    free_label = (both_bits start free fit z).1;
  }

  pub searching_none : bit_and start free ≡ 0 → before < 2 ^ 64 → Searching reach free start before by words 0 (bit_or before start) (queue start 0)
  searching_none z fit-before = record {
    trail = trail_none size_by size_words fit begins;
    fit = or_lt 64 before start fit-before fit;
    all = λ l. bit_or_lem before start l ∙ ap (λ (b : Bool). bit before l || b) (sym (seen_begin start words l));
    held = λ l e. no_both start free l z (sym (seen_begin start words l) ∙ e);
    waits = λ l e. seen_begin start words l ∙ sym (queue_none start l) ∙ e;
    passed = λ t h. absurd (omega arith);
    gone = λ l k e f. absurd (differ (sym (seen_begin start words l) ∙ e) (sym (queue_none start l) ∙ f));
  }

module _ {reach : List ℕ} {free start before : ℕ} {by words : List ℕ} {count seen : ℕ} {wait : ℕ → Bool} (s : Searching reach free start before by words count seen wait) where
  -- no label is left
  pub searching_ended : ((l : ℕ) → wait l ≡ false) → Ended reach free start before seen
  searching_ended none = record {
    by = by;
    words = words;
    count = count;
    trail = s.trail;
    exhausted = record { fit = s.fit; all = s.all; held = s.held; exits = λ l k e f. s.gone l k e (none l) f };
  }

  -- the turn from the label l
  module _ (l : ℕ) (left : In wait l) where
    from_seen : seen_by start words count l ≡ true
    from_seen = s.waits l left

    fresh : (t : ℕ) → t < count → entry by t ≡ l → ⊥
    fresh t h e = differ left (ap wait (sym e) ∙ s.passed t h)

    pub turn_small : l < 64
    turn_small = s.trail.small l from_seen

    pub turn_few : count < 64
    turn_few = trail_few s.trail l from_seen fresh

    -- the labels that it leads to
    module _ (fits : Words reach) where
      abbrev new : ℕ
      new = newly reach seen l

      pub new_fits : new < 2 ^ 64
      new_fits = without_fits (entry reach l) seen (fits l) s.fit

      new-bit : (k : ℕ) → bit new k ≡ true → (bit (entry reach l) k ≡ true) × (seen_by start words count k ≡ false) × (bit before k ≡ false)
      new-bit k e =
          let (a, b) = and_true (bit (entry reach l) k) (not (bit seen k)) (sym (bit_without (entry reach l) seen k) ∙ e) in
          let (c, d) = or_fails (bit before k) (seen_by start words count k) (sym (s.all k) ∙ not-true (bit seen k) b) in
          (a, d, c)

      pub new_apart : (k : ℕ) → bit new k ≡ true → wait k ≡ false
      new_apart k e = fails (wait k) (λ h. differ (s.waits k h) (new-bit k e).1)

      trail : Trail reach free start before (set by count l) (set words count new) (count + 1)
      trail = trail_more s.trail l from_seen fresh (s.held l from_seen) new new_fits new-bit

      seen_now : (k : ℕ) → seen_by start (set words count new) (count + 1) k ≡ (seen_by start words count k || bit new k)
      seen_now k = seen_more start words count new k (omega (arith, turn_few, s.trail.size_words))

      pub searching_met : (bit_and new free ≡ 0 → ⊥)
          → Met reach free start before (set by count l) (set words count new) (count + 1) (count_trailing_zeros 64 (bit_and new free))
      searching_met z = record {
        trail = trail;
        met = let k = count_trailing_zeros 64 (bit_and new free) in seen_now k ∙ right_true (seen_by start words count k) (both_bits new free new_fits z).0;
        free_label = (both_bits new free new_fits z).1;
      }

      pub searching_more : bit_and new free ≡ 0 → {wait' : ℕ → Bool} → ((k : ℕ) → wait' k ≡ (but wait l k || bit new k))
          → Searching reach free start before (set by count l) (set words count new) (count + 1) (bit_or seen new) wait'
      searching_more z {wait'} w = record {
        trail = trail;
        fit = or_lt 64 seen new s.fit new_fits;
        all = λ k. bit_or_lem seen new k ∙ ap (λ (b : Bool). b || bit new k) (s.all k) ∙ or_assoc (bit before k) (seen_by start words count k) (bit new k)
            ∙ ap (λ (b : Bool). bit before k || b) (sym (seen_now k));
        held = λ k e. ⊎_elim (λ h. s.held k h) (λ h. no_both new free k z h) (or_split (seen_by start words count k) (bit new k) (sym (seen_now k) ∙ e));
        waits = λ k e. seen_now k ∙ ⊎_elim (λ h. left_true (bit new k) (s.waits k (true_but wait l k h).0)) (λ h. right_true (seen_by start words count k) h)
            (or_split (but wait l k) (bit new k) (sym (w k) ∙ e));
        passed = λ t h. by-same t count
            (λ q. ap wait' (ap (entry (set by count l)) q ∙ get_or-set_same by count l 0 (omega (arith, turn_few, s.trail.size_by))) ∙ w l ∙ or_none_lem (but_self wait l) (old l from_seen))
            (λ q. let k = entry by t in
            ap wait' (get_or-set_other by count t l 0 q) ∙ w k ∙ or_none_lem
            (fails (but wait l k) (λ e. differ (true_but wait l k e).0 (s.passed t (omega arith))))
            (old k (seen_later start words t count k (omega arith) (s.trail.from t (omega arith)).0)));
        gone = λ k j e f g.
            let (a, b) = or_fails (but wait l k) (bit new k) (sym (w k) ∙ f) in
            bit_or_lem seen new j ∙ by-same k l
            (λ q. reached j (ap (λ (x : ℕ). bit (entry reach x) j) (sym q) ∙ g))
            (λ q. left_true (bit new j) (s.gone k j (before_new k e b) (fails (wait k) (λ h. differ (but_true wait l k h q) a)) g));
      }
        where
          old : (k : ℕ) → seen_by start words count k ≡ true → bit new k ≡ false
          old k e = fails (bit new k) (λ f. differ e (new-bit k f).1)

          before_new : (k : ℕ) → seen_by start (set words count new) (count + 1) k ≡ true → bit new k ≡ false → seen_by start words count k ≡ true
          before_new k e f = ⊎_elim (λ h. h) (λ h. absurd (differ h f)) (or_split (seen_by start words count k) (bit new k) (sym (seen_now k) ∙ e))

          reached : (j : ℕ) → bit (entry reach l) j ≡ true → (bit seen j || bit new j) ≡ true
          reached j g = by-test (bit seen j) (λ h. left_true (bit new j) h) (λ h. right_true (bit seen j) (bit_without (entry reach l) seen j ∙ and_both g (ap not h)))

-- ---- layers

pub record Layers (layer next : ℕ) : Type 0 where
  pub fit_layer : layer < 2 ^ 64
  pub fit_next : next < 2 ^ 64
  pub apart : (l : ℕ) → bit layer l ≡ true → bit next l ≡ false
  pub last : layer ≡ 0 → next ≡ 0

pub layers_none : (w : ℕ) → w < 2 ^ 64 → Layers w 0
layers_none w h = record { fit_layer = h; fit_next = omega arith; apart = λ l _. bit_zero l; last = λ _. refl }

-- nothing is left
pub queue_empty : {layer next : ℕ} → Layers layer next → layer ≡ 0 → (l : ℕ) → queue layer next l ≡ false
queue_empty h z l = or_none_lem (ap (λ (w : ℕ). bit w l) z ∙ bit_zero l) (ap (λ (w : ℕ). bit w l) (h.last z) ∙ bit_zero l)

pub in_layer : {layer next l : ℕ} → Layers layer next → (layer ≡ 0 → ⊥) → l ≡ count_trailing_zeros 64 layer → bit layer l ≡ true
in_layer {layer} h some low = ap (bit layer) low ∙ (lowest layer h.fit_layer some).1

-- the layer without its lowest label l, and the next with new ones
module _ {layer next : ℕ} (h : Layers layer next) (some : layer ≡ 0 → ⊥) (l : ℕ) (low : l ≡ count_trailing_zeros 64 layer)
    (new : ℕ) (fit : new < 2 ^ 64) (apart : (k : ℕ) → bit new k ≡ true → bit layer k ≡ false) where
  abbrev left : ℕ
  left = bit_and layer (layer - 1)

  left_is : (k : ℕ) → bit left k ≡ but (bit layer) l k
  left_is k =
      let (off, same) = lowest_off layer h.fit_layer some in
      by-same k l
      (λ q. ap (bit left) (q ∙ low) ∙ off ∙ sym (ap (but (bit layer) l) q ∙ but_self (bit layer) l))
      (λ q. same k (λ z. q (z ∙ sym low)) ∙ sym (but_other (bit layer) l k q))

  -- the layer goes on
  pub layers_same : (left ≡ 0 → ⊥) → Layers left (bit_or next new)
  layers_same z = record {
    fit_layer = omega (arith, and_le_l layer (layer - 1), h.fit_layer);
    fit_next = or_lt 64 next new h.fit_next fit;
    apart = λ k f. let (a, d) = true_but (bit layer) l k (sym (left_is k) ∙ f) in
        bit_or_lem next new k ∙ or_none_lem (h.apart k a) (fails (bit new k) (λ g. differ a (apart k g)));
    last = λ q. absurd (z q);
  }

  queue-but : (k : ℕ) → but (queue layer next) l k ≡ (but (bit layer) l k || bit next k)
  queue-but k = by-same k l
      (λ q. rw q (but_self (queue layer next) l ∙ sym (or_none_lem (but_self (bit layer) l) (h.apart l (in_layer h some low)))))
      (λ q. but_other (queue layer next) l k q ∙ ap (λ (b : Bool). b || bit next k) (sym (but_other (bit layer) l k q)))

  pub queue_same : (k : ℕ) → queue left (bit_or next new) k ≡ (but (queue layer next) l k || bit new k)
  queue_same k = ap₂ ◌||◌ (left_is k) (bit_or_lem next new k) ∙ sym (or_assoc (but (bit layer) l k) (bit next k) (bit new k)) ∙ ap (λ (b : Bool). b || bit new k) (sym (queue-but k))

  -- the next layer begins
  pub layers_next : Layers (bit_or next new) 0
  layers_next = layers_none (bit_or next new) (or_lt 64 next new h.fit_next fit)

  pub queue-next : left ≡ 0 → (k : ℕ) → queue (bit_or next new) 0 k ≡ (but (queue layer next) l k || bit new k)
  queue-next z k = or_comm (bit (bit_or next new) k) (bit 0 k) ∙ ap (λ (w : ℕ). queue w (bit_or next new) k) (sym z) ∙ queue_same k

-- ---- a turn from the label l of this layer, in which none is met

module _ {reach : List ℕ} {free start before : ℕ} {by words : List ℕ} {count seen layer next : ℕ} (s : Searching reach free start before by words count seen (queue layer next))
    (h : Layers layer next) (fits : Words reach) (some : layer ≡ 0 → ⊥) (l : ℕ) (low : l ≡ count_trailing_zeros 64 layer) where
  waiting : In (queue layer next) l
  waiting = left_true (bit next l) (in_layer h some low)

  abbrev more : ℕ
  more = newly reach seen l

  fit : more < 2 ^ 64
  fit = new_fits s l waiting fits

  apart : (k : ℕ) → bit more k ≡ true → bit layer k ≡ false
  apart k f = (or_fails (bit layer k) (bit next k) (new_apart s l waiting fits k f)).0

  pub turn_same : bit_and more free ≡ 0 → (bit_and layer (layer - 1) ≡ 0 → ⊥)
      → Searching reach free start before (set by count l) (set words count more) (count + 1) (bit_or seen more) (queue (bit_and layer (layer - 1)) (bit_or next more)) × Layers (bit_and layer (layer - 1)) (bit_or next more)
  turn_same z d = (searching_more s l waiting fits z (queue_same h some l low more fit apart), layers_same h some l low more fit apart d)

  pub turn_next : bit_and more free ≡ 0 → bit_and layer (layer - 1) ≡ 0
      → Searching reach free start before (set by count l) (set words count more) (count + 1) (bit_or seen more) (queue (bit_or next more) 0) × Layers (bit_or next more) 0
  turn_next z d = (searching_more s l waiting fits z (queue-next h some l low more fit apart d), layers_next h some l low more fit apart)

  pub turn_last : bit_and more free ≡ 0 → bit_and layer (layer - 1) ≡ 0 → bit_or next more ≡ 0
      → Ended reach free start before (bit_or seen more)
  turn_last z d q = let (a, b) = turn_next z d in searching_ended a (queue_empty b q)

-- no label seen is one of those passed over
pub seen_outside : {reach : List ℕ} {free start before : ℕ} {by words : List ℕ} {count : ℕ} → Trail reach free start before by words count
    → (s l : ℕ) → s ≤ count → seen_by start words s l ≡ true → bit before l ≡ false
unfolding seen_by
seen_outside t zero l h e = t.begins l e
seen_outside {start = start} {words = words} t (suc s) l h e =
    ⊎_elim (λ (q : seen_by start words s l ≡ true). seen_outside t s l (omega arith) q) (λ q. (t.leads s l h q).2) (or_split (seen_by start words s l) (bit (entry words s) l) e)
