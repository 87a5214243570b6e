-- The word of the labels that nodes with 255 take: a node takes a label or leaves its own.
-- Assumes nothing.
use mathlib.Core.Path.{◌≡◌, sym, ap, ap₂, ◌∙◌, subst}
use mathlib.Core.Bool.{Bool, true, false, not, ◌&&◌, ◌||◌, and-false, and-true, or-false}
use mathlib.Core.List.{List}
use Prim.Native.Nat.{ℕ, ◌-◌, ◌^◌, ◌≤◌, ◌<◌}
use native.Mathlib.Omega.{arith}
use borrow.Author.Tests.{ltb-true, ltb-false}
use lib.Bits.{bit_or, bit_xor, or_lt}
use lib.Dec.{ltb, lit<}
use lib.ListN.{length, set}
use lib.Seq.{get_or-set_same, get_or-set_other}
use Rattle.integers.specs.Words.{bit}
use Rattle.integers.proofs.Words.{bit_zero, bit_own, bit_other, bit_full, bit_dropped, bit_kept, bit_small, bit_or_lem, bit_without, without_fits, power_fits}
use Rattle.integers.proofs.Places.{by-test, and_true, and_both, right_true}
use Rattle.assignment.proofs.Counts.{differ, by-same}
use Rattle.placing.specs.Words.{entry, flag, Linked, Owning, Below}
use Rattle.placing.proofs.Searching.{fails}
use Rattle.placing.proofs.Linking.{linked_distinct}

-- no node takes a label
pub owning_none : (own : List Bool) (holders : List ℕ) → Owning own holders (2 ^ 64 - 1) 0
owning_none own holders = record { fit = lit< tt; has = λ l h. bit_zero l ∙ sym (ap (λ (t : Bool). not t && flag own (entry holders l)) (bit_full l h)) }

module _ {own : List Bool} {holders : List ℕ} {free owned : ℕ} (o : Owning own holders free owned) where
  -- the node u takes the label l, which is free
  module _ (u : ℕ) {l : ℕ} (small : l < 64) (size : length holders ≡ 64) (vacant : bit free l ≡ true) where
    -- what is said of the other labels
    kept : (x : ℕ) → x < 64 → (x ≡ l → ⊥) → bit owned x ≡ (not (bit (bit_xor free (2 ^ l)) x) && flag own (entry (set holders l u) x))
    kept x h d = o.has x h ∙ sym (ap₂ (λ (t : Bool) (v : ℕ). not t && flag own v) (bit_kept free l x d) (get_or-set_other holders l x u 0 d))

    -- and what of l
    taken : not (bit (bit_xor free (2 ^ l)) l) && flag own (entry (set holders l u) l) ≡ flag own u
    taken = ap₂ (λ (t : Bool) (v : ℕ). not t && flag own v) (bit_dropped free l vacant) (get_or-set_same holders l u 0 (omega (arith, size)))

    -- u does not have 255
    pub owning_same : flag own u ≡ false → Owning own (set holders l u) (bit_xor free (2 ^ l)) owned
    owning_same f = record {
      fit = o.fit;
      has = λ x h. by-same x l
          (λ q. subst (λ y. bit owned y ≡ (not (bit (bit_xor free (2 ^ l)) y) && flag own (entry (set holders l u) y))) (sym q)
          (o.has l small ∙ ap (λ (t : Bool). not t && flag own (entry holders l)) vacant ∙ sym (taken ∙ f)))
          (kept x h);
    }

    -- it has
    pub owning_more : flag own u ≡ true → Owning own (set holders l u) (bit_xor free (2 ^ l)) (bit_or owned (2 ^ l))
    owning_more f = record {
      fit = or_lt 64 owned (2 ^ l) o.fit (power_fits l small);
      has = λ x h. bit_or_lem owned (2 ^ l) x ∙ by-same x l
          (λ q. subst (λ y. (bit owned y || bit (2 ^ l) y) ≡ (not (bit (bit_xor free (2 ^ l)) y) && flag own (entry (set holders l u) y))) (sym q)
          (right_true (bit owned l) (bit_own l) ∙ sym (taken ∙ f)))
          (λ d. ap (λ (t : Bool). bit owned x || t) (bit_other l x d) ∙ or-false (bit owned x) ∙ kept x h d);
    }

  -- more labels are free: those are no node's
  pub owning_left : {left : ℕ} → left < 2 ^ 64 → ((x : ℕ) → x < 64 → bit left x ≡ false → bit free x ≡ false) → Owning own holders left (bit_xor (bit_or owned left) left)
  owning_left {left} fit back = record {
    fit = without_fits owned left o.fit fit;
    has = λ x h. bit_without owned left x ∙ by-test (bit left x)
        (λ e. rw e (and-false (bit owned x)))
        (λ e. rw e (and-true (bit owned x) ∙ o.has x h ∙ ap (λ (t : Bool). not t && flag own (entry holders x)) (back x h e)));
  }

-- without the labels of the nodes below u, which takes none, these are those of nodes above
module _ {sets : List ℕ} {own : List Bool} {taken holders reach : List ℕ} {free owned closed u : ℕ} (k : Linked sets taken holders reach free) (o : Owning own holders free owned) (under : Below closed u taken) where
  pub loose_only : 64 ≤ entry taken u → (l : ℕ) → bit (bit_xor (bit_or owned closed) closed) l ≡ true → (w : ℕ) × (w < 64) × (u < w) × (entry taken w ≡ l) × (flag own w ≡ true)
  loose_only none l e =
      let (a, b) = and_true (bit owned l) (not (bit closed l)) (sym (bit_without owned closed l) ∙ e) in
      let small = bit_small owned l o.fit a in
      let (c, z) = and_true (not (bit free l)) (flag own (entry holders l)) (sym (o.has l small) ∙ a) in
      let (g, f, _) = k.held l small (fails (bit free l) (λ y. differ c (ap not y))) in (
        entry holders l,
        g,
        by-test (ltb u (entry holders l)) (ltb-true u (entry holders l)) (λ t. let q = ltb-false u (entry holders l) t in absurd (by-same (entry holders l) u
            (λ y. omega (arith, ap (entry taken) y))
            (λ y. differ b (ap not (ap (bit closed) (sym f) ∙ under.shut (entry holders l) (omega arith) (omega arith)))))),
        f,
        z,
      )

  pub loose_all : (w : ℕ) → u < w → w < 64 → flag own w ≡ true → entry taken w < 64 → bit (bit_xor (bit_or owned closed) closed) (entry taken w) ≡ true
  loose_all w a g z s =
      let (f, e) = k.taker w g s in
      bit_without owned closed (entry taken w) ∙ and_both
      (o.has (entry taken w) s ∙ and_both (ap not f) (ap (flag own) e ∙ z))
      (ap not (fails (bit closed (entry taken w)) (λ c. let (v, b, q) = under.only (entry taken w) c in let y = linked_distinct k v w (omega arith) g (omega (arith, q)) q in omega arith)))
