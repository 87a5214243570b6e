-- Rows of tight cells, label by label.
-- Assumes nothing.
use mathlib.Core.Path.{◌≡◌, refl, sym, ap, ◌∙◌, subst}
use mathlib.Core.Bool.{Bool, true, false, ◌&&◌}
use mathlib.Core.List.{List}
use mathlib.Core.Logic.{inl, inr, ⊎_elim}
use Prim.Native.Nat.{ℕ, ◌+◌, ◌^◌, ◌≤◌, ◌<◌}
use native.Mathlib.Omega.{arith}
use borrow.Author.Tests.{eqb-true, ltb-true, lt-ltb}
use lib.Bits.{bit_or, or_lt}
use lib.Dec.{eqb, ltb, lit<}
use lib.ListN.{length, set, replicate, length-set}
use lib.Seq.{get_or-set_same, get_or-set_other}
use lib.IntN.{ℤ, pos}
use lib.Signed.{◌≤ℤ◌}
use Rattle.integers.specs.Words.{bit, Words}
use Rattle.integers.proofs.Words.{bit_zero, bit_or_lem, bit_own, bit_only, power_fits}
use Rattle.integers.proofs.Places.{by-test, if-true, and_true, or_split, left_true, right_true}
use Rattle.instance.specs.Described.{labels_of}
use Rattle.placing.specs.declared.offers.Offers.{Offers}
use Rattle.placing.specs.declared.tables.Row.{Row}
use Rattle.assignment.proofs.Counts.{differ, by-same}
use Rattle.placing.specs.Words.{entry, opens}
use Rattle.placing.specs.Priced.{price, net, Tight}
use Rattle.placing.specs.Paths.{paid}
use Rattle.placing.specs.TightRows.{in_row, Joins, RowTight}
use Rattle.placing.proofs.Slots.{Kinds, opens_kinds}
use Rattle.placing.proofs.Linking.{words_none, words_set}
use Rattle.placing.proofs.Offering.{label_there, row_label}

-- ---- what is in a row

in_kinds : (r : Row) (k : ℕ) → in_row r k ≡ true → Kinds k
unfolding in_row
in_kinds r k a = by-test (ltb k 64) (λ t. inl (ltb-true k 64 t)) (λ t. inr (eqb-true k 255 (and_true (eqb k 255) r.own (rw t at a)).0))

in_word : (r : Row) (k : ℕ) → k < 64 → in_row r k ≡ bit r.word k
unfolding in_row
in_word r k h = if-true (bit r.word k) (eqb k 255 && r.own) (lt-ltb k 64 h)

in_own : (r : Row) → in_row r 255 ≡ r.own
unfolding in_row
in_own r = refl

pub in_none : (k : ℕ) → in_row (record { word = 0; own = false }) k ≡ true → ⊥
unfolding in_row
in_none k a = ⊎_elim
    (λ h. differ (sym (in_word (record { word = 0; own = false }) k h) ∙ a) (bit_zero k))
    (λ e. differ (sym (ap (in_row (record { word = 0; own = false })) e) ∙ a) refl)
    (in_kinds (record { word = 0; own = false }) k a)

module _ (w l : ℕ) (own : Bool) where
  abbrev r : Row
  r = record { word = w; own = own }

  pub joins_label : l < 64 → Joins r l (record { word = bit_or w (2 ^ l); own = own })
  unfolding in_row
  joins_label h = record {
    fit = λ f. or_lt 64 w (2 ^ l) f (power_fits l h);
    is = λ k a. ⊎_elim
        (λ g. ⊎_elim (λ b. inl (in_word r k g ∙ b)) (λ b. inr (inl (h, bit_only l k b))) (or_split (bit w k) (bit (2 ^ l) k) (sym (bit_or_lem w (2 ^ l) k) ∙ sym (in_word r' k g) ∙ a)))
        (λ e. inl (ap (in_row r) e ∙ sym (ap (in_row r') e) ∙ a))
        (in_kinds r' k a);
    stays = λ k a. ⊎_elim
        (λ g. in_word r' k g ∙ bit_or_lem w (2 ^ l) k ∙ left_true (bit (2 ^ l) k) (sym (in_word r k g) ∙ a))
        (λ e. ap (in_row r') e ∙ sym (ap (in_row r) e) ∙ a)
        (in_kinds r k a);
    has = λ _. in_word r' l h ∙ bit_or_lem w (2 ^ l) l ∙ right_true (bit w l) (bit_own l);
  }
    where
      r' : Row
      r' = record { word = bit_or w (2 ^ l); own = own }

  pub joins_own : 64 ≤ l → Joins r l (record { word = w; own = true })
  unfolding in_row
  joins_own h = record {
    fit = λ f. f;
    is = λ k a. ⊎_elim (λ g. inl (in_word r k g ∙ sym (in_word r' k g) ∙ a)) (λ e. inr (inr (h, e))) (in_kinds r' k a);
    stays = λ k a. ⊎_elim (λ g. in_word r' k g ∙ sym (in_word r k g) ∙ a) (λ e. ap (in_row r') e) (in_kinds r k a);
    has = ⊎_elim (λ g. absurd (omega arith)) (λ e. ap (in_row r') e);
  }
    where
      r' : Row
      r' = record { word = w; own = true }

-- ---- one node's labels in turn

module _ (o : Offers) (prices : List ℤ) (u m : ℕ) where
  abbrev label : ℕ → ℕ
  label = entry (labels_of o.sheet.now.bytes.now u)

  abbrev Low : ℕ → Type 0
  Low k = net (paid o) prices u k ≤ℤ net (paid o) prices u m

  -- of the first k labels those at which u pays no more than at m
  pub record Gathered (r : Row) (k : ℕ) : Type 0 where
    pub fit : r.word < 2 ^ 64
    pub is : (x : ℕ) → in_row r x ≡ true → (j : ℕ) × (j < k) × (label j ≡ x) × Low x
    pub has : (j : ℕ) → j < k → Low (label j) → in_row r (label j) ≡ true

  pub gathered_none : Gathered (record { word = 0; own = false }) 0
  gathered_none = record { fit = lit< tt; is = λ x a. absurd (in_none x a); has = λ j g. absurd (omega arith) }

  module _ {r : Row} {k : ℕ} (g : Gathered r k) where
    pub gathered_past : (Low (label k) → ⊥) → Gathered r (k + 1)
    gathered_past n = record {
      fit = g.fit;
      is = λ x a. let (j, i, e, l) = g.is x a in (j, omega arith, e, l);
      has = λ j i l. by-same j k (λ q. absurd (n (rw q at l))) (λ q. g.has j (omega arith) l);
    }

    pub gathered_more : {r' : Row} → u < o.nodes.now.count → k < length (labels_of o.sheet.now.bytes.now u) → Low (label k) → Joins r (label k) r' → Gathered r' (k + 1)
    gathered_more {r'} h i l w = record {
      fit = w.fit g.fit;
      is = λ x a. ⊎_elim
          (λ b. let (j, i, e, l) = g.is x b in (j, omega arith, e, l))
          (⊎_elim (λ b. let e = b.1 in (k, omega arith, sym e, rw e l)) (λ b. let e : label k ≡ x = ⊎_elim (λ y. absurd (omega (arith, b.0))) (λ y. y ∙ sym b.1) kind in (k, omega arith, e, rw (sym e) l)))
          (w.is x a);
      has = λ j i l. by-same j k (λ q. rw q (w.has kind)) (λ q. w.stays (label j) (g.has j (omega arith) l));
    }
      where
        kind : Kinds (label k)
        kind = opens_kinds o.nodes.now.sets o.nodes.now.own u (label k) (row_label o h k i).0

  pub gathered_done : {r : Row} → u < o.nodes.now.count → Gathered r (length (labels_of o.sheet.now.bytes.now u)) → RowTight o.nodes.now.sets o.nodes.now.own (paid o) u m prices r
  gathered_done {r} h g = record {
    fit = g.fit;
    is = λ x a. let (j, i, e, l) = g.is x a in (ap (opens o.nodes.now.sets o.nodes.now.own u) (sym e) ∙ (row_label o h j i).0, l);
    has = λ x a l. let (j, i, e) = label_there o h x a in ap (in_row r) (sym e) ∙ g.has j i (rw (sym e) at l);
  }

-- ---- one node after another

-- the words of the first m nodes
pub record Tightened (n m : ℕ) (sets : List ℕ) (own : List Bool) (c : ℕ → ℕ → ℤ) (taken : List ℕ) (prices : List ℤ) (sets' : List ℕ) (own' : List Bool) : Type 0 where
  pub size_sets : length sets' ≡ 64
  pub size_own : length own' ≡ 64
  pub fit : Words sets'
  pub tight : Tight m sets own c taken prices sets' own'

pub tightened_none : {n : ℕ} {sets : List ℕ} {own : List Bool} {c : ℕ → ℕ → ℤ} {taken : List ℕ} {prices : List ℤ} → Tightened n 0 sets own c taken prices (replicate 64 0) (replicate 64 false)
tightened_none = record { size_sets = refl; size_own = refl; fit = words_none 64; tight = record { is = λ u k h. absurd (omega arith); has = λ u k h. absurd (omega arith) } }

module _ {n m : ℕ} {sets : List ℕ} {own : List Bool} {c : ℕ → ℕ → ℤ} {taken : List ℕ} {prices : List ℤ} {sets' : List ℕ} {own' : List Bool} (g : Tightened n m sets own c taken prices sets' own') where
  pub tightened_more : m < 64 → {r : Row} → RowTight sets own c m (entry taken m) prices r → Tightened n (m + 1) sets own c taken prices (set sets' m r.word) (set own' m r.own)
  unfolding in_row opens
  tightened_more h {r} w = record {
    size_sets = simp length-set g.size_sets;
    size_own = simp length-set g.size_own;
    fit = words_set sets' m r.word g.fit w.fit;
    tight = record {
      is = λ u k l a. by-same u m
          (λ q. subst (λ (v : ℕ). (opens sets own v k ≡ true) × (net c prices v k ≤ℤ net c prices v (entry taken v))) (sym q) (w.is k (sym (here k) ∙ ap (λ (v : ℕ). opens (set sets' m r.word) (set own' m r.own) v k) (sym q) ∙ a)))
          (λ q. g.tight.is u k (omega arith) (sym (there u k q) ∙ a));
      has = λ u k l a b. by-same u m
          (λ q. subst (λ (v : ℕ). opens (set sets' m r.word) (set own' m r.own) v k ≡ true) (sym q)
          (here k ∙ w.has k (ap (λ (v : ℕ). opens sets own v k) (sym q) ∙ a) (subst (λ (v : ℕ). net c prices v k ≤ℤ net c prices v (entry taken v)) q b)))
          (λ q. there u k q ∙ g.tight.has u k (omega arith) a b);
    };
  }
    where
      here : (k : ℕ) → opens (set sets' m r.word) (set own' m r.own) m k ≡ in_row r k
      here k = rw (get_or-set_same sets' m r.word 0 (omega (arith, g.size_sets)), get_or-set_same own' m r.own false (omega (arith, g.size_own))) refl

      there : (u k : ℕ) → (u ≡ m → ⊥) → opens (set sets' m r.word) (set own' m r.own) u k ≡ opens sets' own' u k
      there u k d = rw (get_or-set_other sets' m u r.word 0 d, get_or-set_other own' m u r.own false d) refl

-- ---- labels without a price

-- of the first i labels those that have none
pub record Untagged (prices : List ℤ) (idle i : ℕ) : Type 0 where
  pub fit : idle < 2 ^ 64
  pub is : (l : ℕ) → bit idle l ≡ true → (l < i) × (price prices l ≡ pos 0)
  pub has : (l : ℕ) → l < i → price prices l ≡ pos 0 → bit idle l ≡ true

pub untagged_none : (prices : List ℤ) → Untagged prices 0 0
untagged_none prices = record { fit = lit< tt; is = λ l a. absurd (differ a (bit_zero l)); has = λ l h. absurd (omega arith) }

module _ {prices : List ℤ} {idle i : ℕ} (g : Untagged prices idle i) where
  pub untagged_past : (price prices i ≡ pos 0 → ⊥) → Untagged prices idle (i + 1)
  untagged_past n = record {
    fit = g.fit;
    is = λ l a. let (h, e) = g.is l a in (omega arith, e);
    has = λ l h e. by-same l i (λ q. absurd (n (rw q at e))) (λ q. g.has l (omega arith) e);
  }

  pub untagged_more : i < 64 → price prices i ≡ pos 0 → Untagged prices (bit_or idle (2 ^ i)) (i + 1)
  untagged_more h e = record {
    fit = or_lt 64 idle (2 ^ i) g.fit (power_fits i h);
    is = λ l a. ⊎_elim (λ b. let (k, e) = g.is l b in (omega arith, e)) (λ b. let q = bit_only i l b in (omega arith, rw q e)) (or_split (bit idle l) (bit (2 ^ i) l) (sym (bit_or_lem idle (2 ^ i) l) ∙ a));
    has = λ l k z. by-same l i
        (λ q. rw q (bit_or_lem idle (2 ^ i) i ∙ right_true (bit idle i) (bit_own i)))
        (λ q. bit_or_lem idle (2 ^ i) l ∙ left_true (bit (2 ^ i) l) (g.has l (omega arith) z));
  }
