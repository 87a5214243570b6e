-- The nodes that take a label, as a placing.
-- Assumes nothing.
use mathlib.Core.Path.{◌≡◌, ap, ◌∙◌}
use mathlib.Core.Bool.{Bool, true, false}
use mathlib.Core.List.{List}
use mathlib.Core.Logic.{⊎_elim}
use Prim.Native.Nat.{ℕ, ◌≤◌, ◌<◌}
use native.Mathlib.Omega.{arith}
use borrow.Author.Tests.{ltb-true, ltb-false}
use lib.Dec.{ltb}
use Rattle.integers.specs.Words.{bit}
use Rattle.integers.proofs.Places.{by-test}
use Rattle.assignment.specs.Rows.{But, Node, Placed}
use Rattle.placing.specs.Words.{entry, flag, opens, rows_of, All, Linked, Seated}
use Rattle.placing.proofs.Slots.{opens_kinds, opens-bit, opens-own, same_label}
use Rattle.placing.proofs.Linking.{linked_distinct, linked_word}

-- the nodes below m but the root, which takes no label, are placed
pub record Held (sets : List ℕ) (own : List Bool) (m root : ℕ) (taken holders reach : List ℕ) (free : ℕ) : Type 0 where
  pub linked : Linked sets taken holders reach free
  pub few : m ≤ 64
  pub placed : Placed (rows_of m sets own) (But (Node (rows_of m sets own)) root) (entry taken)
  pub inner : (u : ℕ) → u < 64 → entry taken u < 64 → u < m
  pub unplaced : 64 ≤ entry taken root

-- nodes from `since` on that have 255 take it
abbrev pub Vacant : List Bool → ℕ → ℕ → ℕ → List ℕ → Type 0
Vacant own since m root taken = (u : ℕ) → since ≤ u → u < m → (u ≡ root → ⊥) → flag own u ≡ true → entry taken u ≡ 255

module _ {sets : List ℕ} {own : List Bool} {m root : ℕ} {taken holders reach : List ℕ} {free : ℕ} (h : Held sets own m root taken holders reach free) where
  -- the holder of a label
  pub holder_of : (l : ℕ) → l < 64 → bit free l ≡ false
      → (entry holders l < m) × (entry holders l ≡ root → ⊥) × (entry taken (entry holders l) ≡ l) × (entry reach l ≡ entry sets (entry holders l))
  holder_of l k e = let (a, b, c) = h.linked.held l k e in (h.inner (entry holders l) a (omega arith), λ q. omega (arith, ap (entry taken) q, h.unplaced), b, c)

  -- a node holds its label
  pub held_by : (u : ℕ) → u < m → entry taken u < 64 → entry holders (entry taken u) ≡ u
  held_by u l k = (h.linked.taker u (omega (arith, h.few)) k).1

  -- the word at the label of a node is the node's
  pub word_at : (u : ℕ) → u < m → entry taken u < 64 → entry reach (entry taken u) ≡ entry sets u
  word_at u l k = linked_word h.linked u (omega (arith, h.few)) k

module _ {sets : List ℕ} (own : List Bool) {taken holders reach : List ℕ} {free : ℕ} (k : Linked sets taken holders reach free) where
  -- some of the nodes
  linked_placed : (m : ℕ) (D : ℕ → Type 0) → ((u : ℕ) → D u → u < 64) → ((u : ℕ) → D u → 64 ≤ entry taken u → (entry taken u ≡ 255) × (flag own u ≡ true)) → Placed (rows_of m sets own) D (entry taken)
  linked_placed m D few seat = record {
    allowed = may;
    distinct = λ u w d d' e. ⊎_elim (λ (h, q). linked_distinct k u w (few u d) (few w d') h q) (λ q. q)
        (same_label (opens_kinds sets own u (entry taken u) (may u d)) (opens_kinds sets own w (entry taken w) (may w d')) e);
  }
    where
      may : (u : ℕ) → D u → opens sets own u (entry taken u) ≡ true
      may u d = by-test (ltb (entry taken u) 64)
          (λ e. let h = ltb-true (entry taken u) 64 e in opens-bit sets own u (entry taken u) h ∙ k.inside u (few u d) h)
          (λ e. let (a, b) = seat u d (ltb-false (entry taken u) 64 e) in rw a (opens-own sets own u ∙ b))

  pub linked_all : {since n : ℕ} → n ≤ 64 → Seated own since n taken → All n sets own (entry taken)
  linked_all {since} {n} few s = linked_placed n (Node (rows_of n sets own)) (λ u d. omega arith) (λ u d. s.seat u d)

  -- all but the root, which takes none
  pub linked_held : {m root : ℕ} → m ≤ 64 → ((u : ℕ) → u < m → (u ≡ root → ⊥) → 64 ≤ entry taken u → (entry taken u ≡ 255) × (flag own u ≡ true))
      → ((u : ℕ) → u < 64 → entry taken u < 64 → u < m) → 64 ≤ entry taken root → Held sets own m root taken holders reach free
  linked_held {m} {root} few seat inner none = record {
    linked = k;
    few = few;
    placed = linked_placed m (But (Node (rows_of m sets own)) root) (λ u d. omega (arith, d.0)) (λ u d. seat u d.0 d.1);
    inner = inner;
    unplaced = none;
  }
