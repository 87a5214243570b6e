-- Labels and their slots: a label below 64 is a slot of all nodes, and 255 one of each node's own.
-- Assumes nothing.
use mathlib.Core.Path.{◌≡◌, refl, sym, ◌∙◌, subst}
use mathlib.Core.Bool.{Bool, true, false, ◌&&◌}
use mathlib.Core.List.{List}
use mathlib.Core.Logic.{◌⊎◌, inl, inr, ⊎_elim}
use Prim.Native.Nat.{ℕ, ◌+◌, ◌<◌}
use native.Mathlib.Omega.{arith}
use borrow.Author.Tests.{lt-ltb, eqb-true, ltb-true}
use lib.Dec.{eqb, ltb}
use Rattle.integers.specs.Words.{bit}
use Rattle.integers.proofs.Places.{by-test, if-true, and_true}
use Rattle.assignment.proofs.Counts.{differ}
use Rattle.placing.specs.Words.{entry, flag, opens, slot_of}

-- the two kinds of labels: below 64, and the 255 that any number of nodes may take
abbrev pub Kinds : ℕ → Type 0
Kinds l = (l < 64) ⊎ (l ≡ 255)

module _ (sets : List ℕ) (own : List Bool) (u : ℕ) where
  pub opens_kinds : (l : ℕ) → opens sets own u l ≡ true → Kinds l
  unfolding opens
  opens_kinds l a = by-test (ltb l 64) (λ t. inl (ltb-true l 64 t)) (λ t. inr (eqb-true l 255 (and_true (eqb l 255) (flag own u) (rw t at a)).0))

  pub opens-bit : (l : ℕ) → l < 64 → opens sets own u l ≡ bit (entry sets u) l
  unfolding opens
  opens-bit l h = if-true (bit (entry sets u) l) (eqb l 255 && flag own u) (lt-ltb l 64 h)

  pub opens-own : opens sets own u 255 ≡ flag own u
  unfolding opens
  opens-own = refl

  -- a node without 255 takes labels of its word
  pub opens_solid : flag own u ≡ false → (l : ℕ) → opens sets own u l ≡ true → (l < 64) × (bit (entry sets u) l ≡ true)
  opens_solid f l a = ⊎_elim (λ h. (h, sym (opens-bit l h) ∙ a)) (λ e. absurd (differ (sym opens-own ∙ subst (λ k. opens sets own u k ≡ true) e a) f)) (opens_kinds l a)

pub slot_label : {l : ℕ} (u : ℕ) → l < 64 → slot_of l u ≡ l
unfolding slot_of
slot_label {l} u h = if-true l (64 + u) (lt-ltb l 64 h)

pub slot_own : {l : ℕ} (u : ℕ) → l ≡ 255 → slot_of l u ≡ 64 + u
unfolding slot_of
slot_own u e = rw e

pub same_slot : (u w : ℕ) {l m : ℕ} → l < 64 → l ≡ m → slot_of l u ≡ slot_of m w
same_slot u w h e = slot_label u h ∙ e ∙ sym (slot_label w (omega arith))

pub same_label : {u w l m : ℕ} → Kinds l → Kinds m → slot_of l u ≡ slot_of m w → ((l < 64) × (l ≡ m)) ⊎ (u ≡ w)
same_label {u} {w} (inl h) (inl k) e = inl (h, omega (arith, slot_label u h, slot_label w k))
same_label {u} {w} (inl h) (inr k) e = absurd (omega (arith, slot_label u h, slot_own w k))
same_label {u} {w} (inr h) (inl k) e = absurd (omega (arith, slot_own u h, slot_label w k))
same_label {u} {w} (inr h) (inr k) e = inr (omega (arith, slot_own u h, slot_own w k))
