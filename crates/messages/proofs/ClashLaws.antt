-- Where a label meets an unusable cell among the labels of a node, which rise, and what a mask of them says.
-- Assumes nothing.
use Rattle.std.proofs.Common.{◌≡◌, ℕ, suc, ◌+◌, ◌-◌, ◌%◌, ◌^◌, ◌<◌, ◌≤◌, true, false, not, eqb, ltb, Option, None, Some, List, length, get_or, take, drop, length-drop, get_or-drop, sym, refl, subst, ap, ◌∙◌, arith, eq-eqb, rules, ltb-false, ltb-true, ne_eqb, eqb-true}
use borrow.Author.Tests.{eqb-false}
use lib.Bits.{bit_and, bit_or}
use Rattle.integers.specs.Words.{bit}
use Rattle.integers.proofs.Places.{by-test, and_both, left_true, right_true}
use Rattle.integers.proofs.Counting.{climbs}
use Rattle.integers.proofs.Rows.{tail_part}
use Rattle.integers.proofs.Words.{bit_or_lem, bit_and_lem, bit_own, some_bit}
use Rattle.instance.specs.Instance.{usable}
use Rattle.instance.proofs.UsableCells.{distinct_usable}
use Rattle.std.specs.List.{AllWithin, HoldsAt}
use Rattle.std.specs.Option.{MatchOption}
use Rattle.messages.specs.Clash.{Rising, Skips, bit_at, Masks}

-- ---- the cells of a label

module _ {labels : List ℕ} {label : ℕ} where
  pub skips_none : ((p : ℕ) → p < length labels → usable label (get_or labels p 0) ≡ true) → Skips labels label None
  skips_none u = record { inside = search rules; passed = u }

  -- an unusable cell has the label, which stands at one place
  pub skips_here : {at : ℕ} → Rising labels → at < length labels → usable label (get_or labels at 0) ≡ false → Skips labels label (Some at)
  skips_here {at} r h u =
      record {
        inside = h;
        passed = λ p k. by-test (eqb p at) (λ z. ap (λ (i : ℕ). usable label (get_or labels i 0)) (eqb-true p at z) ∙ u ∙ sym (ap not z))
            (λ z. distinct_usable label (get_or labels p 0) (λ e. apart p k (eqb-false p at z) (sym e ∙ here)) ∙ sym (ap not z));
      }
    where
      here : label ≡ get_or labels at 0
      here = by-test (eqb label (get_or labels at 0)) (eqb-true label (get_or labels at 0)) (λ z. absurd (opposite (sym (distinct_usable label (get_or labels at 0) (eqb-false label (get_or labels at 0) z)) ∙ u)))
        where
          opposite : true ≡ false → ⊥
          opposite e = let z : ◌≡◌ {A = ℕ} 0 1 = cc in omega arith

      apart : (p : ℕ) → p < length labels → (p ≡ at → ⊥) → get_or labels p 0 ≡ get_or labels at 0 → ⊥
      apart p k n e =
          by-test (ltb p at) (λ t. let s = climbs (λ i. get_or labels i 0) (length labels) r p at (ltb-true p at t) h in omega arith)
          (λ t. let l : at ≤ p = ltb-false p at t in let s = climbs (λ i. get_or labels i 0) (length labels) r at p (omega arith) k in omega arith)

  -- what `position` finds
  pub skips_found : (r : Option ℕ) → Rising labels
      → MatchOption r (AllWithin (λ k. usable label k ≡ true) labels 0 (length labels)) (λ i. (i < length labels) × HoldsAt (λ k. usable label k ≡ false) labels i × AllWithin (λ k. usable label k ≡ true) labels 0 i)
      → Skips labels label r
  skips_found None e h = skips_none (λ p k. h p 0 (omega arith) k)
  skips_found (Some at) e h = skips_here e h.0 (h.1 0)

-- among the labels from a place on
module _ (labels : List ℕ) (from : ℕ) where
  abbrev onward : List ℕ
  onward = take (length labels - from) (drop from labels)

  pub onward_rise : Rising labels → Rising onward
  onward_rise r =
      subst Rising (sym (tail_part from labels))
      (λ i h. let z : from + suc i ≡ suc (from + i) = omega arith in
      let a = get_or-drop from labels i 0 in
      let b = get_or-drop from labels (suc i) 0 ∙ ap (λ (k : ℕ). get_or labels k 0) z in
      let s = r (from + i) (omega (arith, h, length-drop from labels)) in omega (arith, a, b, s))

  pub skips_onward : Rising labels → {label p : ℕ} → Skips onward label (Some p) → Skips labels label (Some (from + p))
  skips_onward r {label} {p} s =
      let t : Skips (drop from labels) label (Some p) = subst (λ (l : List ℕ). Skips l label (Some p)) (tail_part from labels) s in
      let i : p < length (drop from labels) = t.inside in
      skips_here r (omega (arith, i, length-drop from labels)) (ap (usable label) (sym (get_or-drop from labels p 0)) ∙ t.passed p i ∙ ap not (eq-eqb p p refl))

-- with none it is as if the place past all labels were skipped
pub skips_past : {labels : List ℕ} {label : ℕ} → Skips labels label None → (p : ℕ) → p < length labels → usable label (get_or labels p 0) ≡ not (eqb p (length labels))
skips_past {labels} s p h = s.passed p h ∙ sym (ap not (ne_eqb p (length labels) (λ e. omega arith)))

-- ---- a mask of labels

-- of the first p
pub record Masked (labels : List ℕ) (mask p : ℕ) : Type 0 where
  pub inside : p ≤ length labels
  pub has : (i : ℕ) → i < p → bit mask (get_or labels i 0 % 64) ≡ true

pub masked_more : {labels : List ℕ} {mask p : ℕ} → Masked labels mask p → p < length labels → Masked labels (bit_or mask (bit_at (get_or labels p 0))) (p + 1)
masked_more {labels} {mask} {p} m h =
    let at : ℕ → ℕ = λ i. get_or labels i 0 % 64 in
    record {
      inside = omega arith;
      has = λ i l. bit_or_lem mask (2 ^ at p) (at i) ∙ by-test (eqb i p)
          (λ e. right_true (bit mask (at i)) (ap (λ (j : ℕ). bit (2 ^ at p) (at j)) (eqb-true i p e) ∙ bit_own (at p)))
          (λ e. let d : i ≡ p → ⊥ = eqb-false i p e in left_true (bit (2 ^ at p) (at i)) (m.has i (omega arith)));
    }

-- where it lacks the bit of a label, each cell of the label is usable
pub masked_out : (labels : List ℕ) (mask : ℕ) → Masks labels mask → (label : ℕ) → bit_and mask (bit_at label) ≡ 0 → Skips labels label None
masked_out labels mask m label z =
    skips_none (λ p h. distinct_usable label (get_or labels p 0)
    (λ e. let k = label % 64 in
    let b : bit mask k ≡ true = ap (λ (l : ℕ). bit mask (l % 64)) e ∙ m p h in
    some_bit (bit_and mask (2 ^ k)) k (bit_and_lem mask (2 ^ k) k ∙ and_both b (bit_own k)) z))
