-- What a readable sheet and the lent buffers are known by: the refusal case by case, and what follows where there is none.
-- Assumes nothing.
use Rattle.std.proofs.Common.{◌≡◌, ℕ, ◌≤◌, Bool, true, false, cond, ◌&&◌, ◌||◌, eqb, List, length, ℤ, sym, ap, ◌∙◌, arith, eq-eqb, ne_eqb, eqb-true}
use Rattle.integers.specs.Sum.{Within}
use Rattle.integers.specs.Places.{every}
use Rattle.integers.specs.Checks.{within, first_failure}
use Rattle.integers.proofs.Places.{by-test, if-true, if-false, and_true}
use Rattle.integers.proofs.Checks.{failure_append}
use Rattle.instance.specs.Instance.{Instance}
use Rattle.instance.specs.Sheet.{instance_of, checks, refusal_of}
use Rattle.instance.proofs.Shown.{checks-numbered}
use Rattle.rules.specs.Costs.{Buffers, in_range}
use Rattle.rules.specs.Matchings.{is_matching}
use Rattle.rules.specs.Calls.{lengths_ok, incumbent_ok, lent_checks, lent_refusal, cost_limit}
use Rattle.instance.specs.declared.sheet.Sheet.{Sheet}
use Rattle.instance.proofs.Sheets.{nodes_is, positions_is, cells_is}
use Rattle.messages.specs.Lent.{NodeFits, EdgeFits}
use Rattle.messages.specs.EdgeRecord.{CostsWithin}
use Rattle.messages.proofs.RowLaws.{all_within}
use Rattle.rules.proofs.Opening.{lengths_are}

-- ---- the refusal, case by case

-- buffers that were found good, of a readable sheet
pub record LentWell (s : List ℕ) (limit : ℕ) (b : Buffers) : Type 0 where
  pub readable : refusal_of s ≡ 0
  pub lengths : lengths_ok (instance_of s) b ≡ true
  pub ranged : in_range limit b ≡ true
  pub incumbent : incumbent_ok (instance_of s) b.incumbent ≡ true
  pub kept : length b.incumbent ≡ (instance_of s).node_count

none_past : (t : Bool) (x k : ℕ) → (k ≡ 0 → ⊥) → cond t x k ≡ 0 → (t ≡ true) × (x ≡ 0)
none_past true x k h e = (λ _. true, e)
none_past false x k h e = absurd (h e)

module _ (s : List ℕ) (limit : ℕ) (b : Buffers) where
  abbrev I : Instance
  I = instance_of s

  abbrev own : ℕ
  own = cond (lengths_ok I b) (cond (in_range limit b) (cond (incumbent_ok I b.incumbent) 0 10) 9) 8

  lent_by : lent_refusal s limit b ≡ cond (eqb (refusal_of s) 0) own (refusal_of s)
  unfolding lent_refusal lent_checks refusal_of first_failure
  lent_by = failure_append (checks s) (lent_checks I limit b) (checks-numbered s)

  pub lent_unread : (refusal_of s ≡ 0 → ⊥) → refusal_of s ≡ lent_refusal s limit b
  lent_unread h = sym (lent_by ∙ if-false own (refusal_of s) (ne_eqb (refusal_of s) 0 h))

  lent_own : refusal_of s ≡ 0 → lent_refusal s limit b ≡ own
  lent_own e = lent_by ∙ if-true own (refusal_of s) (eq-eqb (refusal_of s) 0 e)

  pub lent_unfit : refusal_of s ≡ 0 → lengths_ok I b ≡ false → 8 ≡ lent_refusal s limit b
  lent_unfit e h = sym (lent_own e ∙ if-false _ 8 h)

  pub lent_far : refusal_of s ≡ 0 → lengths_ok I b ≡ true → in_range limit b ≡ false → 9 ≡ lent_refusal s limit b
  lent_far e h r = sym (lent_own e ∙ if-true _ 8 h ∙ if-false _ 9 r)

  module _ (e : refusal_of s ≡ 0) (h : lengths_ok I b ≡ true) (r : in_range limit b ≡ true) where
    pub lent_unmatched : incumbent_ok I b.incumbent ≡ false → 10 ≡ lent_refusal s limit b
    lent_unmatched k = sym (lent_own e ∙ if-true _ 8 h ∙ if-true _ 9 r ∙ if-false 0 10 k)

    pub lent_good : incumbent_ok I b.incumbent ≡ true → 0 ≡ lent_refusal s limit b
    lent_good k = sym (lent_own e ∙ if-true _ 8 h ∙ if-true _ 9 r ∙ if-true 0 10 k)

  -- the costs that were found good
  pub range_by : in_range limit b ≡ (every (within limit) b.nodes && every (within limit) b.labels && every (within limit) b.edges)
  unfolding in_range
  range_by = λ _. in_range limit b

  -- each list of costs by itself
  ranges : in_range limit b ≡ true → Within limit b.nodes × Within limit b.labels × Within limit b.edges
  ranges r =
      let n = every (within limit) b.nodes in
      let l = every (within limit) b.labels in
      let c = every (within limit) b.edges in
      let (e, z) = and_true (n && l) c (sym range_by ∙ r) in
      let (x, y) = and_true n l e in
      (all_within limit b.nodes x, all_within limit b.labels y, all_within limit b.edges z)

  -- what a node and an edge exchange
  pub within_of : in_range limit b ≡ true → CostsWithin limit b.nodes b.edges
  within_of r = let (x, y, z) = ranges r in record { of_nodes = x; of_edges = z }

  -- costs within a limit that the machine's sums bear fit
  pub fit_of : limit ≤ cost_limit → lengths_ok I b ≡ true → in_range limit b ≡ true → NodeFits s b.nodes × NodeFits s b.labels × EdgeFits s b.edges
  fit_of w h r =
      let (x, y, z) = ranges r in
      let (z1, z2, z3, z4) = lengths_are s b h in
      (record { size = z1; range = wider b.nodes x }, record { size = z2; range = wider b.labels y }, record { size = z3; range = wider b.edges z })
    where
      wider : (l : List ℤ) → Within limit l → Within cost_limit l
      wider l x i = omega (arith, x i)

  -- not refused: what a run and a report may count on
  pub lent_well : lent_refusal s limit b ≡ 0 → LentWell s limit b
  lent_well z =
      by-test (eqb (refusal_of s) 0)
      (λ t. let e = eqb-true (refusal_of s) 0 t in
      let (h, z1) = none_past (lengths_ok I b) (cond (in_range limit b) (cond (incumbent_ok I b.incumbent) 0 10) 9) 8 (λ x. omega arith) (sym (lent_own e) ∙ z) in
      let (r, z2) = none_past (in_range limit b) (cond (incumbent_ok I b.incumbent) 0 10) 9 (λ x. omega arith) z1 in
      let (k, z3) = none_past (incumbent_ok I b.incumbent) 0 10 (λ x. omega arith) z2 in
      let (l1, l2, l3, l4) = lengths_are s b h in
      record { readable = e; lengths = h; ranged = r; incumbent = k; kept = l4 })
      (λ t. let e : refusal_of s ≡ 0 = sym (if-false own (refusal_of s) t) ∙ sym lent_by ∙ z in
      let y : true ≡ false = sym (eq-eqb (refusal_of s) 0 e) ∙ t in
      let w : ◌≡◌ {A = ℕ} 0 1 = cc in absurd (omega arith))

-- ---- the incumbent's test by its two parts

pub incumbent_none : (J : Instance) (x : List ℕ) → every (eqb 255) x ≡ true → true ≡ incumbent_ok J x
unfolding incumbent_ok
incumbent_none J x e = sym (ap (λ (t : Bool). t || is_matching J x) e)

pub incumbent_some : (J : Instance) (x : List ℕ) → every (eqb 255) x ≡ false → is_matching J x ≡ incumbent_ok J x
unfolding incumbent_ok
incumbent_some J x e = sym (ap (λ (t : Bool). t || is_matching J x) e)

-- ---- the lengths by what reading found

module _ (q : Sheet) (b : Buffers) where
  pub lengths_by : lengths_ok (instance_of q.bytes.now) b
      ≡ (eqb (length b.nodes) q.positions && eqb (length b.labels) q.positions && eqb (length b.edges) q.cells && eqb (length b.incumbent) q.nodes)
  unfolding lengths_ok
  lengths_by =
      let p = sym (positions_is q) in
      let c = sym (cells_is q) in
      let n = sym (nodes_is q) in
      λ t. eqb (length b.nodes) (p t) && eqb (length b.labels) (p t) && eqb (length b.edges) (c t) && eqb (length b.incumbent) (n t)
