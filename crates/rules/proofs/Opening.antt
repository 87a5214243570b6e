-- What an opening answers and leaves, case by case, for the code and whoever calls it.
-- Assumes nothing.
use mathlib.Core.Path.{◌≡◌, sym, ap, ◌∙◌}
use mathlib.Core.Bool.{true, false, cond, ◌&&◌}
use mathlib.Core.List.{List, [], ◌∷◌}
use Prim.Native.Nat.{ℕ, ◌+◌, ◌*◌}
use native.Mathlib.Omega.{arith}
use borrow.Author.Tests.{eq-eqb, ne_eqb, eqb-true}
use lib.Dec.{eqb}
use lib.ListN.{length, replicate}
use lib.IntN.{ℤ, pos}
use Rattle.integers.specs.Places.{tabulate}
use Rattle.integers.specs.Checks.{first_failure}
use Rattle.integers.proofs.Places.{if-true, if-false, and_true}
use Rattle.integers.proofs.Checks.{failure_append}
use Rattle.instance.specs.Bytes.{price_at}
use Rattle.instance.specs.Instance.{Instance, node_cells, edge_cells}
use Rattle.instance.specs.Sheet.{instance_of, node_prices_at, edge_prices_at, checks, refusal_of}
use Rattle.instance.proofs.Shown.{checks-numbered}
use Rattle.rules.specs.Costs.{Buffers, opened}
use Rattle.rules.specs.Calls.{lengths_ok, open_refusal, open_of}

module _ (s : List ℕ) (b : Buffers) where
  abbrev I : Instance
  I = instance_of s

  pub by_checks : open_refusal s b ≡ cond (eqb (refusal_of s) 0) (cond (lengths_ok I b) 0 8) (refusal_of s)
  unfolding open_refusal refusal_of first_failure
  by_checks = failure_append (checks s) ((lengths_ok I b, 8) ∷ []) (checks-numbered s)

  -- refused with k: nothing is altered
  left_alone : (k : ℕ) → open_refusal s b ≡ k → (k ≡ 0 → ⊥) → record { buffers = b; refusal = k } ≡ open_of s b
  unfolding open_of
  left_alone k e h = sym (ap (λ (k : ℕ). record { buffers = cond (eqb k 0) (opened I) b; refusal = k }) e ∙ (λ t. record { buffers = if-false (opened I) b (ne_eqb k 0 h) t; refusal = k }))

  pub open_unread : (refusal_of s ≡ 0 → ⊥) → record { buffers = b; refusal = refusal_of s } ≡ open_of s b
  open_unread h = left_alone (refusal_of s) (by_checks ∙ if-false _ (refusal_of s) (ne_eqb (refusal_of s) 0 h)) h

  pub open_unfit : refusal_of s ≡ 0 → lengths_ok I b ≡ false → record { buffers = b; refusal = 8 } ≡ open_of s b
  open_unfit e h = left_alone 8 (by_checks ∙ if-true _ (refusal_of s) (eq-eqb (refusal_of s) 0 e) ∙ if-false 0 8 h) (λ z. omega arith)

  pub open_fills : refusal_of s ≡ 0 → lengths_ok I b ≡ true → record { buffers = opened I; refusal = 0 } ≡ open_of s b
  unfolding open_of
  open_fills e h =
      let k : open_refusal s b ≡ 0 = by_checks ∙ if-true _ (refusal_of s) (eq-eqb (refusal_of s) 0 e) ∙ if-true 0 8 h in
      sym (ap (λ (k : ℕ). record { buffers = cond (eqb k 0) (opened I) b; refusal = k }) k)

  -- the lengths that were found good
  pub lengths_are : lengths_ok I b ≡ true
      → (length b.nodes ≡ node_cells I) × (length b.labels ≡ node_cells I) × (length b.edges ≡ edge_cells I) × (length b.incumbent ≡ I.node_count)
  unfolding lengths_ok
  lengths_are e =
      let n = eqb (length b.nodes) (node_cells I) in
      let l = eqb (length b.labels) (node_cells I) in
      let c = eqb (length b.edges) (edge_cells I) in
      let k = eqb (length b.incumbent) I.node_count in
      let (e1, p4) = and_true (n && l && c) k e in
      let (e2, p3) = and_true (n && l) c e1 in
      let (p1, p2) = and_true n l e2 in
      (eqb-true (length b.nodes) (node_cells I) p1, eqb-true (length b.labels) (node_cells I) p2, eqb-true (length b.edges) (edge_cells I) p3, eqb-true (length b.incumbent) I.node_count p4)

  -- what was filled is what opening leaves
  pub filled_opened : {nodes labels edges : List ℤ} {incumbent : List ℕ} {np ep : ℕ} → np ≡ node_prices_at s → ep ≡ edge_prices_at s → lengths_ok I b ≡ true
      → nodes ≡ tabulate (length b.nodes) (λ i. price_at s (np + 4 * i)) → labels ≡ replicate (length b.labels) (pos 0)
      → edges ≡ tabulate (length b.edges) (λ i. price_at s (ep + 4 * i)) → incumbent ≡ replicate (length b.incumbent) 255
      → record { nodes = nodes; labels = labels; edges = edges; incumbent = incumbent } ≡ opened I
  unfolding opened instance_of
  filled_opened {np = np} {ep = ep} hn he h en el ee ek =
      let (n, l, c, k) = lengths_are h in
      λ t. record {
        nodes = (en ∙ (λ j. tabulate (n j) (λ i. price_at s (hn j + 4 * i)))) t;
        labels = (el ∙ ap (λ (m : ℕ). replicate m (pos 0)) l) t;
        edges = (ee ∙ (λ j. tabulate (c j) (λ i. price_at s (he j + 4 * i)))) t;
        incumbent = (ek ∙ ap (λ (m : ℕ). replicate m 255) k) t;
      }
