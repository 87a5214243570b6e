-- The places that have a label, node by node; and the positions whose label is not 255, which are all of a node's or all but its last.
-- Assumes nothing.
use mathlib.Core.Path.{◌≡◌, refl, sym, ap, ap₂, ◌∙◌}
use mathlib.Core.Bool.{Bool, cond}
use mathlib.Core.List.{◌++◌, map, map-map, map-append}
use mathlib.Core.Logic.{⊎_elim}
use Prim.Native.Nat.{ℕ, zero, suc, ◌+◌, ◌-◌, ◌<◌}
use native.Mathlib.Omega.{arith}
use lib.Dec.{eqb}
use Rattle.integers.specs.Places.{range, select, offset}
use Rattle.integers.proofs.Places.{select_mem, map-ext}
use Rattle.instance.specs.Instance.{Instance, exclusive, first}
use Rattle.instance.specs.Readable.{Proper}
use Rattle.instance.proofs.LaidOut.{below_exclusive}
use Rattle.index.specs.Index.{having}
use Rattle.schedule.specs.Sweep.{Entry, each, positions, labelled, exclusive_positions}
use Rattle.schedule.proofs.WritingLaws.{mem_below, each_next}
use Rattle.schedule.proofs.CountLaws.{passing, select_part, all_but_last}

module _ (I : Instance) (l : ℕ) where
  pub label_list : (g : ℕ → Entry) (f : ℕ → ℕ → Entry) (n : ℕ) → ((u k : ℕ) → u < n → k < I.degree u → g (first I u + k) ≡ f u k)
      → each (λ u. map (f u) (labelled I l u)) (range 0 n) ≡ map g (having I.label l (first I n))
  unfolding each range select first offset labelled positions
  label_list g f zero h = refl
  label_list g f (suc n) h =
      let t : ℕ → Bool = (λ i. eqb (I.label i) l) in
      let a = first I n in
      let own = passing t I.degree n in
      each_next (λ u. map (f u) (labelled I l u)) n
      ∙ ap₂ ◌++◌ (label_list g f n (λ u k b. h u k (omega arith))) (sym (map-map g (λ k. a + k) own ∙ map-ext (λ k. g (a + k)) (f n) own (λ k m.
      h n k (omega arith) (mem_below (select_mem (λ k. t (a + k)) (range 0 (I.degree n)) m).0))))
      ∙ sym (ap (map g) (select_part t I.degree n) ∙ map-append g (having I.label l a) (map (λ k. a + k) own))

module _ (I : Instance) (p : Proper I) where
  pub exclusive_positions_lem : (u : ℕ) → u < I.node_count → exclusive_positions I u ≡ range 0 (cond (exclusive (I.label (first I u + (I.degree u - 1)))) (I.degree u) (I.degree u - 1))
  unfolding exclusive_positions positions
  exclusive_positions_lem u h =
      all_but_last (λ k. exclusive (I.label (first I u + k))) (I.degree u) (p.labelled u h) (λ k b.
      ⊎_elim (λ (c : I.label (first I u + k) < I.label_count). below_exclusive p c)
      (λ (c : (I.label (first I u + k) ≡ 255) × (suc k ≡ I.degree u)). absurd (let e = c.1 in omega arith))
      (p.known u k h (omega arith)))
