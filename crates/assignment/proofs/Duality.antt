-- Prices by which each node is where it pays least: no placing costs less, and one that costs no more is balanced by the same prices.
-- Assumes nothing.
use mathlib.Core.Path.{◌≡◌, sym, ◌∙◌}
use Prim.Native.Nat.{ℕ, ◌<◌}
use lib.IntN.{ℤ, pos, neg_ℤ, ◌+ℤ◌}
use lib.Signed.{◌≤ℤ◌}
use Rattle.integers.specs.Places.{total}
use Rattle.integers.proofs.Parts.{linear, add, neg}
use Rattle.integers.proofs.Totals.{total_ext, total_le, total_add}
use Rattle.assignment.specs.Rows.{Rows, Node, Placed, Free}
use Rattle.assignment.specs.Prices.{cost_of, net, Balanced}
use Rattle.assignment.proofs.Sums.{total_same, total_taken, total_part, total_idle}

module _ (I : Rows) (inside : (u k : ℕ) → Node I u → I.may u k → I.slot u k < I.slots) (c : ℕ → ℕ → ℤ) (w : ℕ → ℤ) where
  -- the prices, each below 0
  off : ℕ → ℤ
  off l = neg_ℤ (w l)

  -- of a placing: what it costs with the prices, and the prices that it takes
  module _ {q : ℕ → ℕ} (m : Placed I (Node I) q) where
    slots_inside : (u : ℕ) → u < I.nodes → I.slot u (q u) < I.slots
    slots_inside u h = inside u (q u) h (m.allowed u h)

    taken_off : ℤ
    taken_off = total I.nodes (λ u. off (I.slot u (q u)))

    -- the nets together are the cost and the prices taken
    nets : cost_of I c q ≡ total I.nodes (λ u. net I c w u (q u)) +ℤ taken_off
    unfolding cost_of off taken_off
    nets = total_ext I.nodes (λ u. c u (q u)) (λ u. net I c w u (q u) +ℤ off (I.slot u (q u)))
        (λ u h. let a = c u (q u) in let b = w (I.slot u (q u)) in omega (linear, add a b, add (a +ℤ b) (neg_ℤ b), neg b))
        ∙ total_add I.nodes (λ u. net I c w u (q u)) (λ u. off (I.slot u (q u)))

  module _ {p : ℕ → ℕ} (b : Balanced I c w p) where
    low : (l : ℕ) → off l ≤ℤ pos 0
    unfolding off
    low l = let h = b.floor l in omega (linear, neg (w l))

    -- it takes all prices
    all_off : total I.slots off ≡ taken_off b.placed
    unfolding off taken_off
    all_off = total_taken I.slots I.nodes (λ u. I.slot u (p u)) off (slots_inside b.placed) b.placed.distinct
        (λ l h f. let e = b.idle l h (λ u d q. f u d q) in rw e (omega (linear, neg (pos 0))))

    module _ {q : ℕ → ℕ} (m : Placed I (Node I) q) where
      abbrev N : ℤ
      N = total I.nodes (λ u. net I c w u (p u))

      abbrev N' : ℤ
      N' = total I.nodes (λ u. net I c w u (q u))

      nets_le : N ≤ℤ N'
      nets_le = total_le I.nodes (λ u. net I c w u (p u)) (λ u. net I c w u (q u)) (λ u h. b.least u (q u) h (m.allowed u h))

      part : total I.slots off ≤ℤ taken_off m
      unfolding taken_off
      part = total_part I.slots I.nodes (λ u. I.slot u (q u)) off low (slots_inside m) m.distinct

      -- no more prices taken than there are: a slot that it leaves has none
      left_over : taken_off m ≤ℤ total I.slots off → (s : ℕ) → s < I.slots → Free I (Node I) q s → w s ≡ pos 0
      unfolding off taken_off
      left_over t s h free = let z = total_idle I.slots I.nodes (λ u. I.slot u (q u)) off low (slots_inside m) m.distinct t s h (λ u d. free u d) in omega (linear, neg (w s))

      -- no placing costs less
      pub cheapest : cost_of I c p ≤ℤ cost_of I c q
      cheapest =
          let e = nets b.placed in let f = nets m in let g = all_off in let h = nets_le in let k = part in
          omega (linear, add N (taken_off b.placed), add N' (taken_off m))

      -- one that costs no more is where each node pays least, and leaves no price
      pub cheapest_balanced : cost_of I c q ≤ℤ cost_of I c p → Balanced I c w q
      cheapest_balanced l =
          let e = nets b.placed in let f = nets m in let g = all_off in let h = nets_le in let k = part in
          let same = total_same I.nodes (λ u. net I c w u (p u)) (λ u. net I c w u (q u)) (λ u h. b.least u (q u) h (m.allowed u h))
          (omega (linear, add N (taken_off b.placed), add N' (taken_off m))) in
          record {
            placed = m;
            least = λ u j h a. rw (sym (same u h)) (b.least u j h a);
            floor = b.floor;
            idle = left_over (omega (linear, add N (taken_off b.placed), add N' (taken_off m)));
          }
