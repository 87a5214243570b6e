-- What a placing costs, and prices of the slots by which none is cheaper than another.
use Rattle.std.specs.Prelude.{◌≡◌, ℕ, ◌<◌, ℤ, pos, ◌+ℤ◌, ◌≤ℤ◌}
use Rattle.integers.specs.Places.{total}
use Rattle.assignment.specs.Rows.{Rows, Node, Placed, Free}

-- c u k is what node u pays for position k
module _ (I : Rows) (c : ℕ → ℕ → ℤ) where
  unfoldable pub cost_of : (ℕ → ℕ) → ℤ
  cost_of p = total I.nodes (λ u. c u (p u))

  -- with the price of the slot
  abbrev pub net : (ℕ → ℤ) → ℕ → ℕ → ℤ
  net w u k = c u k +ℤ w (I.slot u k)

  -- each node is where it pays least with the prices w; no price is below 0, and a slot that no node takes has none
  pub record Balanced (w : ℕ → ℤ) (p : ℕ → ℕ) : Type 0 where
    pub placed : Placed I (Node I) p
    pub least : (u k : ℕ) → Node I u → I.may u k → net w u (p u) ≤ℤ net w u k
    pub floor : (l : ℕ) → pos 0 ≤ℤ w l
    pub idle : (l : ℕ) → l < I.slots → Free I (Node I) p l → w l ≡ pos 0
