-- Nodes that each take one slot of their row; no slot is taken twice. A label is a slot. A label that any number of nodes may take is a slot
-- for each of them, which no other node has.
use Rattle.std.specs.Prelude.{◌≡◌, Bool, true, false, not, cond, ◌&&◌, ◌||◌, ℕ, zero, suc, ◌+◌, ◌<◌, eqb}

pub record Rows : Type 1 where
  pub nodes : ℕ
  pub slots : ℕ
  -- the slot that node u has at position k
  pub slot : ℕ → ℕ → ℕ
  -- whether u may take position k: its row's length, and what else is asked of a cell
  pub may : ℕ → ℕ → Type 0

-- a set of places, by a test
abbrev pub In : (ℕ → Bool) → ℕ → Type 0
In t i = t i ≡ true

-- all but one
abbrev pub But : (ℕ → Type 0) → ℕ → ℕ → Type 0
But D x i = D i × (i ≡ x → ⊥)

unfoldable pub but : (ℕ → Bool) → ℕ → ℕ → Bool
but t x i = t i && not (eqb i x)

-- how many places below n pass a test
unfoldable pub count : ℕ → (ℕ → Bool) → ℕ
count zero t = 0
count (suc n) t = count n t + cond (t n) 1 0

-- whether some place below n passes a test
unfoldable pub some : ℕ → (ℕ → Bool) → Bool
some zero t = false
some (suc n) t = some n t || t n

-- position k at u, and p elsewhere
unfoldable pub put : (ℕ → ℕ) → ℕ → ℕ → ℕ → ℕ
put p u k w = cond (eqb w u) k (p w)

module _ (I : Rows) where
  abbrev pub Node : ℕ → Type 0
  Node u = u < I.nodes

  -- p has a position for each node of D, and no two of them the same slot
  pub record Placed (D : ℕ → Type 0) (p : ℕ → ℕ) : Type 0 where
    pub allowed : (u : ℕ) → D u → I.may u (p u)
    pub distinct : (u w : ℕ) → D u → D w → I.slot u (p u) ≡ I.slot w (p w) → u ≡ w

  -- no node of D takes the slot l
  abbrev pub Free : (ℕ → Type 0) → (ℕ → ℕ) → ℕ → Type 0
  Free D p l = (w : ℕ) → D w → I.slot w (p w) ≡ l → ⊥
