-- Labellings and matchings in the order of their positions, compared from node 0 on (document 02, wish 4).
use Rattle.std.specs.Prelude.{◌≡◌, Bool, cond, ◌&&◌, List, [], ◌∷◌, ◌++◌, map, ℕ, zero, suc, ◌<◌, ltb, get_or}
use Rattle.integers.specs.Places.{range}
use Rattle.integers.specs.Checks.{below}
use Rattle.instance.specs.Instance.{Instance}
use Rattle.rules.specs.Costs.{position}
use Rattle.rules.specs.Rounding.{free}

-- of a list those that pass a test, and what f makes of each number, one list after another
unfoldable pub passing {ℓ} : {A : Type ℓ} → (A → Bool) → List A → List A
passing t [] = []
passing t (x ∷ l) = cond (t x) (x ∷ passing t l) (passing t l)

unfoldable pub joined {ℓ} : {A : Type ℓ} → (ℕ → List A) → List ℕ → List A
joined f [] = []
joined f (k ∷ l) = f k ++ joined f l

module _ (I : Instance) where
  -- a position for each node, whose label is 255 or no lower node's
  unfoldable pub is_matching : List ℕ → Bool
  is_matching x = below I.node_count (λ u. ltb (position x u) (I.degree u) && free I x u (position x u))

  -- the positions of m nodes from u on: u at its first position beside all that the others can have, then at its second, and so on
  unfoldable pub labellings_from : ℕ → ℕ → List (List ℕ)
  labellings_from u zero = [] ∷ []
  labellings_from u (suc m) = let others = labellings_from (suc u) m in joined (λ k. map (λ x. k ∷ x) others) (range 0 (I.degree u))

  -- "a labelling picks one position for each node"
  unfoldable pub labellings : List (List ℕ)
  labellings = labellings_from 0 I.node_count

  unfoldable pub matchings : List (List ℕ)
  matchings = passing is_matching labellings

  -- "the matching smallest when positions are compared from node 0 on", and the empty list where there is none
  unfoldable pub smallest : List ℕ
  smallest = get_or matchings 0 []

  -- x comes before y: at the first node where they differ it has the smaller position
  pub record Before (x y : List ℕ) : Type 0 where
    pub node : ℕ
    pub inside : node < I.node_count
    pub same : (w : ℕ) → w < node → position x w ≡ position y w
    pub smaller : position x node < position y node
