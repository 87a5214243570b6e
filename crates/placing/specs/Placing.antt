-- The call that places all nodes, or names a set that shows why they cannot be: "All marks placed, or why they cannot be" (document 02, wish 4).
use Rattle.std.specs.Prelude.{◌≡◌, Bool, true, cond, ◌&&◌, List, [], ◌∷◌, ◌++◌, ℕ, ◌+◌, ◌≤◌, ◌<◌, eqb, ltb, length, get_or}
use Rattle.integers.specs.Checks.{first_failure}
use Rattle.instance.specs.Instance.{Instance, exclusive, first}
use Rattle.instance.specs.Sheet.{instance_of, checks}
use Rattle.rules.specs.Costs.{Labelling, chosen}
use Rattle.rules.specs.Matchings.{matchings, smallest}
use Rattle.assignment.specs.Rows.{In, but, count, some}

-- a set of nodes as bytes: "1 for a member and 0 for the rest"
abbrev pub member : List ℕ → ℕ → Bool
member x u = eqb (get_or x u 0) 1

module _ (I : Instance) where
  -- whether some node of S has the label l
  unfoldable pub labelled : (ℕ → Bool) → ℕ → Bool
  labelled S l = some I.node_count (λ u. S u && some (I.degree u) (λ k. eqb (I.label (first I u + k)) l))

  -- x places the nodes of S: it has a position for each, and no two of them take the same label
  pub record Places (S : ℕ → Bool) (x : List ℕ) : Type 0 where
    pub labelling : Labelling I x
    pub distinct : (u w : ℕ) → In S u → In S w → I.label (chosen I x u) ≡ I.label (chosen I x w) → u ≡ w

  -- "a set of nodes that together have fewer labels than members, none of them with 255. The set is small: without any one of its nodes the rest of it can be placed."
  pub record Obstruction (x : List ℕ) : Type 0 where
    pub size : length x ≡ I.node_count
    pub flags : (u : ℕ) → u < I.node_count → get_or x u 0 ≤ 1
    pub solid : (u k : ℕ) → In (member x) u → k < I.degree u → exclusive (I.label (first I u + k)) ≡ true
    pub few : count I.label_count (labelled (member x)) < count I.node_count (member x)
    pub small : (w : ℕ) → In (member x) w → (y : List ℕ) × Places (but (member x) w) y

module _ (s : List ℕ) where
  abbrev I : Instance
  I = instance_of s

  -- "16 when no matching exists, after 8", which is for "n lent bytes"; ahead of them the sheet's own
  unfoldable pub own_checks : List ℕ → List (Bool × ℕ)
  own_checks out = (eqb (length out) I.node_count, 8) ∷ (ltb 0 (length (matchings I)), 16) ∷ []

  unfoldable pub place_refusal : List ℕ → ℕ
  place_refusal out = first_failure (checks s ++ own_checks out)

  -- "when placing succeeds it is the matching smallest when positions are compared from node 0 on"; a refusal alters nothing
  unfoldable pub placed_of : List ℕ → List ℕ
  placed_of out = cond (eqb (place_refusal out) 0) (smallest I) out

  -- What the call promises of its answer r and of the lent bytes, `out` before and `left` after. "Where several such sets exist any may be named": of the bytes at 16 it is left open
  -- which they name, and only what holds of the set is said. All else is an equation. 16 "alone among refusals writes".
  pub record Placed (out : List ℕ) (r : ℕ) (left : List ℕ) : Type 0 where
    pub answer : r ≡ place_refusal out
    pub bytes : (r ≡ 16 → ⊥) → left ≡ placed_of out
    pub named : r ≡ 16 → Obstruction I left
