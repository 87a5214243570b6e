-- A message between a node and a label by the two least costs that are known: the cost is one of theirs, what it gives is the rules' amount, and they are known afterwards.
-- Assumes nothing.
use Rattle.std.proofs.Common.{◌≡◌, ℕ, ◌+◌, ◌^◌, ◌<◌, ◌≤◌, cond, ◌&&◌, List, [], ◌∷◌, map, length, get_or, ℤ, pos, ◌+ℤ◌, ◌-ℤ◌, neg_ℤ, nat_abs, ◌<ℤ◌, int_lt, sym, refl, ap, ◌∙◌, subst, arith, eqb, eq-eqb}
use Rattle.std.proofs.lemmas.List.{get_or-set_same, get_or-set_other}
use mathlib.Core.List.{Memᴰ as Mem}
use Rattle.integers.specs.Checks.{within}
use Rattle.integers.specs.Least.{least_from, least_of}
use Rattle.integers.specs.Places.{others}
use Rattle.integers.specs.Rows.{add_at}
use Rattle.integers.specs.Share.{share, amount}
use Rattle.integers.specs.Sum.{Within}
use Rattle.integers.proofs.Least.{least_within}
use Rattle.integers.proofs.Parts.{linear, parts, add, sub, neg, abs}
use Rattle.integers.proofs.Places.{by_cond, mem_range, mem_select}
use Rattle.integers.proofs.Rows.{within_map}
use Rattle.integers.proofs.Share.{Toward, share_toward}
use Rattle.instance.specs.Instance.{Instance, first, node_cells}
use Rattle.rules.specs.Calls.{cost_limit}
use Rattle.rules.specs.Places.{node_places, label_places}
use Rattle.messages.specs.EdgeMessage.{unbounded}
use Rattle.messages.specs.LabelMessage.{label_move, label_moved, node_amount, label_amount, label_given, PlaceAsked}
use Rattle.messages.specs.Lows.{low_beside, given_by, lows_moved, Lowest, LowestFor, costs_for, places_for, start_for}
use Rattle.messages.specs.Records.{to_node}
use Rattle.messages.specs.declared.lows.Lows.{Lows}
use Rattle.messages.specs.declared.records.Flow.{Flow}
use Rattle.messages.specs.declared.records.Flow.TheVariants.{FromNode, ToNode}
use Rattle.messages.proofs.LabelMessageLaws.{place_in, node_fits, label_fits, label_shared}
use Rattle.messages.proofs.LowLaws.{lowest_moved}
use Rattle.messages.proofs.RowLaws.{least_of_within, neg_fits}
use Rattle.messages.proofs.UsableLaws.{least_bounded, least_below}

-- what a cost gives lies between 0 and its distance from the least beside it
given_toward : (cost low : ℤ) (r : ℕ) → Toward (given_by cost low r) (cost -ℤ low)
unfolding given_by
given_toward cost low r = by_cond (λ z. Toward z (cost -ℤ low)) (int_lt low unbounded) (λ _. share_toward (cost -ℤ low) r) (λ _. record { up = omega arith; down = omega arith })

given_below : (cost low : ℤ) (r : ℕ) → low <ℤ unbounded → given_by cost low r ≡ share (cost -ℤ low) r
unfolding given_by
given_below cost low r h = by_cond (λ z. z ≡ share (cost -ℤ low) r) (int_lt low unbounded) (λ _. refl) (λ f. absurd (omega (linear, f)))

-- against the least of some costs, if there are any, a cost gives its amount
given_amount : (cost : ℤ) (r : ℕ) (l : List ℤ) → Within cost_limit l → given_by cost (least_from unbounded l) r ≡ amount cost l r
unfolding given_by amount least_from
given_amount cost r [] h = refl
given_amount cost r (y ∷ ys) h =
    let m = least_of (y ∷ ys) in
    let e : least_from unbounded (y ∷ ys) ≡ m = least_bounded (y ∷ ys) h (omega arith) in
    ap (λ (z : ℤ). given_by cost z r) e
    ∙ given_below cost m r (omega (linear, abs m, least_of_within cost_limit (y ∷ ys) h))

-- what a move that was not refused leaves
pub moved_done : (limit : ℕ) (nodes labels : List ℤ) (i : ℕ) (p : ℤ) {n l : List ℤ} → label_move 0 n l ≡ label_moved limit nodes labels i p → (n ≡ add_at nodes i (neg_ℤ p)) × (l ≡ add_at labels i p)
unfolding label_moved
moved_done limit nodes labels i p {n} {l} =
    by_cond (λ z. label_move 0 n l ≡ z → (n ≡ add_at nodes i (neg_ℤ p)) × (l ≡ add_at labels i p))
    (within limit (get_or nodes i (pos 0) +ℤ neg_ℤ p) && within limit (get_or labels i (pos 0) +ℤ p))
    (λ _ e. (λ j. (e j).nodes, λ j. (e j).labels))
    (λ _ e. absurd (let z : 0 ≡ 13 = (λ j. (e j).refusal) in omega arith))

-- an amount turned round is no larger
pub turned_small : (flow : Flow) (p : ℤ) → nat_abs p ≤ 2 ^ 41 → nat_abs (cond (to_node flow) (neg_ℤ p) p) ≤ 2 ^ 41
turned_small FromNode p h = h
turned_small ToNode p h = neg_fits p h

-- the node, or the label, that a record's costs belong to
abbrev pub owner : Instance → Flow → ℕ → ℕ → ℕ
owner I flow u place = cond (to_node flow) (I.label place) u

-- what the cost at the place gives by the rules
abbrev pub amount_for : Instance → List ℤ → List ℤ → Flow → ℕ → ℕ → ℕ → ℤ
amount_for I nodes labels FromNode u place r = node_amount I nodes u place r
amount_for I nodes labels ToNode u place r = label_amount I labels place r

-- a cost of a list that one place of it was changed by
set_own : (l : List ℤ) (i : ℕ) (y : ℤ) → i < length l → get_or (add_at l i y) i (pos 0) ≡ get_or l i (pos 0) +ℤ y
set_own l i y h = get_or-set_same l i (get_or l i (pos 0) +ℤ y) (pos 0) h

set_other : (l : List ℤ) (i : ℕ) (y : ℤ) (j : ℕ) → (j ≡ i → ⊥) → get_or (add_at l i y) j (pos 0) ≡ get_or l j (pos 0)
set_other l i y j d = get_or-set_other l i j (get_or l i (pos 0) +ℤ y) (pos 0) d

pub costs_small : (flow : Flow) (nodes labels : List ℤ) (i : ℕ) → Within cost_limit nodes → Within cost_limit labels → nat_abs (costs_for flow nodes labels i) ≤ cost_limit
costs_small FromNode nodes labels i h g = h i
costs_small ToNode nodes labels i h g = g i

module _ (I : Instance) (nodes labels : List ℤ) (sizes : (length nodes ≡ node_cells I) × (length labels ≡ node_cells I)) (in_nodes : Within cost_limit nodes) (in_labels : Within cost_limit labels)
    {u k : ℕ} (share : ℕ) (asked : PlaceAsked I u k share) where
  abbrev place : ℕ
  place = first I u + k

  below : place < node_cells I
  below = omega (arith, place_in I asked.node asked.position nodes sizes.0, sizes.0)

  -- the place is one of those
  among : (flow : Flow) → Mem place (places_for I flow (owner I flow u place))
  unfolding node_places label_places
  among FromNode = mem_range (first I u) (I.degree u) place (omega arith) (omega (arith, asked.position))
  among ToNode = mem_select (λ i. eqb (I.label i) (I.label place)) (mem_range 0 (node_cells I) place (omega arith) (omega (arith, below))) (eq-eqb (I.label place) (I.label place) refl)

  -- the costs beside it, and that the least of them is within the limit if there is one
  abbrev beside : Flow → List ℤ
  beside flow = map (costs_for flow nodes labels) (others place (places_for I flow (owner I flow u place)))

  beside_within : (flow : Flow) → Within cost_limit (beside flow)
  beside_within FromNode = within_map cost_limit (λ i. get_or nodes i (pos 0)) (others place (node_places I u)) in_nodes
  beside_within ToNode = within_map cost_limit (λ i. get_or labels i (pos 0)) (others place (label_places I (I.label place))) in_labels

  least_small : (flow : Flow) → least_from (start_for flow) (beside flow) <ℤ unbounded → nat_abs (least_from (start_for flow) (beside flow)) ≤ cost_limit
  least_small FromNode h = least_below (beside FromNode) (beside_within FromNode) h
  least_small ToNode h = least_within cost_limit (pos 0) (beside ToNode) (omega arith) (beside_within ToNode)

  given_for : (flow : Flow) → given_by (costs_for flow nodes labels place) (least_from (start_for flow) (beside flow)) share ≡ amount_for I nodes labels flow u place share
  given_for FromNode = given_amount (get_or nodes place (pos 0)) share (beside FromNode) (beside_within FromNode)
  given_for ToNode =
      let x = get_or labels place (pos 0) in
      let m = least_from (pos 0) (beside ToNode) in
      let s = least_within cost_limit (pos 0) (beside ToNode) (omega arith) (beside_within ToNode) in
      given_below x m share (omega (linear, abs m, s)) ∙ label_shared I labels place share

  module _ (flow : Flow) {l : Lows} (low : LowestFor I nodes labels flow (owner I flow u place) l) where
    abbrev cost : ℤ
    cost = costs_for flow nodes labels place

    stands : low_beside l cost ≡ least_from (start_for flow) (beside flow)
    stands = sym (low.beside place (among flow))

    pub low_small : low_beside l cost <ℤ unbounded → nat_abs (low_beside l cost) ≤ cost_limit
    low_small = rw stands (least_small flow)

    pub given_is : given_by cost (low_beside l cost) share ≡ amount_for I nodes labels flow u place share
    given_is = ap (λ (z : ℤ). given_by cost z share) stands ∙ given_for flow

  -- it fits, and turned round it is what goes from the node
  pub amount_small : (flow : Flow) → nat_abs (amount_for I nodes labels flow u place share) ≤ 2 ^ 41
  amount_small FromNode = node_fits I nodes in_nodes u place share
  amount_small ToNode = label_fits I labels in_labels place share

  pub amount_turned : (flow : Flow) → cond (to_node flow) (neg_ℤ (amount_for I nodes labels flow u place share)) (amount_for I nodes labels flow u place share) ≡ label_given I nodes labels (to_node flow) u place share
  amount_turned FromNode = refl
  amount_turned ToNode = refl

  -- the two least are known afterwards
  module _ (flow : Flow) {l : Lows} (low : LowestFor I nodes labels flow (owner I flow u place) l) where
    abbrev own : ℤ
    own = costs_for flow nodes labels place

    abbrev given : ℤ
    given = given_by own (low_beside l own) share

    known_by : (g : ℕ → ℤ) → ((j : ℕ) → (j ≡ place → ⊥) → g j ≡ costs_for flow nodes labels j) → g place ≡ own +ℤ neg_ℤ given
        → Lowest (start_for flow) g (places_for I flow (owner I flow u place)) (lows_moved l own (own -ℤ given))
    known_by g same e =
        let apart : own -ℤ g place ≡ given = omega (linear, sub own (g place), add own (neg_ℤ given), neg given, parts e) in
        let to : g place ≡ own -ℤ given = e ∙ omega (linear, add own (neg_ℤ given), neg given, sub own given) in
        subst (λ (z : ℤ). Lowest (start_for flow) g (places_for I flow (owner I flow u place)) (lows_moved l own z)) to
        (lowest_moved low (among flow) g same (subst (λ (z : ℤ). Toward z (own -ℤ low_beside l own)) (sym apart) (given_toward own (low_beside l own) share)))

  pub known_after : (flow : Flow) {l : Lows} (low : LowestFor I nodes labels flow (owner I flow u place) l) (p : ℤ) → p ≡ cond (to_node flow) (neg_ℤ (given flow low)) (given flow low)
      → LowestFor I (add_at nodes place (neg_ℤ p)) (add_at labels place p) flow (owner I flow u place) (lows_moved l (costs_for flow nodes labels place) (costs_for flow nodes labels place -ℤ given flow low))
  known_after FromNode low p e =
      let h : place < length nodes = omega (arith, below, sizes.0) in
      known_by FromNode low (λ i. get_or (add_at nodes place (neg_ℤ p)) i (pos 0)) (set_other nodes place (neg_ℤ p))
      (set_own nodes place (neg_ℤ p) h ∙ ap (λ (z : ℤ). get_or nodes place (pos 0) +ℤ neg_ℤ z) e)
  known_after ToNode low p e =
      let h : place < length labels = omega (arith, below, sizes.1) in
      known_by ToNode low (λ i. get_or (add_at labels place p) i (pos 0)) (set_other labels place p)
      (set_own labels place p h ∙ ap (λ (z : ℤ). get_or labels place (pos 0) +ℤ z) e)
