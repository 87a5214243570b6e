-- Shortest paths among the labels, from a node that is to be placed.
use Rattle.std.specs.Prelude.{◌≡◌, Bool, true, false, cond, List, ◌⊎◌, ℕ, ◌+◌, ◌-◌, ◌*◌, ◌^◌, ◌≤◌, ◌<◌, eqb, ltb, length, get_or, ℤ, pos, ◌+ℤ◌, ◌-ℤ◌, ◌≤ℤ◌, ◌<ℤ◌, nat_abs}
use Rattle.integers.specs.Words.{bit}
use Rattle.instance.specs.Sheet.{instance_of}
use Rattle.placing.specs.declared.offers.Offers.{Offers}
use Rattle.placing.specs.declared.paths.Paths.{Paths}
use Rattle.placing.specs.declared.seats.Seats.{Seats}
use Rattle.placing.specs.Words.{entry, opens, Linked, Stands, Standing}
use Rattle.placing.specs.Priced.{cost_at, price, net, Priced}

-- what node u pays for its label l, and whether it has that
abbrev pub paid : Offers → ℕ → ℕ → ℤ
paid o = cost_at (instance_of o.sheet.now.bytes.now) o.nodes.now.sets o.costs.now

abbrev pub may : Offers → ℕ → ℕ → Type 0
may o u l = opens o.nodes.now.sets o.nodes.now.own u l ≡ true

-- a label below 64, or 255
abbrev pub Kind : ℕ → Type 0
Kind l = (l < 64) ⊎ (l ≡ 255)

-- ---- the tables of a search

-- the way to what is not met
abbrev pub unmet : ℤ
unmet = pos (2 ^ 63 - 1)

-- x of a label below 64, y of 255, and z of any other number
unfoldable pub by_kind : {A : Type 0} → ℕ → A → A → A → A
by_kind l x y z = cond (ltb l 64) x (cond (eqb l 255) y z)

-- the least way to a label, and the step from which it comes
unfoldable pub far_of : Paths → ℕ → ℤ
far_of p l = by_kind l (get_or p.far l (pos 0)) p.home unmet

unfoldable pub by_of : Paths → ℕ → ℕ
by_of p l = by_kind l (entry p.by l) p.home_by 0

-- a way that reaches u by the length b, and goes on to its label l
abbrev pub way : Offers → List ℤ → ℕ → ℤ → ℕ → ℤ
way o prices u b l = (b +ℤ paid o u l) +ℤ price prices l

-- where a search may end: at a free label, or at 255
abbrev pub Exit : ℕ → ℕ → Type 0
Exit free l = ((l < 64) × (bit free l ≡ true)) ⊎ (l ≡ 255)

-- the goal is the nearest end, and a label that waits is no end
pub record Bounded (free : ℕ) (p : Paths) : Type 0 where
  pub kind : Exit free p.goal
  pub goal : p.bound ≡ far_of p p.goal
  pub ends : (l : ℕ) → Exit free l → p.bound ≤ℤ far_of p l
  pub held : (l : ℕ) → bit p.waiting l ≡ true → bit free l ≡ false

-- the label l, or an end, is no farther off than z
abbrev pub Near : Paths → ℕ → ℤ → Type 0
Near p l z = (far_of p l ≤ℤ z) ⊎ (p.bound ≤ℤ z)

-- all but the ways to labels
pub record Kept (p p' : Paths) : Type 0 where
  pub prices : p'.prices ≡ p.prices
  pub nodes : p'.nodes ≡ p.nodes
  pub labels : p'.labels ≡ p.labels
  pub step : p'.step ≡ p.step

-- the way to a label is as it was
pub record Same (p p' : Paths) (l : ℕ) : Type 0 where
  pub far : far_of p' l ≡ far_of p l
  pub by : by_of p' l ≡ by_of p l
  pub waits : bit p'.waiting l ≡ bit p.waiting l

-- it is shorter, from the last step; the label waits, or an end is as near
pub record Nearer (p p' : Paths) (l : ℕ) (z : ℤ) : Type 0 where
  pub less : z <ℤ far_of p l
  pub far : far_of p' l ≡ z
  pub by : by_of p' l ≡ p.step
  pub waits : (bit p'.waiting l ≡ true) ⊎ (p'.bound ≤ℤ z)

-- a way of length z to the label l was seen
pub record Reached (p p' : Paths) (l : ℕ) (z : ℤ) : Type 0 where
  pub kept : Kept p p'
  pub falls : p'.bound ≤ℤ p.bound
  pub others : (k : ℕ) → (k ≡ l → ⊥) → Same p p' k
  pub here : (Same p p' l × Near p l z) ⊎ Nearer p p' l z

-- a node's row that can be gone through: no number is large
pub record Row (o : Offers) (p : Paths) (u : ℕ) (b : ℤ) : Type 0 where
  pub node : u < o.nodes.now.count
  pub step : p.step < 64
  pub base : nat_abs b ≤ 2 ^ 50
  pub prices : (l : ℕ) → nat_abs (price p.prices l) ≤ 2 ^ 50

-- it was gone through from a way of length b: each of the node's labels is as near as over this node, or an end is, and those nearer than before are so by that
pub record Scanned (o : Offers) (p p' : Paths) (u : ℕ) (b : ℤ) : Type 0 where
  pub kept : Kept p p'
  pub falls : p'.bound ≤ℤ p.bound
  pub covered : (l : ℕ) → may o u l → Near p' l (way o p.prices u b l)
  pub each : (l : ℕ) → Same p p' l ⊎ (may o u l × Nearer p p' l (way o p.prices u b l))

-- a label that waits, none nearer
pub record Nearest (p : Paths) (l : ℕ) : Type 0 where
  pub small : l < 64
  pub waits : bit p.waiting l ≡ true
  pub least : (k : ℕ) → bit p.waiting k ≡ true → far_of p l ≤ℤ far_of p k

-- the label that waits with the least way if no end is as near, else 64
abbrev pub Chosen : Paths → ℕ → Type 0
Chosen p l = ((l ≡ 64) × ((k : ℕ) → bit p.waiting k ≡ true → p.bound ≤ℤ far_of p k)) ⊎ (Nearest p l × (far_of p l <ℤ p.bound))

-- ---- a search

-- the nodes that are not of `out` are placed at least cost by the prices, and it is the turn of the root, which is of it
pub record Turn (o : Offers) (s : Seats) (prices : List ℤ) (root : ℕ) : Type 0 where
  pub out : ℕ
  pub node : root < o.nodes.now.count
  pub waits : bit out root ≡ true
  pub linked : Linked o.nodes.now.sets s.taken s.holders s.reach s.free
  pub seated : Standing (Stands o.nodes.now.count out) o.nodes.now.own s.taken
  pub priced : Priced (Stands o.nodes.now.count out) o.nodes.now.sets o.nodes.now.own (paid o) s.taken s.free prices

-- a step went from the label
abbrev pub Gone : Paths → ℕ → Type 0
Gone p l = (i : ℕ) × (0 < i) × (i ≤ p.step) × (entry p.labels i ≡ l)

-- the step i, which is not the first: at the node that holds the step's label, as long a way off as the label without what the node pays there
pub record Step (o : Offers) (s : Seats) (p : Paths) (base : ℕ → ℤ) (i : ℕ) : Type 0 where
  pub small : entry p.labels i < 64
  pub held : bit s.free (entry p.labels i) ≡ false
  pub node : entry p.nodes i ≡ entry s.holders (entry p.labels i)
  pub met : far_of p (entry p.labels i) <ℤ unmet
  pub after : by_of p (entry p.labels i) < i
  pub base_is : base i ≡ ((far_of p (entry p.labels i) -ℤ price p.prices (entry p.labels i)) -ℤ paid o (entry p.nodes i) (entry p.labels i))
  pub once : (j : ℕ) → 0 < j → j < i → entry p.labels j ≡ entry p.labels i → ⊥
  pub nearest : (l : ℕ) → ((j : ℕ) → 0 < j → j < i → entry p.labels j ≡ l → ⊥) → far_of p (entry p.labels i) ≤ℤ far_of p l

-- the first m steps' rows were gone through
pub record Searched (o : Offers) (s : Seats) (p : Paths) (root m : ℕ) : Type 0 where
  pub base : ℕ → ℤ
  pub few : p.step < 64
  pub root_base : base 0 ≡ pos 0
  pub root_node : entry p.nodes 0 ≡ root
  pub bases : (i : ℕ) → i ≤ p.step → nat_abs (base i) ≤ i * 2 ^ 41
  pub steps : (i : ℕ) → 0 < i → i ≤ p.step → Step o s p base i
  pub covered : (i l : ℕ) → i < m → may o (entry p.nodes i) l → Near p l (way o p.prices (entry p.nodes i) (base i) l)
  pub found : (l : ℕ) → far_of p l <ℤ unmet → (by_of p l < m) × may o (entry p.nodes (by_of p l)) l × (far_of p l ≡ way o p.prices (entry p.nodes (by_of p l)) (base (by_of p l)) l)
  pub waits : (l : ℕ) → l < 64 → bit p.waiting l ≡ true → (far_of p l <ℤ unmet) × (Gone p l → ⊥)
  pub met : (l : ℕ) → far_of p l <ℤ unmet → (bit p.waiting l ≡ true) ⊎ Gone p l ⊎ (p.bound ≤ℤ far_of p l)
  pub bounded : Bounded s.free p

-- the nearest label that waits is nearer than each end: a step goes from it
pub record Onward (o : Offers) (s : Seats) (p : Paths) (root l : ℕ) : Type 0 where
  pub turn : Turn o s p.prices root
  pub searched : Searched o s p root (p.step + 1)
  pub nearest : Nearest p l
  pub near : far_of p l <ℤ p.bound

-- it ended at a label, to which there is no way nearer
pub record Ended (s : Seats) (p : Paths) (l : ℕ) : Type 0 where
  pub kind : Exit s.free l
  pub met : far_of p l <ℤ unmet
  pub least : (k : ℕ) → (Gone p k → ⊥) → far_of p l ≤ℤ far_of p k
  pub bound : far_of p l ≤ℤ p.bound

-- ---- the prices after it

-- the labels from which steps went are known, and no price grows large by what they are nearer than z
pub record Raising (p : Paths) (z : ℤ) : Type 0 where
  pub few : p.step < 64
  pub small : (i : ℕ) → 0 < i → i ≤ p.step → entry p.labels i < 64
  pub once : (i j : ℕ) → 0 < i → i < j → j ≤ p.step → entry p.labels i ≡ entry p.labels j → ⊥
  pub apart : (i : ℕ) → 0 < i → i ≤ p.step → nat_abs (z -ℤ far_of p (entry p.labels i)) ≤ 2 ^ 50
  pub fits : (i : ℕ) → 0 < i → i ≤ p.step → nat_abs (price p.prices (entry p.labels i) +ℤ (z -ℤ far_of p (entry p.labels i))) ≤ 2 ^ 50

-- all but the prices
pub record SamePaths (p p' : Paths) : Type 0 where
  pub far : p'.far ≡ p.far
  pub by : p'.by ≡ p.by
  pub labels : p'.labels ≡ p.labels
  pub nodes : p'.nodes ≡ p.nodes
  pub step : p'.step ≡ p.step
  pub home : p'.home ≡ p.home
  pub home_by : p'.home_by ≡ p.home_by

-- those of the first k steps' labels are raised
pub record RaisedTo (p p' : Paths) (z : ℤ) (k : ℕ) : Type 0 where
  pub stays : SamePaths p p'
  pub size : length p'.prices ≡ 64
  pub raised : (i : ℕ) → 0 < i → i < k → price p'.prices (entry p.labels i) ≡ price p.prices (entry p.labels i) +ℤ (z -ℤ far_of p (entry p.labels i))
  pub others : (l : ℕ) → ((i : ℕ) → 0 < i → i < k → entry p.labels i ≡ l → ⊥) → price p'.prices l ≡ price p.prices l

-- ---- the moves back

-- u may take k, and no label costs it less with the prices
pub record Best (sets : List ℕ) (own : List Bool) (c : ℕ → ℕ → ℤ) (prices : List ℤ) (u k : ℕ) : Type 0 where
  pub may : opens sets own u k ≡ true
  pub least : (j : ℕ) → opens sets own u j ≡ true → net c prices u k ≤ℤ net c prices u j

-- the node of the step by which a label was found takes it at least cost
abbrev pub Link : List ℕ → List Bool → (ℕ → ℕ → ℤ) → Paths → ℕ → Type 0
Link sets own c p l = (by_of p l ≤ p.step) × Best sets own c p.prices (entry p.nodes (by_of p l)) l

-- so it is of each label from which a step went, and that was found before
pub record Trace (sets : List ℕ) (own : List Bool) (c : ℕ → ℕ → ℤ) (p : Paths) : Type 0 where
  pub few : p.step < 64
  pub small : (i : ℕ) → 0 < i → i ≤ p.step → entry p.labels i < 64
  pub after : (i : ℕ) → 0 < i → i ≤ p.step → by_of p (entry p.labels i) < i
  pub once : (i j : ℕ) → 0 < i → i < j → j ≤ p.step → entry p.labels i ≡ entry p.labels j → ⊥
  pub links : (i : ℕ) → 0 < i → i ≤ p.step → Link sets own c p (entry p.labels i)

-- The nodes below n that are not of `out` are placed at least cost, the root is of it, and the label l is free; the nodes of the steps up to the one by which it was found are where they were.
pub record Opening (n out : ℕ) (sets : List ℕ) (own : List Bool) (c : ℕ → ℕ → ℤ) (p : Paths) (taken : List ℕ) (free l : ℕ) : Type 0 where
  pub few : n ≤ 64
  pub node : entry p.nodes 0 < n
  pub waits : bit out (entry p.nodes 0) ≡ true
  pub seated : Standing (Stands n out) own taken
  pub least : (u k : ℕ) → Stands n out u → opens sets own u k ≡ true → net c p.prices u (entry taken u) ≤ℤ net c p.prices u k
  pub idle : (x : ℕ) → x < 64 → bit free x ≡ true → (x ≡ l → ⊥) → price p.prices x ≡ pos 0
  pub small : l < 64
  pub here : bit free l ≡ true
  pub link : Link sets own c p l
  pub still : (i : ℕ) → 0 < i → i ≤ by_of p l → Stands n out (entry p.nodes i) × (entry taken (entry p.nodes i) ≡ entry p.labels i)

-- the nodes below n that are not of `out` are placed at least cost
pub record Cheapest (n out : ℕ) (sets : List ℕ) (own : List Bool) (c : ℕ → ℕ → ℤ) (taken : List ℕ) (free : ℕ) (prices : List ℤ) : Type 0 where
  pub seated : Standing (Stands n out) own taken
  pub least : (u k : ℕ) → Stands n out u → opens sets own u k ≡ true → net c prices u (entry taken u) ≤ℤ net c prices u k
  pub idle : (l : ℕ) → l < 64 → bit free l ≡ true → price prices l ≡ pos 0
