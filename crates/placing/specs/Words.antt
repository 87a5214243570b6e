-- Placing by words: a node's labels are the bits of a word. A position is the label itself, and 255 for the label that any number of nodes may take.
use Rattle.std.specs.Prelude.{◌≡◌, Bool, true, false, not, cond, ◌&&◌, ◌||◌, List, ◌⊎◌, ℕ, zero, suc, ◌+◌, ◌-◌, ◌^◌, ◌≤◌, ◌<◌, eqb, ltb, length, get_or}
use Rattle.std.specs.Int.Bits.{bit_and}
use Rattle.std.specs.Int.Count.{ones}
use Rattle.integers.specs.Words.{bit, Words}
use Rattle.instance.specs.Instance.{Instance, first}
use Rattle.assignment.specs.Rows.{Rows, In, But, count, Node, Placed}
use Rattle.assignment.specs.First.{Settled}

-- a table of numbers, and one of flags, as a function of the place
abbrev pub entry : List ℕ → ℕ → ℕ
entry t i = get_or t i 0

abbrev pub flag : List Bool → ℕ → Bool
flag t i = get_or t i false

-- ---- rows

-- whether node u may take the label k: it is in u's word, or it is 255 and u has that
unfoldable pub opens : List ℕ → List Bool → ℕ → ℕ → Bool
opens sets own u k = cond (ltb k 64) (bit (entry sets u) k) (eqb k 255 && flag own u)

-- a label below 64 is a slot; else it is a slot of the node's own
unfoldable pub slot_of : ℕ → ℕ → ℕ
slot_of k u = cond (ltb k 64) k (64 + u)

abbrev pub rows_of : ℕ → List ℕ → List Bool → Rows
rows_of n sets own = record {
  nodes = n;
  slots = 128;
  slot = λ u k. slot_of k u;
  may = λ u k. opens sets own u k ≡ true;
}

-- all nodes below n placed
abbrev pub All : ℕ → List ℕ → List Bool → (ℕ → ℕ) → Type 0
All n sets own p = Placed (rows_of n sets own) (Node (rows_of n sets own)) p

-- all nodes below n placed, and each label taken that is not of `idle`
abbrev pub Full : ℕ → List ℕ → List Bool → ℕ → (ℕ → ℕ) → Type 0
Full n sets own idle p = All n sets own p × ((l : ℕ) → l < 64 → bit idle l ≡ false → (u : ℕ) × (u < n) × (p u ≡ l))

-- ---- the words of a sheet

-- the labels below l, and all for 255
unfoldable pub below : ℕ → ℕ
below l = cond (ltb l 64) (2 ^ l - 1) (2 ^ 64 - 1)

-- how many labels of the word are below l
unfoldable pub rank : ℕ → ℕ → ℕ
rank w l = ones (bit_and w (below l))

-- the words of the nodes below n, and whether they have 255
pub record Laid (I : Instance) (n : ℕ) (sets : List ℕ) (own : List Bool) : Type 0 where
  pub fit : Words sets
  pub has : (u k : ℕ) → u < n → k < I.degree u → opens sets own u (I.label (first I u + k)) ≡ true
  pub only : (u l : ℕ) → u < n → opens sets own u l ≡ true → (k : ℕ) × (k < I.degree u) × (I.label (first I u + k) ≡ l)
  pub ranks : (u k : ℕ) → u < n → k < I.degree u → rank (entry sets u) (I.label (first I u + k)) ≡ k

-- ---- a search among the labels: from l it goes to the labels of `reach` at l, up to one that is free

-- the labels of `start` and those found in the first s steps
unfoldable pub seen_by : ℕ → List ℕ → ℕ → ℕ → Bool
seen_by start words zero l = bit start l
seen_by start words (suc s) l = seen_by start words s l || bit (entry words s) l

-- The steps of a search: step t goes from the label `by` at t to the labels of the word at t, which were not seen before. None of `before` is met.
pub record Trail (reach : List ℕ) (free start before : ℕ) (by words : List ℕ) (count : ℕ) : Type 0 where
  pub few : count ≤ 64
  pub size_by : length by ≡ 64
  pub size_words : length words ≡ 64
  pub small : (l : ℕ) → seen_by start words count l ≡ true → l < 64
  pub begins : (l : ℕ) → bit start l ≡ true → bit before l ≡ false
  pub from : (t : ℕ) → t < count → (seen_by start words t (entry by t) ≡ true) × (bit free (entry by t) ≡ false)
  pub once : (s t : ℕ) → s < t → t < count → entry by s ≡ entry by t → ⊥
  pub leads : (t l : ℕ) → t < count → bit (entry words t) l ≡ true → (bit (entry reach (entry by t)) l ≡ true) × (seen_by start words t l ≡ false) × (bit before l ≡ false)

-- it ended: no label seen is free, and they lead to none that was not seen
pub record Exhausted (reach : List ℕ) (free start before : ℕ) (words : List ℕ) (count seen : ℕ) : Type 0 where
  pub fit : seen < 2 ^ 64
  pub all : (l : ℕ) → bit seen l ≡ (bit before l || seen_by start words count l)
  pub held : (l : ℕ) → seen_by start words count l ≡ true → bit free l ≡ false
  pub exits : (l k : ℕ) → seen_by start words count l ≡ true → bit (entry reach l) k ≡ true → bit seen k ≡ true

-- a search that met a free label
pub record Met (reach : List ℕ) (free start before : ℕ) (by words : List ℕ) (count label : ℕ) : Type 0 where
  pub trail : Trail reach free start before by words count
  pub met : seen_by start words count label ≡ true
  pub free_label : bit free label ≡ true

-- a search that ended with nothing
pub record Ended (reach : List ℕ) (free start before seen : ℕ) : Type 0 where
  pub by : List ℕ
  pub words : List ℕ
  pub count : ℕ
  pub trail : Trail reach free start before by words count
  pub exhausted : Exhausted reach free start before words count seen

-- ---- what shows that not all nodes can be placed

-- nodes that cannot all be placed: they have fewer slots than they are, none of them its own, and without any one of them the rest can be placed
pub record Blocked (I : Rows) (R : ℕ → Bool) : Type 0 where
  pub inside : (u : ℕ) → In R u → Node I u
  pub T : ℕ → Bool
  pub exits : (u k : ℕ) → In R u → I.may u k → (k < 64) × In T (I.slot u k)
  pub few : count I.slots T < count I.nodes R
  pub rest : (x : ℕ) → In R x → (q : ℕ → ℕ) × Placed I (But (In R) x) q

-- the root and the nodes below it that take a label seen
unfoldable pub caught : ℕ → ℕ → List ℕ → ℕ → Bool
caught root seen taken u = eqb u root || (ltb u root && bit seen (entry taken u))

-- ---- nodes at labels, in tables

-- a word and one number more, if that is below 64
abbrev pub Joined : ℕ → ℕ → ℕ → Type 0
Joined word label word' = (word' < 2 ^ 64) × ((x : ℕ) → x < 64 → bit word' x ≡ (bit word x || eqb x label))

-- A node takes a label below 64 of its word, or none. A label that is not free has a holder, and `reach` has the holder's word.
pub record Linked (sets taken holders reach : List ℕ) (free : ℕ) : Type 0 where
  pub size_taken : length taken ≡ 64
  pub size_holders : length holders ≡ 64
  pub size_reach : length reach ≡ 64
  pub fit_sets : Words sets
  pub fit_reach : Words reach
  pub fit_free : free < 2 ^ 64
  pub inside : (u : ℕ) → u < 64 → entry taken u < 64 → bit (entry sets u) (entry taken u) ≡ true
  pub taker : (u : ℕ) → u < 64 → entry taken u < 64 → (bit free (entry taken u) ≡ false) × (entry holders (entry taken u) ≡ u)
  pub held : (l : ℕ) → l < 64 → bit free l ≡ false → (entry holders l < 64) × (entry taken (entry holders l) ≡ l) × (entry reach l ≡ entry sets (entry holders l))

-- the word has the labels that are not free and whose holders have 255
pub record Owning (own : List Bool) (holders : List ℕ) (free owned : ℕ) : Type 0 where
  pub fit : owned < 2 ^ 64
  pub has : (l : ℕ) → l < 64 → bit owned l ≡ (not (bit free l) && flag own (entry holders l))

-- some node takes the label
abbrev pub Holds : List ℕ → ℕ → Type 0
Holds taken l = (v : ℕ) × (v < 64) × (entry taken v ≡ l)

-- nodes but the root stay where they are, unless they left a label that is none of `before`: for another, or for 255, which they have
abbrev pub Stays : List Bool → ℕ → ℕ → List ℕ → List ℕ → Type 0
Stays own before root taken taken' = (w : ℕ) → (w ≡ root → ⊥) → (entry taken' w ≡ entry taken w)
    ⊎ ((entry taken w < 64) × (bit before (entry taken w) ≡ false) × ((entry taken' w < 64) ⊎ ((entry taken' w ≡ 255) × (flag own w ≡ true))))

-- the root, which takes none, is to take a label of its word that is in `start` and not in `before`
pub record Asked (sets taken : List ℕ) (start before root : ℕ) : Type 0 where
  pub node : root < 64
  pub unplaced : 64 ≤ entry taken root
  pub labels : (l : ℕ) → bit start l ≡ true → (bit (entry sets root) l ≡ true) × (bit before l ≡ false)

-- a search is done at one of `goals`: a node that takes one of them has 255; each label that is none of them and none of `before` is taken
pub record Aimed (own : List Bool) (taken : List ℕ) (goals before : ℕ) : Type 0 where
  pub held : (l : ℕ) → l < 64 → bit goals l ≡ false → bit before l ≡ false → Holds taken l
  pub loose : (v : ℕ) → v < 64 → entry taken v < 64 → bit goals (entry taken v) ≡ true → flag own v ≡ true

-- the root takes a label of `start`, and others shift: what was taken is, and so is the label met
pub record Rooted (own : List Bool) (taken : List ℕ) (start before root met : ℕ) (taken' : List ℕ) : Type 0 where
  pub rooted : bit start (entry taken' root) ≡ true
  pub stays : Stays own before root taken taken'
  pub kept : (l : ℕ) → l < 64 → Holds taken l ⊎ (l ≡ met) → Holds taken' l

-- the node that took l, if one did, has left it
pub record Vacated (taken : List ℕ) (free l : ℕ) (taken' : List ℕ) (free' : ℕ) : Type 0 where
  pub joined : Joined free l free'
  pub left : (w : ℕ) → (entry taken' w ≡ entry taken w) ⊎ ((w < 64) × (entry taken w ≡ l) × (entry taken' w ≡ 255))

-- of the nodes below m one that takes no label below 64 has 255 and takes that; those from m on take none; those from `since` on that have 255 take it
pub record Seated (own : List Bool) (since m : ℕ) (taken : List ℕ) : Type 0 where
  pub seat : (u : ℕ) → u < m → 64 ≤ entry taken u → (entry taken u ≡ 255) × (flag own u ≡ true)
  pub later : (u : ℕ) → m ≤ u → u < 64 → entry taken u ≡ 255
  pub vacant : (u : ℕ) → since ≤ u → u < 64 → flag own u ≡ true → entry taken u ≡ 255

-- the nodes below n that are not of the word `out`
abbrev pub Stands : ℕ → ℕ → ℕ → Type 0
Stands n out u = (u < n) × (bit out u ≡ false)

-- the nodes of D are placed: one of them that takes no label below 64 has 255 and takes that; the other nodes take none
pub record Standing (D : ℕ → Type 0) (own : List Bool) (taken : List ℕ) : Type 0 where
  pub seat : (u : ℕ) → D u → 64 ≤ entry taken u → (entry taken u ≡ 255) × (flag own u ≡ true)
  pub later : (u : ℕ) → u < 64 → (D u → ⊥) → entry taken u ≡ 255

-- ---- the smallest placing

-- `closed` has the labels that the nodes below u take
pub record Below (closed u : ℕ) (taken : List ℕ) : Type 0 where
  pub fit : closed < 2 ^ 64
  pub shut : (w : ℕ) → w < u → entry taken w < 64 → bit closed (entry taken w) ≡ true
  pub only : (l : ℕ) → bit closed l ≡ true → (v : ℕ) × (v < u) × (entry taken v ≡ l)

-- each label that is not of `idle` is taken
abbrev pub Filled : ℕ → List ℕ → Type 0
Filled idle taken = (l : ℕ) → l < 64 → bit idle l ≡ false → Holds taken l

-- All nodes are seated, each label that is not of `idle` is taken, and the nodes below u are where they are to be: no placing that agrees on the nodes below one of these gives it a lower label.
pub record Lowered (n : ℕ) (sets : List ℕ) (own : List Bool) (idle : ℕ) (taken : List ℕ) (closed u : ℕ) : Type 0 where
  pub within : u ≤ n
  pub few : n ≤ 64
  pub seated : Seated own 64 n taken
  pub filled : Filled idle taken
  pub settled : Settled (Full n sets own idle) (entry taken) u
  pub under : Below closed u taken

-- u too is where it is to be, and those below it stay
pub record Lowest (n : ℕ) (sets : List ℕ) (own : List Bool) (idle : ℕ) (taken : List ℕ) (u : ℕ) (taken' : List ℕ) : Type 0 where
  pub seated : Seated own 64 n taken'
  pub filled : Filled idle taken'
  pub settled : Settled (Full n sets own idle) (entry taken') (u + 1)
  pub same : (w : ℕ) → w < u → entry taken' w ≡ entry taken w

-- u takes none, and all others are seated; each label that is not of `idle` is taken, but for the one that is owed, which is not
pub record Out (n : ℕ) (own : List Bool) (idle owed u : ℕ) (taken : List ℕ) : Type 0 where
  pub none : entry taken u ≡ 255
  pub seat : (w : ℕ) → w < n → (w ≡ u → ⊥) → 64 ≤ entry taken w → (entry taken w ≡ 255) × (flag own w ≡ true)
  pub later : (w : ℕ) → n ≤ w → w < 64 → entry taken w ≡ 255
  pub filled : (l : ℕ) → l < 64 → bit idle l ≡ false → (l ≡ owed → ⊥) → Holds taken l
  pub gone : (v : ℕ) → v < 64 → entry taken v < 64 → entry taken v ≡ owed → ⊥

-- labels that searches saw which met none of `goals`: from one that is not of `before` its holder could go to no other than these
pub record Barren (sets taken : List ℕ) (goals before seen : ℕ) : Type 0 where
  pub fit : seen < 2 ^ 64
  pub more : (l : ℕ) → bit before l ≡ true → bit seen l ≡ true
  pub apart : (l : ℕ) → bit seen l ≡ true → bit before l ≡ false → bit goals l ≡ false
  pub exits : (v k : ℕ) → v < 64 → entry taken v < 64 → bit seen (entry taken v) ≡ true → bit before (entry taken v) ≡ false → bit (entry sets v) k ≡ true → bit seen k ≡ true

-- u took the lowest label from which a search met one of `goals`, or there is none: its lower labels are barren
pub record Tried (sets : List ℕ) (own : List Bool) (taken : List ℕ) (goals before u : ℕ) (taken' : List ℕ) : Type 0 where
  pub seen : ℕ
  pub barren : Barren sets taken goals before seen
  pub lower : (x : ℕ) → bit (entry sets u) x ≡ true → x < entry taken' u → bit seen x ≡ true
  pub outcome : (taken' ≡ taken) ⊎ ((met : ℕ) × (bit goals met ≡ true) × Rooted own taken (entry sets u) seen u met taken')

-- x could leave its label for no other from which a search met one of `goals`: all that it leads to was seen
pub record Passed (sets taken : List ℕ) (goals before x seen : ℕ) : Type 0 where
  pub fit : seen < 2 ^ 64
  pub more : (l : ℕ) → bit before l ≡ true → bit seen l ≡ true
  pub apart : (l : ℕ) → bit seen l ≡ true → bit before l ≡ false → (l ≡ entry taken x → ⊥) → bit goals l ≡ false
  pub exits : (v k : ℕ) → v < 64 → (v ≡ x → ⊥) → entry taken v < 64 → bit seen (entry taken v) ≡ true → bit before (entry taken v) ≡ false → bit (entry sets v) k ≡ true → bit seen k ≡ true
  pub all : (k : ℕ) → bit (entry sets x) k ≡ true → bit seen k ≡ true

-- None of the nodes from u + 1 on and below m that could leave its label, for another or from 255, can do so for the label owed: all that they lead to was seen, and the owed label was not.
pub record Spent (sets taken : List ℕ) (idle owed u m before seen : ℕ) : Type 0 where
  pub fit : seen < 2 ^ 64
  pub more : (l : ℕ) → bit before l ≡ true → bit seen l ≡ true
  pub apart : bit seen owed ≡ false
  pub exits : (v k : ℕ) → u < v → v < 64 → entry taken v < 64 → bit seen (entry taken v) ≡ true → bit (entry sets v) k ≡ true → bit seen k ≡ true
  pub shut : (v k : ℕ) → u < v → v < m → (entry taken v < 64 → bit idle (entry taken v) ≡ true) → bit (entry sets v) k ≡ true → bit seen k ≡ true
