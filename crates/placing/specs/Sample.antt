-- Placings of small sheets, and their refusals: one table, and one proof over it, from the definitions that the contract cites.
use Rattle.std.specs.Prelude.{List, [], ◌∷◌, ◌++◌, ℕ, ◌+◌, ◌*◌, length, replicate}
use Prim.Native.String.{String}
use Rattle.instance.specs.Sheet.{instance_of, mark}
use Rattle.instance.specs.Sample.{sample, trailer_alone}
use Rattle.rules.specs.Sample.{clashing}
use Rattle.rules.specs.Matchings.{matchings}
use Rattle.assignment.specs.Rows.{count}
use Rattle.placing.specs.Placing.{member, labelled, place_refusal, placed_of}

-- a row: what the definitions make of a sheet and of lent bytes, and what is stated
pub record Case : Type 0 where
  pub name : String
  pub value : List ℕ
  pub stated : List ℕ

-- a sheet without edges, all prices 0: degrees, labels and L
abbrev pub bare : List ℕ → List ℕ → ℕ → List ℕ
bare degrees labels most =
    degrees ++ labels ++ replicate (4 * length labels) 0
    ++ length degrees ∷ most ∷ 0 ∷ 0 ∷ (4 * length labels + 16) ∷ 0 ∷ 0 ∷ 0 ∷ 16 ∷ 0 ∷ 0 ∷ 0 ∷ mark

-- the refusal, and the bytes left
abbrev told : List ℕ → List ℕ → List ℕ
told s out = place_refusal s out ∷ placed_of s out

-- of a set of nodes: how many labels it has, and how many members
abbrev counted : List ℕ → List ℕ → List ℕ
counted s x = let I = instance_of s in count I.label_count (labelled I (member x)) ∷ count I.node_count (member x) ∷ []

-- lists one after another
abbrev flat : List (List ℕ) → List ℕ
flat [] = []
flat (x ∷ l) = x ++ flat l

-- node 0 may take either label, node 1 the first alone: taken by positions node 0 leaves node 1 none
abbrev greedy : List ℕ
greedy = bare (2 ∷ 1 ∷ []) (0 ∷ 1 ∷ 0 ∷ []) 2

-- three nodes in a ring: two matchings
abbrev ring : List ℕ
ring = bare (2 ∷ 2 ∷ 2 ∷ []) (0 ∷ 1 ∷ 1 ∷ 2 ∷ 0 ∷ 2 ∷ []) 3

-- nodes 0 and 1 take their first labels, which are all that node 2 has: the shortest way to a free label moves node 0, the smallest matching moves node 1
abbrev shifted : List ℕ
shifted = bare (2 ∷ 2 ∷ 2 ∷ []) (0 ∷ 3 ∷ 1 ∷ 2 ∷ 0 ∷ 1 ∷ []) 4

-- nodes with one label in common
abbrev pair : List ℕ
pair = bare (1 ∷ 1 ∷ []) (0 ∷ 0 ∷ []) 1

-- the same, and a third node that has another label too
abbrev pair_beside : List ℕ
pair_beside = bare (1 ∷ 2 ∷ 1 ∷ []) (0 ∷ 0 ∷ 1 ∷ 0 ∷ []) 2

-- three nodes with two labels
abbrev three : List ℕ
three = bare (2 ∷ 2 ∷ 2 ∷ []) (0 ∷ 1 ∷ 0 ∷ 1 ∷ 0 ∷ 1 ∷ []) 2

-- three nodes with one label: any two of them are too many
abbrev crowd : List ℕ
crowd = bare (1 ∷ 1 ∷ 1 ∷ []) (0 ∷ 0 ∷ 0 ∷ []) 1

-- the pair, its second node with 255; and both with it
abbrev saved : List ℕ
saved = bare (1 ∷ 2 ∷ []) (0 ∷ 0 ∷ 255 ∷ []) 1

abbrev vanished : List ℕ
vanished = bare (1 ∷ 1 ∷ []) (255 ∷ 255 ∷ []) 0

unfoldable pub cases : List Case
cases =
    record { name = "the sample"; value = told sample (7 ∷ 7 ∷ []); stated = 0 ∷ 0 ∷ 1 ∷ [] }
    ∷ record { name = "the trailer alone: nothing to write"; value = told trailer_alone []; stated = 0 ∷ [] }
    ∷ record { name = "by positions node 1 is left without a label"; value = told greedy (7 ∷ 7 ∷ []); stated = 0 ∷ 1 ∷ 0 ∷ [] }
    ∷ record { name = "of two matchings the smaller"; value = told ring (7 ∷ 7 ∷ 7 ∷ []); stated = 0 ∷ 0 ∷ 0 ∷ 1 ∷ [] }
    ∷ record { name = "both, in order"; value = flat (matchings (instance_of ring)); stated = 0 ∷ 0 ∷ 1 ∷ 1 ∷ 1 ∷ 0 ∷ [] }
    ∷ record { name = "the smallest is not the first found"; value = told shifted (7 ∷ 7 ∷ 7 ∷ []); stated = 0 ∷ 0 ∷ 1 ∷ 1 ∷ [] }
    ∷ record { name = "a pair with one label"; value = place_refusal pair (7 ∷ 7 ∷ []) ∷ counted pair (1 ∷ 1 ∷ []); stated = 16 ∷ 1 ∷ 2 ∷ [] }
    ∷ record { name = "a node beside the pair"; value = place_refusal pair_beside (7 ∷ 7 ∷ 7 ∷ []) ∷ counted pair_beside (1 ∷ 0 ∷ 1 ∷ []); stated = 16 ∷ 1 ∷ 2 ∷ [] }
    ∷ record { name = "with that node they are as many as their labels and one more"; value = counted pair_beside (1 ∷ 1 ∷ 1 ∷ []); stated = 2 ∷ 3 ∷ [] }
    ∷ record { name = "three with two labels"; value = place_refusal three (7 ∷ 7 ∷ 7 ∷ []) ∷ counted three (1 ∷ 1 ∷ 1 ∷ []); stated = 16 ∷ 2 ∷ 3 ∷ [] }
    ∷ record { name = "three with one label: several sets"; value = place_refusal crowd (7 ∷ 7 ∷ 7 ∷ []) ∷ counted crowd (0 ∷ 1 ∷ 1 ∷ []); stated = 16 ∷ 1 ∷ 2 ∷ [] }
    ∷ record { name = "a 255 saves a node"; value = told saved (7 ∷ 7 ∷ []); stated = 0 ∷ 0 ∷ 1 ∷ [] }
    ∷ record { name = "any number may take 255"; value = told vanished (7 ∷ 7 ∷ []); stated = 0 ∷ 0 ∷ 0 ∷ [] }
    ∷ record { name = "a byte too few, ahead of 16"; value = told pair (7 ∷ []); stated = 8 ∷ 7 ∷ [] }
    ∷ record { name = "a byte too many"; value = told sample (7 ∷ 7 ∷ 7 ∷ []); stated = 8 ∷ 7 ∷ 7 ∷ 7 ∷ [] }
    ∷ record { name = "a sheet that is refused, ahead of the length"; value = told [] (7 ∷ []); stated = 1 ∷ 7 ∷ [] }
    ∷ record { name = "an edge without a usable cell, ahead of the length and of 16"; value = told clashing []; stated = 15 ∷ [] }
    ∷ []
