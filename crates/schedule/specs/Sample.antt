-- The sweeps of the document's sample, of the trailer alone, of a triangle and of a sheet with a 255: one table, and one proof over it, from the definitions that the contract cites.
use Rattle.std.specs.Prelude.{List, [], ◌∷◌, ℕ, ◌*◌, replicate, set}
use Prim.Native.String.{String}
use Rattle.instance.specs.Sample.{sample, trailer_alone}
use Rattle.rules.specs.Sample.{clashing}
use Rattle.schedule.specs.Sweep.{Entry, entry, bytes}
use Rattle.schedule.specs.Written.{Written, written, sweep_of}

-- what a call leaves and answers, and what the document states
pub record Case : Type 0 where
  pub name : String
  pub value : Written
  pub stated : Written

-- a buffer for so many records, with other bytes in it
abbrev lent : ℕ → List ℕ
lent records = replicate (5 * records) 7

-- "1,0,0,2; 3,0,0,1; 3,0,1,1; 2,1,0,1; 3,1,0,1; 3,1,1,1; 5,0,0,0"
abbrev forward_sample : List Entry
forward_sample = entry 1 0 0 2 ∷ entry 3 0 0 1 ∷ entry 3 0 1 1 ∷ entry 2 1 0 1 ∷ entry 3 1 0 1 ∷ entry 3 1 1 1 ∷ entry 5 0 0 0 ∷ []

abbrev backward_sample : List Entry
backward_sample = entry 4 0 1 1 ∷ entry 4 1 1 1 ∷ entry 4 0 0 1 ∷ entry 4 1 0 1 ∷ entry 1 1 0 1 ∷ entry 2 0 0 1 ∷ entry 5 0 0 0 ∷ []

-- three nodes with a label each, and an edge between any two: at a node with two edges they go by number, and their shares fall
abbrev triangle : List ℕ
triangle =
    1 ∷ 1 ∷ 1 ∷ 0 ∷ 1 ∷ 2 ∷ 0 ∷ 0 ∷ 0 ∷ 0 ∷ 0 ∷ 0 ∷ 0 ∷ 0 ∷ 0 ∷ 0 ∷ 0 ∷ 0 ∷ 0 ∷ 1 ∷ 0 ∷ 2 ∷ 1 ∷ 2 ∷ 0 ∷ 0 ∷ 0 ∷ 0 ∷ 0 ∷ 0 ∷ 0 ∷ 0 ∷ 0 ∷ 0 ∷ 0 ∷ 0 ∷
    3 ∷ 3 ∷ 3 ∷ 0 ∷ 46 ∷ 0 ∷ 0 ∷ 0 ∷ 28 ∷ 0 ∷ 0 ∷ 0 ∷ 0x4D ∷ 0x53 ∷ 0x48 ∷ 0x31 ∷ []

abbrev forward_triangle : List Entry
forward_triangle =
    entry 1 0 0 3 ∷ entry 1 0 1 2 ∷ entry 3 0 0 1 ∷ entry 2 1 0 1 ∷ entry 1 1 2 2 ∷ entry 3 1 0 1 ∷ entry 2 2 1 1 ∷ entry 2 2 2 1 ∷ entry 3 2 0 1
    ∷ entry 5 0 0 0 ∷ []

abbrev backward_triangle : List Entry
backward_triangle =
    entry 4 2 0 1 ∷ entry 4 1 0 1 ∷ entry 4 0 0 1 ∷ entry 1 2 1 2 ∷ entry 1 2 2 1 ∷ entry 2 1 2 1 ∷ entry 1 1 0 1 ∷ entry 2 0 0 1 ∷ entry 2 0 1 1
    ∷ entry 5 0 0 0 ∷ []

-- document 02, wish 1: the sample with 255 in the place of node 1's second label
abbrev vanishing : List ℕ
vanishing = set sample 5 255

abbrev forward_vanishing : List Entry
forward_vanishing = entry 1 0 0 2 ∷ entry 3 0 0 1 ∷ entry 3 0 1 1 ∷ entry 2 1 0 1 ∷ entry 3 1 0 1 ∷ entry 5 0 0 0 ∷ []

abbrev backward_vanishing : List Entry
backward_vanishing = entry 4 0 1 1 ∷ entry 4 0 0 1 ∷ entry 4 1 0 1 ∷ entry 1 1 0 1 ∷ entry 2 0 0 1 ∷ entry 5 0 0 0 ∷ []

unfoldable pub cases : List Case
cases =
    record { name = "forward"; value = sweep_of sample 0 (lent 7); stated = written (bytes forward_sample) 0 }
    ∷ record { name = "backward"; value = sweep_of sample 1 (lent 7); stated = written (bytes backward_sample) 0 }
    ∷ record { name = "the trailer alone, forward"; value = sweep_of trailer_alone 0 (lent 1); stated = written (5 ∷ 0 ∷ 0 ∷ 0 ∷ 0 ∷ []) 0 }
    ∷ record { name = "the trailer alone, backward"; value = sweep_of trailer_alone 1 (lent 1); stated = written (5 ∷ 0 ∷ 0 ∷ 0 ∷ 0 ∷ []) 0 }
    ∷ record { name = "the triangle, forward"; value = sweep_of triangle 0 (lent 10); stated = written (bytes forward_triangle) 0 }
    ∷ record { name = "the triangle, backward"; value = sweep_of triangle 1 (lent 10); stated = written (bytes backward_triangle) 0 }
    ∷ record { name = "a 255, forward"; value = sweep_of vanishing 0 (lent 6); stated = written (bytes forward_vanishing) 0 }
    ∷ record { name = "a 255, backward"; value = sweep_of vanishing 1 (lent 6); stated = written (bytes backward_vanishing) 0 }
    ∷ record { name = "a record for the 255 too many"; value = sweep_of vanishing 0 (lent 7); stated = written (lent 7) 8 }
    ∷ record { name = "no such direction, ahead of the length"; value = sweep_of sample 2 (lent 6); stated = written (lent 6) 12 }
    ∷ record { name = "a record too few"; value = sweep_of sample 0 (lent 6); stated = written (lent 6) 8 }
    ∷ record { name = "a sheet that is refused, ahead of the direction"; value = sweep_of [] 2 (lent 0); stated = written (lent 0) 1 }
    ∷ record { name = "an edge without a usable cell comes ahead of the direction and of the length"; value = sweep_of clashing 2 (lent 1); stated = written (lent 1) 15 }
    ∷ []
