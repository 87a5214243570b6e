-- The refusals by their numbers in the document's table "Turned back", and what a call's answer says of them.
use Rattle.std.specs.Prelude.{ℕ, Option, Some, None, Result, Ok, Err}
use Rattle.instance.specs.declared.refusal.Refusal.{Refusal}
use Rattle.instance.specs.declared.refusal.Refusal.TheVariants.{NoTrailer, OverLimit, WrongLength, BadDegree, BadLabel, BadEdge, PriceRange, BufferLength, CostRange, BadIncumbent, PartialRecord, NoSuchRecord, CostOverflow, BoundAboveCost, NoUsableCell, NoMatching}

abbrev pub number : Refusal → ℕ
number NoTrailer = 1
number OverLimit = 2
number WrongLength = 3
number BadDegree = 4
number BadLabel = 5
number BadEdge = 6
number PriceRange = 7
number BufferLength = 8
number CostRange = 9
number BadIncumbent = 10
number PartialRecord = 11
number NoSuchRecord = 12
number CostOverflow = 13
number BoundAboveCost = 14
number NoUsableCell = 15
number NoMatching = 16

-- the number of what turned a call back, 0 for nothing
abbrev pub number_of : Option Refusal → ℕ
number_of None = 0
number_of (Some r) = number r

abbrev pub refused_in : {A : Type 0} → Result A Refusal → ℕ
refused_in (Ok a) = 0
refused_in (Err r) = number r
