-- Refusals as any numbers: those that stop a run at a record, and a report's.
use Rattle.std.specs.Prelude.{Option, Some, None, Result, Ok, Err, cond, ℕ, eqb}
use Rattle.instance.specs.declared.refusal.Refusal.{Refusal}
use Rattle.instance.specs.declared.refusal.Refusal.TheVariants.{NoSuchRecord, CostOverflow}
use Rattle.messages.specs.declared.answers.Report.{Report}
use Rattle.messages.specs.declared.answers.Report.TheVariants.{Bound, Kept}
use Rattle.rules.specs.Calls as calls

-- what stopped a run, by its number: no record for 0, or a record; any other number is no record's
unfoldable pub stopped_by : ℕ → Result (Option Refusal) ℕ
stopped_by r = cond (eqb r 0) (Ok None) (cond (eqb r 12) (Ok (Some NoSuchRecord)) (cond (eqb r 13) (Ok (Some CostOverflow)) (Err r)))

-- a report whose refusal is a number
abbrev pub reported_by : Result Report ℕ → calls.Report
reported_by (Err k) = calls.refused k
reported_by (Ok (Bound z)) = calls.bound z
reported_by (Ok (Kept z p g)) = calls.kept z p g
