-- The answers of a report and of a run as the rules have them.
use Rattle.std.specs.Prelude.{Result, Ok, Err, cond, ℤ, ◌-ℤ◌, int_le}
use Rattle.instance.specs.declared.refusal.Refusal.{Refusal}
use Rattle.instance.specs.Refusal.{number, number_of}
use Rattle.rules.specs.Costs.{Buffers}
use Rattle.rules.specs.Run.{Ran}
use Rattle.rules.specs.Calls as calls
use Rattle.messages.specs.declared.answers.Answer.{Answer}
use Rattle.messages.specs.declared.answers.Report.{Report}
use Rattle.messages.specs.declared.answers.Report.TheVariants.{Bound, Kept}

abbrev pub reported_as : Result Report Refusal → calls.Report
reported_as (Err r) = calls.refused (number r)
reported_as (Ok (Bound z)) = calls.bound z
reported_as (Ok (Kept z p g)) = calls.kept z p g

-- the bound of either
abbrev pub bound_of : Report → ℤ
bound_of (Bound z) = z
bound_of (Kept z p g) = z

-- a bound beside the kept matching's cost, with the gap; 14 where the bound exceeds it
abbrev pub against : ℤ → ℤ → calls.Report
against z p = cond (int_le z p) (calls.kept z p (p -ℤ z)) (calls.refused 14)

-- what a run leaves and answers
abbrev pub ran_as : Buffers → Answer → Ran
ran_as b a = record { buffers = b; finished = a.done; stuck = a.stuck; refusal = number_of a.refusal }
