-- The lines of a report that is not refused, by the report.
-- Assumes nothing.
use Rattle.std.proofs.Common.{◌≡◌, ℕ, Ok, ◌++◌, ℤ, refl}
use Rattle.messages.specs.declared.answers.Report.{Report}
use Rattle.messages.specs.declared.answers.Report.TheVariants.{Bound, Kept}
use Rattle.messages.specs.Answers.{reported_as, bound_of}
use Rattle.console.specs.Lines.{count_lines, bound_lines, cost_lines, stop_line, report_text}

-- with none kept, the bound alone
pub unkept_lines : (t : Report) → ((z p g : ℤ) → t ≡ Kept z p g → ⊥) → bound_lines (bound_of t) ≡ cost_lines (reported_as (Ok t))
unfolding cost_lines
unkept_lines (Bound z) h = refl
unkept_lines (Kept z p g) h = absurd (h z p g refl)

-- the counts, those lines and, where a record stopped the run, the sixth
pub told_lines : (d s r : ℕ) (t : Report) → count_lines d s ++ cost_lines (reported_as (Ok t)) ++ stop_line r ≡ report_text d s r (reported_as (Ok t))
unfolding report_text cost_lines
told_lines d s r (Bound z) = refl
told_lines d s r (Kept z p g) = refl
