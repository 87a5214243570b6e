-- The lines of a run and of the report after it: document 01, "The sample".
use Rattle.std.specs.Prelude.{Bool, cond, ◌||◌, List, [], ◌∷◌, ◌++◌, ℕ, eqb, ℤ}
use Rattle.rules.specs.Calls.{Report, refused, bound, kept}
use Rattle.console.specs.Decimal.{decimal, signed}
use Rattle.console.specs.Ascii.{ascii}

-- a name and a value, ended by a newline
unfoldable pub line : List ℕ → List ℕ → List ℕ
line name value = name ++ value ++ (10 ∷ [])

unfoldable pub refused_line : ℕ → List ℕ
refused_line r = line (ascii "refused ") (decimal r)

-- "records done, roundings stuck"
unfoldable pub count_lines : ℕ → ℕ → List ℕ
count_lines d s = line (ascii "done ") (decimal d) ++ line (ascii "stuck ") (decimal s)

-- "bound, kept cost, gap"
unfoldable pub kept_lines : ℤ → ℤ → ℤ → List ℕ
kept_lines z p g = line (ascii "bound ") (signed z) ++ line (ascii "cost ") (signed p) ++ line (ascii "gap ") (signed g)

-- "With none kept, `cost none` and `gap none`"
unfoldable pub bound_lines : ℤ → List ℕ
bound_lines z = line (ascii "bound ") (signed z) ++ ascii "cost none\n" ++ ascii "gap none\n"

-- the three lines of a report that is not refused
unfoldable pub cost_lines : Report → List ℕ
cost_lines (refused k) = []
cost_lines (bound z) = bound_lines z
cost_lines (kept z p g) = kept_lines z p g

-- a run that ended, or stopped at a record (12 or 13)
unfoldable pub at_records : ℕ → Bool
at_records r = eqb r 0 || eqb r 12 || eqb r 13

-- "A run stopped at a record adds a sixth line"
unfoldable pub stop_line : ℕ → List ℕ
stop_line r = cond (eqb r 0) [] (refused_line r)

-- of a run's counts d, s and refusal r, and the report after it
unfoldable pub report_text : ℕ → ℕ → ℕ → Report → List ℕ
report_text d s r (refused k) = refused_line k
report_text d s r (bound z) = count_lines d s ++ bound_lines z ++ stop_line r
report_text d s r (kept z p g) = count_lines d s ++ kept_lines z p g ++ stop_line r

-- "any other refusal, 11 included, prints that line only"
unfoldable pub text_of : ℕ → ℕ → ℕ → Report → List ℕ
text_of d s r t = cond (at_records r) (report_text d s r t) (refused_line r)
