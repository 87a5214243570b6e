-- `count_lines` meets its contract: one line after another.
-- Assumes nothing.
use mathlib.Core.Path.{ap}
use native.Mathlib.Omega.{arith}
use Rattle.console.specs.Ascii.{ascii}
use Rattle.console.specs.Lines.{line, count_lines}
use Rattle.console.proofs.DecimalLaws.{decimal_is}
use Rattle.console.proofs.WritingLaws.{wrote_append, wrote_as}
use Rattle.console.proofs.printing.count_lines.Goals as goal

pub returns-clause-wrote : goal.returns-clause-wrote
unfolding count_lines
returns-clause-wrote c =
    let a = c.args in
    wrote_append (wrote_as c.line.ensures.wrote (ap (line (ascii "done ")) (decimal_is a.done (omega arith))))
    (wrote_as c.line-2.ensures.wrote (ap (line (ascii "stuck ")) (decimal_is a.stuck (omega arith))))
