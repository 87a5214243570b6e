-- `kept_lines` meets its contract: one line after another.
-- Assumes nothing.
use mathlib.Core.Path.{ap}
use Rattle.console.specs.Ascii.{ascii}
use Rattle.console.specs.Lines.{line, kept_lines}
use Rattle.console.proofs.DecimalLaws.{signed_is}
use Rattle.console.proofs.WritingLaws.{wrote_append, wrote_as}
use Rattle.console.proofs.printing.kept_lines.Goals as goal

pub returns-clause-wrote : goal.returns-clause-wrote
unfolding kept_lines
returns-clause-wrote c =
    let bound = wrote_as c.line.ensures.wrote (ap (line (ascii "bound ")) (signed_is c.ranges.bound)) in
    let cost = wrote_as c.line-2.ensures.wrote (ap (line (ascii "cost ")) (signed_is c.ranges.cost)) in
    let gap = wrote_as c.line-3.ensures.wrote (ap (line (ascii "gap ")) (signed_is c.ranges.gap)) in
    wrote_append (wrote_append bound cost) gap
