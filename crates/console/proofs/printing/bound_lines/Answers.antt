-- `bound_lines` meets its contract: one line after another.
-- Assumes nothing.
use mathlib.Core.Path.{ap}
use Rattle.console.specs.Ascii.{ascii}
use Rattle.console.specs.Lines.{line, bound_lines}
use Rattle.console.proofs.DecimalLaws.{signed_is}
use Rattle.console.proofs.WritingLaws.{wrote_append, wrote_as}
use Rattle.console.proofs.printing.bound_lines.Goals as goal

pub returns-clause-wrote : goal.returns-clause-wrote
unfolding bound_lines
returns-clause-wrote c =
    let bound = wrote_as c.line.ensures.wrote (ap (line (ascii "bound ")) (signed_is c.ranges.bound)) in
    wrote_append (wrote_append bound c.put.ensures) c.put-2.ensures
