-- `line` meets its contract: one piece after another.
-- Assumes nothing.
use mathlib.Core.Path.{◌∙◌}
use Rattle.console.specs.Lines.{line}
use Rattle.console.proofs.WritingLaws.{wrote_append, wrote_as}
use Rattle.console.proofs.text.Text.line.Goals as goal

pub returns-clause-wrote : goal.returns-clause-wrote
unfolding line
returns-clause-wrote g c =
    wrote_append (wrote_append c.put.ensures (wrote_as c.put-2.ensures (c.as_bytes.ensures.value ∙ c.format.ensures.text))) c.put-3.ensures
