-- `told_text` meets its contract: one part after another.
-- Assumes nothing.
use Rattle.instance.specs.Refusal.{number_of}
use Rattle.console.proofs.ReportLaws.{told_lines}
use Rattle.console.proofs.WritingLaws.{wrote_append, wrote_as}
use Rattle.console.proofs.printing.told_text.Goals as goal

pub returns : goal.returns
returns c =
    let a = c.args.answer in
    wrote_as (wrote_append (wrote_append c.count_lines.ensures.wrote c.cost_lines.ensures.wrote) c.stop_line.ensures) (told_lines a.done a.stuck (number_of a.refusal) c.args.report)
