-- `compose_numbers` meets its contract: a number that is no record's is printed alone, as a report's is; else it is the text of `compose`.
use Rattle.std.proofs.Common.{ℕ, List, Result, sym, ap, ◌∙◌}
use Rattle.messages.specs.declared.answers.Report.{Report}
use Rattle.console.specs.Lines.{text_of}
use Rattle.console.specs.Numbers.{reported_by}
use Rattle.console.specs.Output.{Output, output_of}
use Rattle.console.proofs.NumberedLaws.{stopped_not, stopped_at, report_same, report_alone}
use Rattle.console.proofs.printing.compose_numbers.Goals as goal
use Rattle.console.proofs.printing.compose_numbers.Goals.{Start}

-- what is put out, by the report and by the text
abbrev told : Start → Result Report ℕ → Output
told q t = output_of (text_of q.args.done q.args.stuck q.args.refusal (reported_by t)) q.args.out.now

abbrev put : Start → List ℕ → Output
put q l = output_of l q.args.out.now

pub returns-in-Err : goal.returns-in-Err
returns-in-Err c =
    let q = (goal.at.returns-in-Err c).Start in
    c.refusal_text.ensures ∙ ap (put q) (stopped_not q.args.refusal c.in-Err.other (sym c.in-Err.is ∙ c.stopped_by.ensures) q.args.done q.args.stuck (reported_by q.args.report))

pub returns-in-Ok-report : goal.returns-in-Ok-report
returns-in-Ok-report c =
    let q = (goal.at.returns-in-Ok-report c).Start in
    let n = stopped_at q.args.refusal c.in-Ok.stopped (sym c.in-Ok.is ∙ c.stopped_by.ensures) in
    c.compose.ensures ∙ ap (put q) (λ i. text_of q.args.done q.args.stuck (n.0 i) (report_same c.in-Ok-report.report i)) ∙ ap (told q) (sym c.in-Ok-report.is)

pub returns-in-Err-report : goal.returns-in-Err-report
returns-in-Err-report c =
    let q = (goal.at.returns-in-Err-report c).Start in
    let n = stopped_at q.args.refusal c.in-Ok.stopped (sym c.in-Ok.is ∙ c.stopped_by.ensures) in
    c.refusal_text-in-Err-report.ensures ∙ ap (put q) (report_alone q.args.refusal n.1 q.args.done q.args.stuck c.in-Err-report.number) ∙ ap (told q) (sym c.in-Err-report.is)
