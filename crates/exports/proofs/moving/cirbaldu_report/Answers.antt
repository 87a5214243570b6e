-- `cirbaldu_report` meets its contract.
use mathlib.Core.Path.{refl, sym, ap, ◌∙◌}
use Rattle.std.specs.Prelude.{Ok}
use Rattle.rules.specs.Costs.{Buffers}
use Rattle.messages.specs.Lent.{lent}
use Rattle.messages.specs.Answers.{reported_as}
use Rattle.exports.specs.Stored.{answered, unlent}
use Rattle.exports.specs.Moving.{number_of, values_in}
use Rattle.exports.proofs.AnswerLaws.{told_zero, reported_by, reported_ill}
use Rattle.exports.proofs.moving.cirbaldu_report.Goals as goal
use Rattle.exports.proofs.moving.cirbaldu_report.Goals.{Start}

-- the four buffers as they are lent
abbrev buffers : Start → Buffers
buffers q = lent q.args.nodes.now q.args.labels.now q.args.edges.now q.args.incumbent.now

pub returns-then-values-ne4 : goal.returns-then-values-ne4
returns-then-values-ne4 c =
    reported_ill c.args.sheet.now (buffers (goal.at.returns-then-values-ne4 c).Start) c.args.values.now c.if-values-ne4.true (c.refuse_length.ensures ∙ ap unlent c.read.ensures.refusal)

pub returns-in-Ok : goal.returns-in-Ok
returns-in-Ok c =
    ap (λ k. answered k c.store_report.new.values) (sym (told_zero c.in-Ok.told))
    ∙ reported_by c.args.sheet.now (buffers (goal.at.returns-in-Ok c).Start) c.args.values.now (reported_as (Ok c.in-Ok.told)) c.if-values-ne4.false c.in-Ok.ensures c.store_report.ensures

pub returns-in-Err : goal.returns-in-Err
unfolding number_of values_in
returns-in-Err c =
    ap (λ k. answered k c.args.values.now) c.from.ensures
    ∙ reported_by c.args.sheet.now (buffers (goal.at.returns-in-Err c).Start) c.args.values.now _ c.if-values-ne4.false (sym (ap reported_as c.in-Err.is) ∙ c.report.ensures) refl
