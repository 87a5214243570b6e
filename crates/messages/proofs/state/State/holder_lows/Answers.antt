-- `holder_lows` meets its contract: the places of a label are the row of the index.
use Rattle.std.proofs.Common.{ℕ, List, get_or, pos, ◌∙◌, subst, arith}
use Rattle.rules.specs.Places.{label_places}
use Rattle.messages.specs.LabelMessage.{Holders}
use Rattle.messages.specs.Lows.{Lowest}
use Rattle.messages.proofs.IndexLaws.{made_is, row_keyed, row_apart}
use Rattle.messages.proofs.StateLaws.{labels_fit}
use Rattle.messages.proofs.state.State.holder_lows.Goals as goal
use Rattle.messages.proofs.state.State.holder_lows.Goals.{After-row}

held : (p : After-row) → Holders p.args.self.now.run.now.sheet.bytes.now p.unwrap-holders.result.now
held p = made_is p.args.self.now.held p.as_ref.ensures.value p.unwrap-holders.ensures

pub label_lows-requires-clause-inside : goal.label_lows-requires-clause-inside
label_lows-requires-clause-inside c = λ j h. omega (arith, (row_keyed (held c) c.requires.label c.row.ensures.things h).1, (labels_fit c.args.self.now).size)

pub label_lows-requires-clause-apart : goal.label_lows-requires-clause-apart
label_lows-requires-clause-apart c = row_apart (held (goal.at.label_lows-requires-clause-apart c).After-row) c.requires.label c.row.ensures.things

pub returns : goal.returns
unfolding label_places
returns c =
    let p = (goal.at.returns c).After-row in
    subst (λ (k : List ℕ). Lowest (pos 0) (λ i. get_or c.args.self.now.labels.now i (pos 0)) k c.label_lows.result) (p.row.ensures.things ∙ (held p).rows c.args.l c.requires.label) c.label_lows.ensures
