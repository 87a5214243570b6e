-- `label_record` meets its contract: a legal record moves one way or the other, another is refused.
use Rattle.std.proofs.Common.{sym, ◌∙◌}
use Rattle.messages.specs.Records.{to_node}
use Rattle.messages.specs.State.{instance_in, limit_in}
use Rattle.messages.proofs.RecordLaws.{label_refused}
use Rattle.messages.proofs.StateLaws.{label_left}
use Rattle.messages.proofs.state.State.label_record.Goals as goal

pub move_label-requires : goal.move_label-requires
move_label-requires c = sym c.legal_position.ensures ∙ c.if-legal_position.true

pub returns-else-legal_position-clause-left : goal.returns-else-legal_position-clause-left
returns-else-legal_position-clause-left c =
    let a = c.args in
    label_left a.self.now a.flow a.step
    (label_refused (instance_in a.self.now) (limit_in a.self.now) a.self.now.nodes.now a.self.now.labels.now (to_node a.flow) a.step.node a.step.index a.step.share (sym c.legal_position.ensures ∙ c.if-legal_position.false))
