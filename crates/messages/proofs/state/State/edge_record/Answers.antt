-- `edge_record` meets its contract: a legal record moves, another is refused.
use Rattle.std.proofs.Common.{◌≡◌, true, sym, ◌∙◌}
use Rattle.instance.specs.Refusal.{refused_in}
use Rattle.rules.specs.Run.{message, legal_edge}
use Rattle.messages.specs.EdgeRecord.{edge_move}
use Rattle.messages.specs.Records.{to_node, edge_message, edge_taken}
use Rattle.messages.specs.State.{instance_in, limit_in}
use Rattle.messages.proofs.RecordLaws.{edge_taken_lem, edge_refused, edge_legal}
use Rattle.messages.proofs.StateLaws.{nodes_fit, edges_fit, costs_within, edge_left, good_after}
use Rattle.messages.proofs.state.State.edge_record.Goals as goal
use Rattle.messages.proofs.state.State.edge_record.Goals.{After-move_edge, Start, Then-legal_edge}

module _ (p : Then-legal_edge) where
  abbrev start : Start
  start = (goal.at.Then-legal_edge p).Start

  legal : legal_edge (instance_in start.args.self.now) start.args.step.node start.args.step.index start.args.step.share ≡ true
  legal = sym p.legal_edge.ensures ∙ p.if-legal_edge.true

-- what the move leaves
moved : (m : After-move_edge) → (let a = m.args in edge_move (refused_in m.move_edge.result) m.move_edge.new.nodes m.move_edge.new.edges
    ≡ edge_taken (instance_in a.self.now) (limit_in a.self.now) a.self.now.nodes.now a.self.now.edges.now (to_node a.flow) a.step.node a.step.index a.step.share)
moved m =
    let a = m.args in
    m.move_edge.ensures ∙ edge_taken_lem (instance_in a.self.now) (limit_in a.self.now) a.self.now.nodes.now a.self.now.edges.now (to_node a.flow) a.step.node a.step.index a.step.share (legal (goal.at.After-move_edge m).Then-legal_edge)

pub move_edge-requires : goal.move_edge-requires
move_edge-requires c =
    let a = c.args in
    edge_legal (nodes_fit a.self.now) (edges_fit a.self.now) (costs_within a.self.now) a.step.node a.step.index a.step.share (legal (goal.at.move_edge-requires c).Then-legal_edge)

pub invariant_of-self : goal.invariant_of-self
invariant_of-self c = let s = c.args.self.now in record { held = s.held; lowered = s.lowered; knows = λ x e. cc e; good = s.good }

pub invariant_of-self-then-legal_edge : goal.invariant_of-self-then-legal_edge
invariant_of-self-then-legal_edge c =
    let a = c.args in
    record { held = a.self.now.held; lowered = a.self.now.lowered; knows = λ x e. cc e; good = good_after a.self.now (message (edge_message a.flow)) a.step (edge_left a.self.now a.flow a.step (moved (goal.at.invariant_of-self-then-legal_edge c).After-move_edge)) }

pub returns-then-legal_edge-clause-left : goal.returns-then-legal_edge-clause-left
returns-then-legal_edge-clause-left c =
    let a = c.args in edge_left a.self.now a.flow a.step (moved (goal.at.returns-then-legal_edge-clause-left c).After-move_edge)

pub returns-else-legal_edge-clause-left : goal.returns-else-legal_edge-clause-left
returns-else-legal_edge-clause-left c =
    let a = c.args in
    edge_left a.self.now a.flow a.step
    (edge_refused (instance_in a.self.now) (limit_in a.self.now) a.self.now.nodes.now a.self.now.edges.now (to_node a.flow) a.step.node a.step.index a.step.share (sym c.legal_edge.ensures ∙ c.if-legal_edge.false))
