-- What is at hand wherever a run is under way or a report is made: the lent costs fit the sheet, and a record leaves what is good good.
-- Assumes nothing.
use Rattle.std.proofs.Common.{◌≡◌, ℕ, List, sym, ap, ◌∙◌, arith}
use Rattle.rules.specs.Costs.{Buffers}
use Rattle.rules.specs.Calls.{cost_limit, lent_refusal}
use Rattle.rules.specs.Assigned.{Way}
use Rattle.rules.specs.Run as runs
use Rattle.messages.specs.declared.checked.Checked.{Checked}
use Rattle.messages.specs.declared.records.Flow.{Flow}
use Rattle.messages.specs.declared.records.Record.{Record}
use Rattle.messages.specs.declared.state.State.{State}
use Rattle.messages.specs.Lent.{lent, lent_of, NodeFits, EdgeFits}
use Rattle.messages.specs.State.{Same, instance_in, limit_in, buffers_in, leaves}
use Rattle.messages.specs.Step.{settle}
use Rattle.messages.specs.EdgeRecord.{EdgeMove, CostsWithin}
use Rattle.messages.specs.LabelMessage.{Moved}
use Rattle.messages.specs.Records.{to_node, edge_message, label_message, edge_taken, label_taken}
use Rattle.messages.specs.RoundRecord.{RoundMove, round_taken, IncumbentFits}
use Rattle.messages.specs.Turn.{Good}
use Rattle.messages.proofs.LentLaws.{within_of}
use Rattle.messages.proofs.EdgeRecordLaws.{edge_settled}
use Rattle.messages.proofs.RoundRecordLaws.{round_settled_lem}
use Rattle.messages.proofs.TurnLaws.{good_lent, fit, incumbent_fits, not_refused, good_next, label_settled, edge_turn, label_turn}

-- ---- a run

module _ (s : State) where
  abbrev bytes : List ℕ
  bytes = s.run.now.sheet.bytes.now

  pub good : Good bytes (limit_in s) (buffers_in s)
  good = good_lent bytes (limit_in s) (buffers_in s) s.good

  all_fit : NodeFits bytes s.nodes.now × NodeFits bytes s.labels.now × EdgeFits bytes s.edges.now
  all_fit = fit good s.run.now.limit.few

  pub nodes_fit : NodeFits bytes s.nodes.now
  nodes_fit = all_fit.0

  pub labels_fit : NodeFits bytes s.labels.now
  labels_fit = all_fit.1

  pub edges_fit : EdgeFits bytes s.edges.now
  edges_fit = all_fit.2

  -- each within the limit of the call
  pub costs_within : CostsWithin (limit_in s) s.nodes.now s.edges.now
  costs_within = within_of bytes (limit_in s) (buffers_in s) good.ranged

  pub kept_fits : IncumbentFits bytes s.incumbent.now
  kept_fits = incumbent_fits good

  -- a record of some kind leaves what is good good
  pub good_after : (kind : runs.Kind) (r : Record) {b : Buffers} {stuck refusal : ℕ} → settle b stuck refusal ≡ leaves s kind r → lent_refusal bytes (limit_in s) b ≡ 0
  good_after kind r e = not_refused (good_next good kind r.node r.index r.share e)

  -- what a message leaves, of an edge and of a label
  pub edge_left : (flow : Flow) (r : Record) {m : EdgeMove} → m ≡ edge_taken (instance_in s) (limit_in s) s.nodes.now s.edges.now (to_node flow) r.node r.index r.share
      → edge_settled (buffers_in s) m ≡ leaves s (runs.message (edge_message flow)) r
  edge_left flow r e = ap (edge_settled (buffers_in s)) e ∙ sym (edge_turn good flow r.node r.index r.share)

  pub label_left : (flow : Flow) (r : Record) {m : Moved} → m ≡ label_taken (instance_in s) (limit_in s) s.nodes.now s.labels.now (to_node flow) r.node r.index r.share
      → label_settled (buffers_in s) m ≡ leaves s (runs.message (label_message flow)) r
  label_left flow r e = ap (label_settled (buffers_in s)) e ∙ sym (label_turn good flow r.node r.index r.share)

  -- and a rounding
  pub rounding_left : (w : Way) (r : Record) {m : RoundMove} → m ≡ round_taken (instance_in s) s.nodes.now s.edges.now s.incumbent.now w r.node r.index r.share
      → settle (lent s.nodes.now s.labels.now s.edges.now m.incumbent) m.stuck m.refusal ≡ leaves s (runs.rounding w) r
  rounding_left w r e = round_settled_lem (instance_in s) (limit_in s) (buffers_in s) w r.node r.index r.share e

-- a record after others
pub same_after : {s t u : State} → Same s t → Same t u → Same s u
same_after p q = record { run = q.run ∙ p.run; nodes = q.nodes ∙ p.nodes; labels = q.labels ∙ p.labels; edges = q.edges ∙ p.edges; incumbent = q.incumbent ∙ p.incumbent }

-- ---- a report

module _ (x : Checked) where
  abbrev sheet : List ℕ
  sheet = x.sheet.now.bytes.now

  held : NodeFits sheet x.lent.nodes.now × NodeFits sheet x.lent.labels.now × EdgeFits sheet x.lent.edges.now
  held = fit (good_lent sheet cost_limit (lent_of x.lent) x.good) (omega arith)

  pub nodes_held : NodeFits sheet x.lent.nodes.now
  nodes_held = held.0

  pub labels_held : NodeFits sheet x.lent.labels.now
  labels_held = held.1

  pub edges_held : EdgeFits sheet x.lent.edges.now
  edges_held = held.2
