-- `candidate` meets its contract: each way has its own.
use Rattle.std.proofs.Common.{sym, ap, ◌∙◌}
use Rattle.rules.specs.Assigned.{candidate}
use Rattle.messages.specs.Records.{way_of}
use Rattle.messages.specs.Rounded.{costs_by}
use Rattle.messages.specs.State.{instance_in}
use Rattle.placing.specs.Assigning.{rounded_by}
use Rattle.messages.proofs.state.State.candidate.Goals as goal

pub returns-in-InTurn : goal.returns-in-InTurn
unfolding candidate
returns-in-InTurn c = let s = c.args.self.now in c.round_all.ensures ∙ sym (ap (λ w. rounded_by (candidate (instance_in s) (costs_by s.nodes.now s.edges.now) (way_of w))) c.in-InTurn.is)

pub returns-in-AtOnce : goal.returns-in-AtOnce
unfolding candidate
returns-in-AtOnce c = let s = c.args.self.now in c.assign.ensures ∙ sym (ap (λ w. rounded_by (candidate (instance_in s) (costs_by s.nodes.now s.edges.now) (way_of w))) c.in-AtOnce.is)
