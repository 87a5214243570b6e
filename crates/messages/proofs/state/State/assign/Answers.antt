-- `assign` meets its contract: the node costs fit, and no others count.
use Rattle.std.proofs.Common.{sym, ◌∙◌}
use Rattle.instance.proofs.Sheets.{positions_is}
use Rattle.rules.specs.Assigned.{assignment}
use Rattle.messages.proofs.StateLaws.{nodes_fit}
use Rattle.messages.proofs.state.State.assign.Goals as goal

pub invariant_of-costed : goal.invariant_of-costed
invariant_of-costed c = let s = c.args.self.now in record { fit = ((nodes_fit s).size ∙ sym (positions_is s.run.now.sheet), (nodes_fit s).range) }

pub returns : goal.returns
unfolding assignment
returns c = c.cheapest.ensures
