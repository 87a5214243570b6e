-- `leave` meets its contract: what is free is no label that a node can leave.
use Rattle.placing.proofs.Searching.{or_fails}
use mathlib.Core.Path.{sym, ◌∙◌}
use lib.Dec.{eqb}
use Rattle.integers.specs.Words.{bit}
use Rattle.placing.specs.Words.{entry}
use Rattle.placing.proofs.Leaving.{owning_left}
use Rattle.placing.proofs.seats.Seats.leave.Goals as goal

pub invariant_of-self-clause-owning : goal.invariant_of-self-clause-owning
invariant_of-self-clause-owning c =
    let s = c.args.self.now in let (fit, joined) = c.with_label-self.ensures in
    owning_left s.owning fit (λ x h e. (or_fails (bit s.free x) (eqb x (entry s.taken c.args.u)) (sym (joined x h) ∙ e)).0)
