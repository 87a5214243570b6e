-- `raise` meets its contract: the labels of the steps so far are raised.
use Rattle.placing.specs.Paths.{far_of, RaisedTo}
use Rattle.placing.proofs.paths.Paths.raise.Given as goal

abbrev pub invariant-loop-i : goal.invariant-loop-i
invariant-loop-i l = RaisedTo l.fn.self l.self (far_of l.fn.self l.end) l.i
