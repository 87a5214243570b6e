-- `best_two` meets its contract: each turn is one of `Two`.
use Rattle.placing.specs.Words.{entry}
use Rattle.placing.proofs.Bidding.{Two}
use Rattle.placing.proofs.bids.best_two.Given as goal

abbrev pub invariant-loop-k : goal.invariant-loop-k
invariant-loop-k l = Two l.offers l.prices l.u (entry l.labels) l.k l.label l.least l.second
