-- `unpriced` meets its contract: the labels so far.
use Rattle.placing.proofs.TightLaws.{Untagged}
use Rattle.placing.proofs.tight.unpriced.Given as goal

abbrev pub invariant-loop-label : goal.invariant-loop-label
invariant-loop-label l = Untagged l.prices l.idle l.label
