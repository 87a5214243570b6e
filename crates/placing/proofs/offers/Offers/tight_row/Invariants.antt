-- `tight_row` meets its contract: each turn is one of `Gathered`.
use Rattle.placing.proofs.TightLaws.{Gathered}
use Rattle.placing.proofs.offers.Offers.tight_row.Given as goal

abbrev pub invariant-loop-k : goal.invariant-loop-k
invariant-loop-k l = Gathered l.self l.prices l.u l.label l.row l.k
