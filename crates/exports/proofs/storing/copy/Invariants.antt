-- The places before this one have the values.
use lib.ListN.{get_or}
use Rattle.integers.proofs.Filling.{Filling}
use Rattle.exports.proofs.storing.copy.Given as goal

abbrev pub invariant-loop-i : goal.invariant-loop-i
invariant-loop-i l = Filling (λ k. get_or l.values k 0) l.initial.lent l.lent l.i
