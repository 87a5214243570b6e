-- `usable_least` meets its contract. The loop's invariant: `best` is the least usable cell before `from`, and the cells from there up to the k-th row are usable.
use Rattle.messages.proofs.UsableLeast.{Passing}
use Rattle.messages.proofs.usable.usable_least.Given as goal

abbrev pub invariant-loop-k : goal.invariant-loop-k
invariant-loop-k l = Passing l.low l.high l.cells l.best l.from l.k
