-- `least_in_turn` meets its contract. The loop's invariant: the least of `best` and of what is left is the least of all.
use Rattle.std.proofs.Common.{◌≡◌, drop}
use Rattle.integers.specs.Least.{least_from}
use Rattle.messages.proofs.rows.least_in_turn.Given as goal

abbrev pub invariant-loop-cost : goal.invariant-loop-cost
invariant-loop-cost l = least_from l.best (drop l.cost-index l.row) ≡ least_from l.start l.row
