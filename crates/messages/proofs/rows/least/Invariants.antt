-- `least` meets its contract. The loop's invariant: the least of the four and of what is left is the least of all.
use Rattle.std.proofs.Common.{◌≡◌, ◌*◌, drop}
use Rattle.integers.specs.Least.{least_from}
use Rattle.messages.proofs.LeastLaws.{lesser}
use Rattle.messages.proofs.rows.least.Given as goal

abbrev pub invariant-loop-four : goal.invariant-loop-four
invariant-loop-four l = least_from (lesser l.a l.b l.c l.d) (drop (4 * l.four-index) l.row) ≡ least_from l.start l.row
