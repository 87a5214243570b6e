-- `each_in_range` meets its contract: what each cost gives is joined, so the test at the end is that of each cost.
use Rattle.std.proofs.Common.{length, get_or, pos}
use Rattle.integers.specs.Checks.{within}
use Rattle.messages.proofs.ExcessLaws.{Joining}
use Rattle.messages.proofs.rows.each_in_range.Given as goal

abbrev pub invariant-loop-cost : goal.invariant-loop-cost
invariant-loop-cost l = Joining (λ j. within l.limit.most (get_or l.costs j (pos 0))) (length l.costs) l.cost-index l.all
