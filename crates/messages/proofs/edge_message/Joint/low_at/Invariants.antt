-- `low_at` meets its contract. The loops' invariants: `best` is the least of the position's first i cells but for `skip`, where i is before it, and where i is after it.
use Rattle.std.proofs.Common.{◌≡◌}
use Rattle.messages.proofs.StrideLaws.{low_so_far, Past}
use Rattle.messages.proofs.edge_message.Joint.low_at.Given as goal

abbrev pub invariant-loop-i : goal.invariant-loop-i
invariant-loop-i l = l.best ≡ low_so_far l.self l.k l.fn.skip l.i

abbrev pub invariant-loop-i-2 : goal.invariant-loop-i-2
invariant-loop-i-2 l = Past l.self l.k l.fn.skip l.gap l.i l.best
