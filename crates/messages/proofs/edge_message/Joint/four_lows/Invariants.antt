-- `four_lows` meets its contract. The loop's invariant: each of the four is the least of its position's first i cells.
use Rattle.std.proofs.Common.{◌≡◌, ◌+◌, None}
use Rattle.messages.proofs.StrideLaws.{low_so_far}
use Rattle.messages.proofs.edge_message.Joint.four_lows.Given as goal

abbrev pub invariant-loop-i : goal.invariant-loop-i
invariant-loop-i l =
    (l.a ≡ low_so_far l.self l.k None l.i) × (l.b ≡ low_so_far l.self (l.k + 1) None l.i) × (l.c ≡ low_so_far l.self (l.k + 2) None l.i) × (l.d ≡ low_so_far l.self (l.k + 3) None l.i)
