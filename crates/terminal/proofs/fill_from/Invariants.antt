-- The bytes read so far lie in the buffer, and each turn reads some.
use Rattle.std.proofs.Common.{◌-◌, ◌≤◌, length}
use Rattle.terminal.proofs.fill_from.Given as goal

abbrev pub invariant-loop-done : goal.invariant-loop-done
invariant-loop-done g l = l.done ≤ length l.buffer

abbrev pub decreases-loop-done : goal.decreases-loop-done
decreases-loop-done g l = length l.buffer - l.done
