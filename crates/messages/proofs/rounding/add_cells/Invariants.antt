-- `add_cells` meets its contract: after i places the row's first i are added.
use Rattle.std.proofs.Common.{◌≡◌, ◌≤◌, length, take}
use Rattle.messages.specs.Rounded.{added}
use Rattle.messages.proofs.rounding.add_cells.Given as goal

abbrev pub invariant-loop-i : goal.invariant-loop-i
invariant-loop-i l = (l.i ≤ length l.row) × (l.keys ≡ added l.initial.keys (take l.i l.row))
