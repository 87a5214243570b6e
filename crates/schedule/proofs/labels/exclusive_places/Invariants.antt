-- `exclusive_places` meets its contract: one node after another.
use Rattle.std.proofs.Common.{◌≡◌, ◌≤◌, ◌*◌}
use Rattle.integers.specs.Places.{offset}
use Rattle.instance.specs.Sheet.{instance_of}
use Rattle.schedule.specs.Writing.{exclusive_count}
use Rattle.schedule.proofs.labels.exclusive_places.Given as goal

abbrev pub invariant-loop-u : goal.invariant-loop-u
invariant-loop-u l = (l.sum ≡ offset (exclusive_count (instance_of l.sheet.bytes.now)) l.u) × (l.sum ≤ 16 * l.u)
