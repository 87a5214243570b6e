-- `label_leasts` meets its contract: the places are gone through, each label's least kept in its place.
use Rattle.std.proofs.Common.{◌≡◌}
use Rattle.instance.specs.Sheet.{instance_of}
use Rattle.messages.specs.Bounds.{least_labels}
use Rattle.messages.proofs.bound.label_leasts.Given as goal

abbrev pub invariant-loop-i : goal.invariant-loop-i
invariant-loop-i l = l.least ≡ least_labels (instance_of l.held.sheet.now.bytes.now) l.held.lent.labels.now l.i
