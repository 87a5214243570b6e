-- `choose` meets its contract: after k positions the best is that of the first k.
use Rattle.std.proofs.Common.{◌≡◌}
use Rattle.instance.specs.Instance.{first}
use Rattle.instance.specs.Sheet.{instance_of}
use Rattle.messages.specs.Rounded.{chosen_from}
use Rattle.messages.proofs.rounding.choose.Given as goal

abbrev pub invariant-loop-k : goal.invariant-loop-k
invariant-loop-k l = l.best ≡ chosen_from (instance_of l.sheet.bytes.now) (first (instance_of l.sheet.bytes.now) l.u) l.keys l.untaken l.k
