-- `node_lows` meets its contract: they are the two least of the costs gone through.
use Rattle.std.proofs.Common.{◌-◌, get_or, pos}
use Rattle.integers.specs.Places.{range}
use Rattle.messages.specs.EdgeMessage.{unbounded}
use Rattle.messages.specs.Lows.{Lowest}
use Rattle.messages.proofs.lows.node_lows.Given as goal

abbrev pub invariant-loop-i : goal.invariant-loop-i
invariant-loop-i l = Lowest unbounded (λ j. get_or l.costs j (pos 0)) (range l.from (l.i - l.from)) l.all
