-- `label_lows` meets its contract: they are the two least of 0 and the costs gone through.
use Rattle.std.proofs.Common.{get_or, take, pos}
use Rattle.messages.specs.Lows.{Lowest}
use Rattle.messages.proofs.lows.label_lows.Given as goal

abbrev pub invariant-loop-place : goal.invariant-loop-place
invariant-loop-place l = Lowest (pos 0) (λ j. get_or l.costs j (pos 0)) (take l.place-index l.places) l.all
