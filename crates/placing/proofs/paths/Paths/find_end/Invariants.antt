-- `find_end` meets its contract: the rows of all steps so far were gone through.
use Prim.Native.Nat.{◌+◌, ◌-◌}
use mathlib.Core.Path.{◌≡◌}
use Rattle.placing.specs.Paths.{Searched, Chosen}
use Rattle.placing.proofs.paths.Paths.find_end.Given as goal

abbrev pub invariant-loop-l : goal.invariant-loop-l
invariant-loop-l l = (l.self.prices ≡ l.fn.self.prices) × Searched l.offers l.seats l.self l.root (l.self.step + 1) × Chosen l.self l.l

abbrev pub decreases-loop-l : goal.decreases-loop-l
decreases-loop-l l = 64 - l.self.step
