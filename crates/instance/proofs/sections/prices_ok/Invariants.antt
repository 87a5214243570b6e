-- `prices_ok` meets its contract: each price is tested, and whether all passed is kept.
use Rattle.integers.proofs.Checks.{Folded}
use Rattle.instance.specs.Passes.{price_ok}
use Rattle.instance.proofs.sections.prices_ok.Given as goal

abbrev pub invariant-loop-i : goal.invariant-loop-i
invariant-loop-i l = Folded (price_ok l.sheet l.at) l.count l.i l.ok
