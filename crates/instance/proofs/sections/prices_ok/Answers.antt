-- `prices_ok` meets its contract: each price is tested, and whether all passed is kept.
use Rattle.std.proofs.Common.{ℕ, ap, ◌∙◌, w32, to_z}
use Rattle.integers.specs.Checks.{within}
use Rattle.integers.proofs.Checks.{folded_none, folded_more}
use Rattle.instance.proofs.sections.prices_ok.Goals as goal

pub loop-i-init : goal.loop-i-init
loop-i-init c = folded_none _ _

pub loop-i-preserved : goal.loop-i-preserved
loop-i-preserved c =
    folded_more c.loop-i.invariant c.loop-i-test.true
    (c.price_ok-ok.ensures ∙ ap (λ (w : ℕ). within 1_000_000 (to_z w32 w)) c.word.ensures)
