-- `copy` meets its contract.
use Prim.Native.Nat.{ℕ}
use native.Mathlib.Omega.{arith}
use mathlib.Core.Path.{ap, ◌∙◌}
use lib.ListN.{get_or}
use Rattle.integers.specs.Places.{tabulate}
use Rattle.integers.proofs.Filling.{fill_none, fill_more, fill_all}
use Rattle.exports.proofs.StoreLaws.{tabulate_each}
use Rattle.exports.proofs.storing.copy.Goals as goal

pub loop-i-init : goal.loop-i-init
loop-i-init c = fill_none _ _

pub loop-i-preserved : goal.loop-i-preserved
loop-i-preserved c = fill_more (λ k. get_or c.args.values.now k 0) 0 c.loop-i.invariant (omega arith)

pub returns : goal.returns
returns c =
    let vs = c.args.values.now in
    fill_all (λ k. get_or vs k 0) c.loop-i.invariant (omega arith) ∙ ap (λ (n : ℕ). tabulate n (λ k. get_or vs k 0)) c.requires ∙ tabulate_each vs 0
