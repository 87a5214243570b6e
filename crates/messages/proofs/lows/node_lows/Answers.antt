-- `node_lows` meets its contract: they are the two least of the costs gone through.
use Rattle.std.proofs.Common.{◌≡◌, ℕ, [], ◌+◌, ◌-◌, get_or, ℤ, pos, sym, ap, ◌∙◌, subst, arith, to_z-of_z, w64, rules}
use Rattle.integers.specs.Places.{range}
use Rattle.messages.specs.EdgeMessage.{unbounded}
use Rattle.messages.specs.Lows.{Lowest, lows_with}
use Rattle.messages.proofs.LowLaws.{lowest_none, lowest_range}
use Rattle.integers.proofs.Order.{le_refl}
use Rattle.messages.proofs.lows.node_lows.Goals as goal

pub loop-i-init : goal.loop-i-init
unfolding range
loop-i-init c =
    let a = c.args.from in
    let f : ℕ → ℤ = (λ j. get_or c.args.costs.now j (pos 0)) in
    let z : a - a ≡ 0 = omega arith in
    rw z (subst (Lowest unbounded f []) (sym c.of-all.ensures) (lowest_none unbounded f (le_refl unbounded)))

pub loop-i-preserved : goal.loop-i-preserved
loop-i-preserved c =
    let f : ℕ → ℤ = (λ j. get_or c.args.costs.now j (pos 0)) in
    let i = c.loop-i.i in
    subst (Lowest unbounded f (range c.args.from (i + 1 - c.args.from)))
    (sym (c.with-all.ensures ∙ ap (lows_with c.loop-i.all) (to_z-of_z {w = w64} {z = f i} (search rules))))
    (lowest_range (omega arith) c.loop-i.invariant)
