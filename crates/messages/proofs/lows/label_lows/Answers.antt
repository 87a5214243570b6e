-- `label_lows` meets its contract: they are the two least of 0 and the costs gone through.
use Rattle.std.proofs.Common.{ℕ, [], ◌+◌, get_or, take, ℤ, pos, List, sym, ap, ◌∙◌, subst, to_z-of_z, w64, rules, take_all}
use Rattle.integers.proofs.Parts.{linear}
use Rattle.messages.specs.Lows.{Lowest, lows_with}
use Rattle.messages.proofs.LowLaws.{lowest_none, lowest_take}
use Rattle.messages.proofs.lows.label_lows.Goals as goal

pub loop-place-init : goal.loop-place-init
loop-place-init c =
    let f : ℕ → ℤ = (λ j. get_or c.args.costs.now j (pos 0)) in
    subst (Lowest (pos 0) f []) (sym c.of-all.ensures) (lowest_none (pos 0) f (omega linear))

pub loop-place-preserved : goal.loop-place-preserved
loop-place-preserved c =
    let f : ℕ → ℤ = (λ j. get_or c.args.costs.now j (pos 0)) in
    let p = c.loop-place in
    subst (Lowest (pos 0) f (take (p.place-index + 1) c.args.places.now))
    (sym (c.with-all.ensures ∙ ap (lows_with p.all) (to_z-of_z {w = w64} {z = f c.from.result} (search rules) ∙ ap f c.from.ensures)))
    (lowest_take c.args.places.now c.requires.apart p.place-index c.loop-place-test.true p.invariant)

pub returns : goal.returns
returns c =
    let f : ℕ → ℤ = (λ j. get_or c.args.costs.now j (pos 0)) in
    let p = c.loop-place in
    subst (λ (k : List ℕ). Lowest (pos 0) f k p.all) (take_all p.place-index c.args.places.now c.loop-place-test.false) p.invariant
