-- `each_usable` meets its contract: each edge is tested.
use Rattle.std.proofs.Common.{◌≡◌, ℕ, not, true, false, refl, ap, ◌∙◌, rules, arith, List}
use Rattle.std.proofs.lemmas.Iterator.{cases_from_all, YieldsList-from_range}
use borrow.Author.Tests.{tests}
use Rattle.integers.specs.Checks.{below}
use Rattle.instance.specs.declared.cells.Cells.{Cells}
use Rattle.instance.specs.Sheet.{none_usable, usable_ok}
use Rattle.instance.proofs.Told.{range_told}
use Rattle.instance.proofs.cells.Cells.each_usable.Goals as goal

pub returns : goal.returns
unfolding usable_ok
returns c =
    let x : Cells = c.args.self.now in
    let s : List ℕ = x.bytes.now in
    range_told x.edges (λ e. not (none_usable s e)) c.all.result
    (cases_from_all _ _ _ (λ e. not (none_usable s e) ≡ true) (λ e. not (none_usable s e) ≡ false) c.all.ensures.ran (YieldsList-from_range 0 x.edges x.edges refl (omega arith)) (λ e q k. search (rules, tests)) (λ e q k. search (rules, tests)))
    ∙ ap (λ (n : ℕ). below n (λ e. not (none_usable s e))) x.all
