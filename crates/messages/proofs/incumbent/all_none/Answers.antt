-- `all_none` meets its contract.
use Rattle.std.proofs.Common.{◌≡◌, true, false, eqb, rules}
use borrow.Author.Tests.{tests}
use Rattle.std.proofs.lemmas.Iterator.{cases_from_all, YieldsList-from_slice}
use Rattle.messages.proofs.RowLaws.{every_found}
use Rattle.messages.proofs.incumbent.all_none.Goals as goal

pub returns : goal.returns
returns c =
    let l = c.args.x.now in
    every_found (eqb 255) l 0 c.all.result
    (cases_from_all _ _ _ (λ k. eqb 255 k ≡ true) (λ k. eqb 255 k ≡ false) c.all.ensures.ran (YieldsList-from_slice l (cc)) (λ x q k. search (rules, tests)) (λ x q k. search (rules, tests)))
