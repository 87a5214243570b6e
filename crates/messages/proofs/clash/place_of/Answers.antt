-- `place_of` meets its contract: what the library finds is the one place.
use Rattle.std.proofs.Common.{◌≡◌, true, false, rules}
use borrow.Author.Tests.{tests}
use Rattle.std.proofs.lemmas.Iterator.{IsFirst-from_position, YieldsList-from_slice}
use Rattle.instance.specs.Instance.{usable}
use Rattle.messages.proofs.ClashLaws.{skips_found}
use Rattle.messages.proofs.clash.place_of.Goals as goal

pub returns : goal.returns
returns c =
    let l = c.args.labels.now in
    skips_found c.position.result c.requires
    (IsFirst-from_position _ _ _ (λ k. usable c.args.label k ≡ false) (λ k. usable c.args.label k ≡ true) c.position.ensures.ran (YieldsList-from_slice l (cc)) (λ x q k. search (rules, tests)) (λ x q k. search (rules, tests)))
