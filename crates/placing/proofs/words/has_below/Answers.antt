-- `has_below` meets its contract: a label that is not above the lowest is above none.
use native.Mathlib.Omega.{arith}
use borrow.Author.Tests.{ltb-false}
use Rattle.integers.proofs.Words.{some_bit}
use Rattle.placing.proofs.Taking.{least_of, least_below}
use Rattle.placing.proofs.words.has_below.Goals as goal

pub returns-then-word-ne0 : goal.returns-then-word-ne0
returns-then-word-ne0 c f x e =
    let word = c.args.word in let l = c.lowest.result in
    let low = least_below word l (least_of word l c.ranges.word.fits c.if-word-ne0.true c.lowest.ensures) x e in
    omega (arith, ltb-false c.lowest.result c.args.label f)

pub returns-else-word-ne0 : goal.returns-else-word-ne0
returns-else-word-ne0 c f x e = absurd (some_bit c.args.word x e c.if-word-ne0.false)
