-- `check_lent` meets its contract: the checks in their order, each by what its function found.
use Rattle.std.proofs.Common.{◌≡◌, true, sym, ◌∙◌}
use Rattle.instance.specs.Sheet.{instance_of}
use Rattle.rules.specs.Costs.{Buffers, in_range}
use Rattle.rules.specs.Calls.{lengths_ok}
use Rattle.messages.specs.Lent.{lent_of}
use Rattle.messages.proofs.LentLaws.{lengths_by, lent_unfit, lent_far, lent_unmatched, lent_good, range_by}
use Rattle.messages.proofs.lent.check_lent.Goals as goal
use Rattle.messages.proofs.lent.check_lent.Goals.{After-incumbent_ok, Else-not-lengths_agree, Start}

abbrev lends : Start → Buffers
lends q = lent_of q.args.lent

-- past the lengths
module _ (p : Else-not-lengths_agree) where
  abbrev start : Start
  start = (goal.at.Else-not-lengths_agree p).Start

  agreed : lengths_ok (instance_of p.args.sheet.now.bytes.now) (lends start) ≡ true
  agreed = lengths_by p.args.sheet.now (lends start) ∙ sym p.lengths_agree.ensures ∙ p.if-not-lengths_agree.false

-- past the costs
module _ (p : After-incumbent_ok) where
  abbrev fit : Else-not-lengths_agree
  fit = (goal.at.After-incumbent_ok p).Else-not-lengths_agree

  ranged : in_range p.args.limit.most (lends (start fit)) ≡ true
  ranged = range_by p.args.sheet.now.bytes.now p.args.limit.most (lends (start fit)) ∙ sym p.costs_ok.ensures ∙ p.if-not-costs_ok.false

pub returns-then-not-lengths_agree : goal.returns-then-not-lengths_agree
returns-then-not-lengths_agree c =
    let q = c.args.sheet.now in
    let b = lends (goal.at.returns-then-not-lengths_agree c).Start in
    lent_unfit q.bytes.now c.args.limit.most b q.readable (lengths_by q b ∙ sym c.lengths_agree.ensures ∙ c.if-not-lengths_agree.true)

pub returns-then-not-costs_ok : goal.returns-then-not-costs_ok
returns-then-not-costs_ok c =
    let p = (goal.at.returns-then-not-costs_ok c).Else-not-lengths_agree in
    let q = c.args.sheet.now in
    let b = lends (start p) in
    lent_far q.bytes.now c.args.limit.most b q.readable (agreed p) (range_by q.bytes.now c.args.limit.most b ∙ sym c.costs_ok.ensures ∙ c.if-not-costs_ok.true)

pub returns-then-not-incumbent_ok : goal.returns-then-not-incumbent_ok
returns-then-not-incumbent_ok c =
    let p = (goal.at.returns-then-not-incumbent_ok c).After-incumbent_ok in
    let q = c.args.sheet.now in
    lent_unmatched q.bytes.now c.args.limit.most (lends (start (fit p))) q.readable (agreed (fit p)) (ranged p) (sym c.incumbent_ok.ensures ∙ c.if-not-incumbent_ok.true)

pub returns : goal.returns
returns c =
    let p = (goal.at.returns c).After-incumbent_ok in
    let q = c.args.sheet.now in
    lent_good q.bytes.now c.args.limit.most (lends (start (fit p))) q.readable (agreed (fit p)) (ranged p) (sym c.incumbent_ok.ensures ∙ c.if-not-incumbent_ok.false)
