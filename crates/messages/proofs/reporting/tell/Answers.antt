-- `tell` meets its contract: what was lent is good, so the bound counts, and one that is kept has a price.
use Rattle.std.proofs.Common.{ℕ, List, sym, ap, ◌∙◌, ap₂}
use Rattle.integers.proofs.Bits.{same}
use Rattle.instance.specs.Sheet.{instance_of}
use Rattle.rules.specs.Costs.{Buffers}
use Rattle.rules.specs.Calls as calls
use Rattle.rules.specs.Calls.{cost_limit}
use Rattle.messages.specs.Lent.{lent_of}
use Rattle.messages.specs.Answers.{against}
use Rattle.messages.proofs.IncumbentLaws.{kept_labelling}
use Rattle.messages.proofs.LentLaws.{LentWell, lent_well}
use Rattle.messages.proofs.ReportLaws.{told-bound, told_kept}
use Rattle.messages.proofs.reporting.tell.Goals as goal
use Rattle.messages.proofs.reporting.tell.Goals.{Start}

module _ (q : Start) where
  abbrev sheet : List ℕ
  sheet = q.args.held.now.sheet.now.bytes.now

  abbrev lends : Buffers
  lends = lent_of q.args.held.now.lent

  well : LentWell sheet cost_limit lends
  well = lent_well sheet cost_limit lends q.args.held.now.good

pub returns-then-none_kept : goal.returns-then-none_kept
returns-then-none_kept c =
    let q = (goal.at.returns-then-none_kept c).Start in ap calls.bound (same c.lower_bound-bound.result c.lower_bound-bound.type_inv ∙ c.lower_bound-bound.ensures.0) ∙ told-bound (sheet q) (lends q) (sym c.none_kept.ensures ∙ c.if-none_kept.true)

pub invariant_of-kept : goal.invariant_of-kept
invariant_of-kept c =
    let q = (goal.at.invariant_of-kept c).Start in record { labelling = kept_labelling (instance_of (sheet q)) (well q).kept (well q).incumbent (sym c.none_kept.ensures ∙ c.if-none_kept.false) }

pub returns : goal.returns
returns c =
    let q = (goal.at.returns c).Start in c.answer.ensures ∙ ap₂ against (same c.lower_bound-bound.result c.lower_bound-bound.type_inv ∙ c.lower_bound-bound.ensures.0) (same c.price.result c.price.type_inv ∙ c.price.ensures.0)
    ∙ told_kept (sheet q) (lends q) (sym c.none_kept.ensures ∙ c.if-none_kept.false)
