-- `start` meets its contract: the sheet, what is lent, and then the list.
use Rattle.std.proofs.Common.{◌≡◌, ℕ, List, sym, ap, ◌∙◌, arith, Bor}
use Rattle.instance.proofs.Told.{handed, numbered}
use Rattle.rules.specs.Costs.{Buffers}
use Rattle.rules.specs.Calls.{lent_refusal}
use Rattle.messages.specs.Lent.{lent_of}
use Rattle.messages.proofs.LentLaws.{lent_unread}
use Rattle.messages.proofs.RunLaws.{run_unread, run_partial, run_begins}
use Rattle.messages.proofs.list.start.Goals as goal
use Rattle.messages.proofs.list.start.Goals.{In_ok-sheet, Start}

abbrev lends : Start → Buffers
lends q = lent_of q.args.lent

pub returns-in_err-sheet-clause-refusal : goal.returns-in_err-sheet-clause-refusal
returns-in_err-sheet-clause-refusal c =
    let q = (goal.at.returns-in_err-sheet-clause-refusal c).Start in
    let a = q.args in
    let n = c.in_err-sheet.ensures.refusal in
    let m = numbered c.in_err-sheet.field-0.0 in
    let u = n ∙ lent_unread a.sheet.now a.limit.most (lends q) (λ z. omega (arith, n, m)) in
    handed _ c.from_residual.result c.from_residual.ensures.1 ∙ u ∙ run_unread a.sheet.now a.limit.most (lends q) a.records.now (λ z. omega (arith, u, m))

-- a sheet that was read, by the bytes that were given
module _ (p : In_ok-sheet) where
  abbrev start : Start
  start = (goal.at.In_ok-sheet p).Start

  over : lent_refusal p.in_ok-sheet.sheet.bytes.now start.args.limit.most (lends start) ≡ lent_refusal start.args.sheet.now start.args.limit.most (lends start)
  over = ap (λ (b : Bor (List ℕ)). lent_refusal b.now start.args.limit.most (lends start)) p.in_ok-sheet.ensures.same

pub returns-in_err-check_lent-clause-refusal : goal.returns-in_err-check_lent-clause-refusal
returns-in_err-check_lent-clause-refusal c =
    let p = (goal.at.returns-in_err-check_lent-clause-refusal c).In_ok-sheet in let q = start p in
    let a = q.args in
    let m = numbered c.in_err-check_lent.field-0.0 in
    let u = c.in_err-check_lent.ensures ∙ over p in
    handed _ c.from_residual-in_err-check_lent.result c.from_residual-in_err-check_lent.ensures.1 ∙ u ∙ run_unread a.sheet.now a.limit.most (lends q) a.records.now (λ z. omega (arith, u, m))

pub returns-then-records-ne0-clause-refusal : goal.returns-then-records-ne0-clause-refusal
returns-then-records-ne0-clause-refusal c =
    let p = (goal.at.returns-then-records-ne0-clause-refusal c).In_ok-sheet in let q = start p in
    let a = q.args in
    run_partial a.sheet.now a.limit.most (lends q) a.records.now (sym (c.in_ok-check_lent.ensures ∙ over p)) c.if-records-ne0.true

pub returns-clause-refusal : goal.returns-clause-refusal
returns-clause-refusal c =
    let p = (goal.at.returns-clause-refusal c).In_ok-sheet in let q = start p in
    let a = q.args in
    run_begins a.sheet.now a.limit.most (lends q) a.records.now (sym (c.in_ok-check_lent.ensures ∙ over p)) c.if-records-ne0.false
