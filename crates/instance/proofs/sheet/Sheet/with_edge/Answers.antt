-- `with_edge` meets its contract: the sheet's refusal first, and then the edge's.
use Rattle.std.proofs.Common.{◌≡◌, ap, sym, ◌∙◌, arith, Bor, List, ℕ}
use Rattle.instance.specs.Sheet.{refusal_of}
use Rattle.instance.specs.Layout.{edge_refusal_of}
use Rattle.instance.proofs.Told.{handed, numbered}
use Rattle.instance.proofs.Shown.{edge_unread}
use Rattle.instance.proofs.sheet.Sheet.with_edge.Goals as goal
use Rattle.instance.proofs.sheet.Sheet.with_edge.Goals.{In_ok-sheet}

-- of a sheet that was read
module _ (p : In_ok-sheet) where
  same : (e : ℕ) → edge_refusal_of p.in_ok-sheet.sheet.bytes.now e ≡ edge_refusal_of p.args.bytes.now e
  same e = ap (λ (b : Bor (List ℕ)). edge_refusal_of b.now e) p.in_ok-sheet.ensures.same

pub returns-in_err-sheet-clause-refusal : goal.returns-in_err-sheet-clause-refusal
returns-in_err-sheet-clause-refusal c =
    let z : refusal_of c.args.bytes.now ≡ 0 → ⊥ = λ z. omega (arith, numbered c.in_err-sheet.field-0.0, c.in_err-sheet.ensures.refusal) in
    handed _ c.from_residual.result c.from_residual.ensures.1 ∙ c.in_err-sheet.ensures.refusal ∙ sym (edge_unread c.args.bytes.now c.args.edge z)
