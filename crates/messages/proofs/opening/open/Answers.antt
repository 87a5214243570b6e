-- `open` meets its contract: refused, nothing is altered; else the four buffers are filled from the sheet.
use Rattle.std.proofs.Common.{◌≡◌, ℕ, ◌+◌, ◌*◌, ◌≤◌, true, List, length, Bor, sym, ap, ◌∙◌, arith}
use Rattle.instance.specs.Sheet.{instance_of, refusal_of}
use Rattle.instance.specs.Instance.{first}
use Rattle.instance.specs.declared.sheet.Sheet.{Sheet}
use Rattle.instance.proofs.Told.{handed, numbered}
use Rattle.instance.proofs.Sheets.{whole}
use Rattle.rules.specs.Costs.{Buffers}
use Rattle.rules.specs.Calls.{lengths_ok, open_of}
use Rattle.messages.specs.Lent.{lent, opens}
use Rattle.rules.proofs.Opening.{lengths_are, open_unread, open_unfit, open_fills, filled_opened}
use Rattle.messages.proofs.LentLaws.{lengths_by}
use Rattle.messages.proofs.opening.open.Goals as goal
use Rattle.messages.proofs.opening.open.Goals.{Else-not-lengths_agree, In_ok-sheet, Start}

-- the buffers as they were lent
abbrev started : Start → Buffers
started q = lent q.args.nodes.now q.args.labels.now q.args.edges.now q.args.incumbent.now

-- a sheet that was read
same : (p : In_ok-sheet) → p.in_ok-sheet.sheet.bytes.now ≡ p.args.sheet.now
same p = ap (λ (b : Bor (List ℕ)). b.now) p.in_ok-sheet.ensures.same

-- past the lengths
module _ (p : Else-not-lengths_agree) where
  abbrev start : Start
  start = (goal.at.Else-not-lengths_agree p).Start

  abbrev x : Sheet
  x = p.in_ok-sheet.sheet

  agreed : lengths_ok (instance_of x.bytes.now) (started start) ≡ true
  agreed = lengths_by x (started start) ∙ sym p.lengths_agree.ensures ∙ p.if-not-lengths_agree.false

  nodes_inside : x.prices + 4 * length p.args.nodes.now ≤ length x.bytes.now
  unfolding first instance_of
  nodes_inside = omega (arith, (lengths_are x.bytes.now (started start) agreed).0, x.placed.0, (whole x).whole)

  edges_inside : x.edge_prices + 4 * length p.args.edges.now ≤ length x.bytes.now
  unfolding first instance_of
  edges_inside = omega (arith, (lengths_are x.bytes.now (started start) agreed).2, x.placed.2, (whole x).whole)

pub returns-in_err-sheet : goal.returns-in_err-sheet
returns-in_err-sheet c =
    let b = started (goal.at.returns-in_err-sheet c).Start in
    let z : refusal_of c.args.sheet.now ≡ 0 → ⊥ = λ z. omega (arith, numbered c.in_err-sheet.field-0.0, c.in_err-sheet.ensures.refusal) in
    ap (opens b) (handed _ c.from_residual.result c.from_residual.ensures.1 ∙ c.in_err-sheet.ensures.refusal) ∙ open_unread c.args.sheet.now b z

pub returns-then-not-lengths_agree : goal.returns-then-not-lengths_agree
returns-then-not-lengths_agree c =
    let x = c.in_ok-sheet.sheet in
    let b = started (goal.at.returns-then-not-lengths_agree c).Start in
    open_unfit x.bytes.now b x.readable (lengths_by x b ∙ sym c.lengths_agree.ensures ∙ c.if-not-lengths_agree.true)
    ∙ ap (λ (s : List ℕ). open_of s b) (same (goal.at.returns-then-not-lengths_agree c).In_ok-sheet)

pub fill_prices-requires : goal.fill_prices-requires
fill_prices-requires c = nodes_inside (goal.at.fill_prices-requires c).Else-not-lengths_agree

pub fill_prices-requires-2 : goal.fill_prices-requires-2
fill_prices-requires-2 c = edges_inside (goal.at.fill_prices-requires-2 c).Else-not-lengths_agree

pub returns : goal.returns
returns c =
    let p = (goal.at.returns c).Else-not-lengths_agree in
    let x = c.in_ok-sheet.sheet in
    let b = started (goal.at.returns c).Start in
    ap (λ (b : Buffers). opens b 0) (filled_opened x.bytes.now b x.placed.0 x.placed.2 (agreed p) c.fill_prices.ensures (c.fill.ensures.after (λ y e. e)) c.fill_prices-2.ensures (c.fill-2.ensures.after (λ y e. e)))
    ∙ open_fills x.bytes.now b x.readable (agreed p) ∙ ap (λ (s : List ℕ). open_of s b) (same (goal.at.returns c).In_ok-sheet)
