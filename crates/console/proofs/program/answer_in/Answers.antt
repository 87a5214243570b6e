-- `answer_in` meets its contract, by where it stopped.
-- Assumes nothing.
use mathlib.Core.Path.{◌≡◌, sym, ap, ◌∙◌}
use mathlib.Core.List.{List}
use Prim.Native.Nat.{ℕ}
use native.Mathlib.Omega.{arith}
use Rattle.instance.specs.Refusal.{refused_in}
use Rattle.instance.specs.Sheet.{instance_of, refusal_of}
use Rattle.rules.specs.Costs.{Buffers, opened}
use Rattle.rules.specs.Run.{Ran}
use Rattle.rules.specs.Calls.{Opened, run_of, cost_limit}
use Rattle.messages.specs.Lent.{lent}
use Rattle.messages.specs.Answers.{ran_as}
use Rattle.console.specs.Lines.{refused_line}
use Rattle.console.specs.Output.{output_of}
use Rattle.console.proofs.WritingLaws.{out_as}
use Rattle.console.proofs.ProgramLaws.{open_refusal_lem, open_leaves, printed_refused, printed_long, printed_ran}
use Rattle.console.proofs.program.answer_in.Goals as goal
use Rattle.console.proofs.program.answer_in.Goals.{After-open, In_default, Start}

-- what the opening answered and left
module _ (p : After-open) where
  abbrev start : Start
  start = (goal.at.After-open p).Start

  abbrev sheet : List ℕ
  sheet = start.args.sheet.now

  abbrev records : List ℕ
  records = start.args.records.now

  abbrev before : Buffers
  before = lent start.args.nodes.now start.args.labels.now start.args.edges.now start.args.incumbent.now

  told : refused_in p.open.result ≡ refusal_of sheet
  told = ap (λ (o : Opened). o.refusal) p.open.ensures ∙ open_refusal_lem sheet before start.requires

  left : refusal_of sheet ≡ 0 → lent p.open.new.nodes p.open.new.labels p.open.new.edges p.open.new.incumbent ≡ opened (instance_of sheet)
  left e = ap (λ (o : Opened). o.buffers) p.open.ensures ∙ open_leaves sheet before start.requires e

-- it was not refused
readable : (q : In_default) → refusal_of q.args.sheet.now ≡ 0
readable q = sym (told (goal.at.In_default q).After-open) ∙ ap refused_in q.in_default.is

pub returns-in-Err : goal.returns-in-Err
returns-in-Err c =
    let p = (goal.at.returns-in-Err c).After-open in
    out_as c.args.out.now (printed_refused (sheet p) (records p) c.in-Err.refusal (sym (ap refused_in c.in-Err.is) ∙ told p)) (c.refusal_text.ensures ∙ ap (λ (k : ℕ). output_of (refused_line k) c.args.out.now) c.from.ensures)

pub returns-then-records-gt-MOST_BYTES : goal.returns-then-records-gt-MOST_BYTES
returns-then-records-gt-MOST_BYTES c =
    let q = (goal.at.returns-then-records-gt-MOST_BYTES c).In_default in
    out_as c.args.out.now (printed_long c.args.sheet.now c.args.records.now (readable q) (omega (arith, c.if-records-gt-MOST_BYTES.true))) (c.refusal_text-then-records-gt-MOST_BYTES.ensures ∙ ap (λ (k : ℕ). output_of (refused_line k) c.args.out.now) c.from-then-records-gt-MOST_BYTES.ensures)

pub returns : goal.returns
returns c =
    let p = (goal.at.returns c).After-open in let run = c.run-ran in
    let e = readable (goal.at.returns c).In_default in
    let q : Ran = ran_as (lent run.new.nodes run.new.labels run.new.edges run.new.incumbent) run.result in
    let f : q ≡ run_of (sheet p) cost_limit (opened (instance_of (sheet p))) (records p) =
    run.ensures ∙ ap (λ (b : Buffers). run_of (sheet p) cost_limit b (records p)) (left p e) in
    out_as c.args.out.now (printed_ran (sheet p) (records p) e (omega (arith, c.if-records-gt-MOST_BYTES.false)) f c.report-told.ensures) c.compose.ensures
