-- `compose` meets its contract.
-- Assumes nothing.
use mathlib.Core.Path.{refl, ap, ◌∙◌}
use mathlib.Core.List.{List}
use Prim.Native.Nat.{ℕ}
use borrow.Author.Rules.{rules}
use Rattle.instance.specs.Refusal.{number_of}
use Rattle.messages.specs.Answers.{reported_as}
use Rattle.console.specs.Lines.{text_of}
use Rattle.console.specs.Output.{outputs}
use Rattle.console.proofs.WritingLaws.{put_out, out_short}
use Rattle.console.proofs.printing.compose.Goals as goal

pub returns-then-out-lt-ROOM : goal.returns-then-out-lt-ROOM
returns-then-out-lt-ROOM c =
    out_short (text_of c.args.answer.done c.args.answer.stuck (number_of c.args.answer.refusal) (reported_as c.args.report)) c.if-out-lt-ROOM.true

pub returns : goal.returns
returns c =
    ap (λ (l : List ℕ). outputs l c.run_text.new.text.len) (search rules) ∙ put_out refl c.if-out-lt-ROOM.false c.run_text.ensures
