-- `refusal_text` meets its contract.
-- Assumes nothing.
use mathlib.Core.Path.{refl, ap, ◌∙◌}
use mathlib.Core.List.{List}
use Prim.Native.Nat.{ℕ}
use borrow.Author.Rules.{rules}
use Rattle.console.specs.Lines.{refused_line}
use Rattle.console.specs.Output.{outputs}
use Rattle.console.proofs.WritingLaws.{put_out, out_short}
use Rattle.console.proofs.printing.refusal_text.Goals as goal

pub returns-then-out-lt-ROOM : goal.returns-then-out-lt-ROOM
returns-then-out-lt-ROOM c = out_short (refused_line c.args.number) c.if-out-lt-ROOM.true

pub returns : goal.returns
returns c =
    ap (λ (l : List ℕ). outputs l c.refused_line.new.text.len) (search rules) ∙ put_out refl c.if-out-lt-ROOM.false c.refused_line.ensures
