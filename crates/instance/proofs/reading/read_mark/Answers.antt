-- `read_mark` meets its contract: the length and the mark.
use Rattle.std.proofs.Common.{◌≤◌, List, ℕ, length, sym, ◌∙◌, arith, lit<, le-leb}
use borrow.Author.Tests.{lt-leb}
use Rattle.instance.specs.Sheet.{short_enough, marked, checks}
use Rattle.instance.specs.Passes.{PassedTo}
use Rattle.instance.proofs.Stages.{unmarked, is_marked, passed_none, passed_at, refused_at}
use Rattle.instance.proofs.reading.read_mark.Goals as goal

-- not too long
short : (s : List ℕ) → length s ≤ 22_096 → PassedTo s 1
unfolding checks short_enough
short s h = passed_at s 0 (lit< tt) (passed_none s) (le-leb (length s) 22_096 h)

pub returns-then-len-gt22096 : goal.returns-then-len-gt22096
unfolding checks short_enough
returns-then-len-gt22096 c =
    let s = c.args.bytes.now in refused_at s 0 (lit< tt) (passed_none s) (lt-leb (length s) 22_096 c.if-len-gt22096.true)

pub returns-then-len-lt16 : goal.returns-then-len-lt16
unfolding checks marked
returns-then-len-lt16 c =
    let s = c.args.bytes.now in refused_at s 1 (lit< tt) (short s c.if-len-gt22096.false) (rw (lt-leb 16 (length s) c.if-len-lt16.true))

pub returns-then-mark_at : goal.returns-then-mark_at
unfolding checks
returns-then-mark_at c =
    let s = c.args.bytes.now in
    (omega (arith, c.if-len-lt16.false), passed_at s 1 (lit< tt) (short s c.if-len-gt22096.false) (is_marked s (sym c.mark_at.ensures ∙ c.if-mark_at.true) c.if-len-lt16.false))

pub returns-else-mark_at : goal.returns-else-mark_at
unfolding checks
returns-else-mark_at c =
    let s = c.args.bytes.now in
    refused_at s 1 (lit< tt) (short s c.if-len-gt22096.false) (unmarked s (sym c.mark_at.ensures ∙ c.if-mark_at.false) c.if-len-lt16.false)
