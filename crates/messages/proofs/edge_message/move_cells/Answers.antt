-- `move_cells` meets its contract. The loop's invariant: `a` is where the row k begins, the cells before it have received their amounts, and the others are as they were.
use Rattle.std.proofs.Common.{◌≡◌, ℕ, ◌+◌, ◌-◌, ◌*◌, ◌<◌, ◌≤◌, List, length, get_or, take, drop, ℤ, pos, refl, ap, ◌∙◌, ap₂, zero-mul, arith}
use borrow.Rule.Slice.PartMut.{put_mid}
use Rattle.integers.specs.Rows.{part}
use Rattle.messages.specs.EdgeMessage.{by_rows, position_in, moved_line}
use Rattle.messages.proofs.OverLaws.{written_none, written_length, written_drop, written_part, raised_all}
use Rattle.messages.proofs.EdgeLaws.{row_end, row_part, row_line, line_at_lem, line_length}
use Rattle.messages.proofs.edge_message.move_cells.Goals as goal
use Rattle.messages.proofs.edge_message.move_cells.Goals.{In-loop-k, Start}

-- the amount of a cell
abbrev f : Start → ℕ → ℤ
f q j = get_or q.args.amounts.each.now (position_in (by_rows q.args.end) q.args.width j) (pos 0)

-- the row of this turn: it ends within the table, and it is the row k as it was
module _ (c : In-loop-k) where
  abbrev q : Start
  q = (goal.at.In-loop-k c).Start

  end : c.loop-k.k * q.args.width + q.args.width ≤ length q.args.cells.now
  end = row_end q.requires.shape (omega arith) refl

  line : take (c.loop-k.k * q.args.width + q.args.width - c.loop-k.k * q.args.width) (drop (c.loop-k.k * q.args.width) c.loop-k.cells) ≡ part q.args.cells.now (c.loop-k.k * q.args.width) q.args.width
  line = ap (take (c.loop-k.k * q.args.width + q.args.width - c.loop-k.k * q.args.width)) (written_drop c.loop-k.invariant) ∙ row_part q.requires.shape c.loop-k.k refl

pub move_line-requires : goal.move_line-requires
move_line-requires c = rw (line (goal.at.move_line-requires c).In-loop-k) (row_line c.requires.shape c.requires.within c.loop-k.k (omega arith))

pub loop-k-preserved : goal.loop-k-preserved
loop-k-preserved c =
    let i = (goal.at.loop-k-preserved c).In-loop-k in let s = c.requires.shape in
    let v = c.args.amounts.each.now in
    let b = by_rows c.args.end in
    let k = c.loop-k.k in
    let a = k * c.args.width in
    let m = moved_line b k v (part c.args.cells.now (k * c.args.width) c.args.width) in
    let e : a + c.args.width - a ≡ c.args.width = omega arith in
    let h : k < c.args.height = omega arith in
    let w =
    written_part c.loop-k.invariant c.args.width (end i) m (line_length s b v k h)
    (λ j g. line_at_lem s b v k j h g) in
    let z : (k + 1) * c.args.width ≡ a + c.args.width = omega arith in
    rw z record {
      inside = w.inside;
      room = w.room;
      told = ap₂ (λ (n : ℕ) (t : List ℤ). put_mid a n c.loop-k.cells t) e (c.move_line.ensures ∙ ap (moved_line b k v) (line i)) ∙ w.told;
    }

pub returns : goal.returns
returns c =
    let e : c.loop-k.k ≡ c.args.height = omega arith in
    let z : c.loop-k.k * c.args.width ≡ c.args.height * c.args.width = ap (λ (n : ℕ). n * c.args.width) e in
    raised_all (f (goal.at.returns c).Start) c.loop-k.invariant (omega (arith, written_length c.loop-k.invariant, z, c.requires.shape.size))

pub loop-k-init : goal.loop-k-init
loop-k-init c = rw zero-mul (written_none _ _ _ (omega arith))
