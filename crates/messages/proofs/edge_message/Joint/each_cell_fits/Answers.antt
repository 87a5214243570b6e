-- `each_cell_fits` meets its contract: what each row gives is joined, so the test at the end is that of each row.
use Rattle.std.proofs.Common.{◌+◌, ◌*◌, ◌≤◌, List, length, ℤ, sym, refl, ap, ◌∙◌}
use Rattle.integers.specs.Checks.{within}
use Rattle.integers.specs.Places.{every}
use Rattle.messages.specs.EdgeMessage.{by_rows, moved_line, moved_cells, Shape}
use Rattle.messages.proofs.EdgeLaws.{row_end, row_part, lines_fit}
use Rattle.messages.proofs.UsableLaws.{shaped}
use Rattle.messages.proofs.ExcessLaws.{joining_none, joining_more, joining_all}
use Rattle.messages.proofs.edge_message.Joint.each_cell_fits.Goals as goal
use Rattle.messages.proofs.edge_message.Joint.each_cell_fits.Goals.{After-height-height, In-loop-k}

-- the table by the code's width and height
shape : (p : After-height-height) → Shape p.width-width.result p.height-height.result p.args.self.now.cells.now
shape p = shaped p.args.self.now.joined.ends p.width-width.ensures p.height-height.ensures

-- the row ends within the table
end : (c : In-loop-k) → c.loop-k.k * c.width-width.result + c.width-width.result ≤ length c.args.self.now.cells.now
end c = row_end (shape (goal.at.In-loop-k c).After-height-height) c.loop-k-test.true refl

pub loop-k-preserved : goal.loop-k-preserved
loop-k-preserved c =
    let x = c.args in
    joining_more c.excess_line-all.result c.loop-k.invariant c.loop-k-test.true
    (c.excess_line-all.ensures
    ∙ ap (λ (m : List ℤ). every (within x.limit.most) (moved_line (by_rows x.self.now.end) c.loop-k.k x.amounts.each.now m)) (row_part (shape (goal.at.loop-k-preserved c).After-height-height) c.loop-k.k refl))

pub returns : goal.returns
returns c =
    let x = c.args in
    let t = within x.limit.most in
    let b = by_rows x.self.now.end in
    joining_all c.loop-k.invariant c.loop-k-test.false ∙ sym (lines_fit (shape (goal.at.returns c).After-height-height) t b x.amounts.each.now)
    ∙ (λ i. every t (moved_cells b (c.width-width.ensures i) x.amounts.each.now x.self.now.cells.now))

pub loop-k-init : goal.loop-k-init
loop-k-init c = joining_none _ _
