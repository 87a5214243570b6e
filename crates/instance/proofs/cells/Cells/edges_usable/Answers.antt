-- `edges_usable` meets its contract: an edge between two nodes of two labels has a usable cell.
use Rattle.std.proofs.Common.{sym, ◌∙◌}
use Rattle.instance.proofs.UsableCells.{wide_usable}
use Rattle.instance.proofs.cells.Cells.edges_usable.Goals as goal

pub returns-then-none_single : goal.returns-then-none_single
returns-then-none_single c =
    c.if-none_single.true ∙ sym (wide_usable c.args.self.now.asked (sym c.none_single.ensures ∙ c.if-none_single.true))
