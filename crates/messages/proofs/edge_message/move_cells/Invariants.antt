-- `move_cells` meets its contract. The loop's invariant: `a` is where the row k begins, the cells before it have received their amounts, and the others are as they were.
use Rattle.std.proofs.Common.{◌*◌, get_or, pos}
use Rattle.messages.specs.EdgeMessage.{by_rows, position_in}
use Rattle.messages.proofs.OverLaws.{Raised}
use Rattle.messages.proofs.edge_message.move_cells.Given as goal

abbrev pub invariant-loop-k : goal.invariant-loop-k
invariant-loop-k l = Raised (λ j. get_or l.amounts.each.now (position_in (by_rows l.end) l.width j) (pos 0)) l.initial.cells (l.k * l.width) l.cells
