-- `each_cell_fits` meets its contract: what each row gives is joined, so the test at the end is that of each row.
use Rattle.std.proofs.Common.{◌*◌}
use Rattle.integers.specs.Checks.{within}
use Rattle.integers.specs.Places.{every}
use Rattle.integers.specs.Rows.{part}
use Rattle.messages.specs.EdgeMessage.{by_rows, moved_line}
use Rattle.messages.proofs.ExcessLaws.{Joining}
use Rattle.messages.proofs.edge_message.Joint.each_cell_fits.Given as goal

abbrev pub invariant-loop-k : goal.invariant-loop-k
invariant-loop-k l = Joining (λ r. every (within l.limit.most) (moved_line (by_rows l.self.end) r l.amounts.each.now (part l.self.cells.now (r * l.width) l.width))) l.height l.k l.all
