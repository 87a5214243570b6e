-- `node_amounts` meets its contract. The loop's invariant: the first k places hold what those positions give, and the others 0.
use Rattle.std.proofs.Common.{length, get_or, pos, ◌-ℤ◌}
use Rattle.integers.specs.Least.{least_of}
use Rattle.integers.specs.Share.{share}
use Rattle.messages.proofs.OverLaws.{Overwritten}
use Rattle.messages.proofs.EdgeLaws.{zeros}
use Rattle.messages.proofs.edge_message.Joint.node_amounts.Given as goal

abbrev pub invariant-loop-k : goal.invariant-loop-k
invariant-loop-k l = Overwritten (λ j. share (get_or l.self.row.now j (pos 0) -ℤ least_of l.self.row.now) l.share.parts) (length l.self.row.now) zeros l.k l.each
