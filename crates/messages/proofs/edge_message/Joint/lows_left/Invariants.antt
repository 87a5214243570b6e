-- `lows_left` meets its contract. The loop's invariant: the first k places hold the least of all cells there.
use Rattle.std.proofs.Common.{length}
use Rattle.messages.specs.Joints.{low_in}
use Rattle.messages.proofs.OverLaws.{Overwritten}
use Rattle.messages.proofs.EdgeLaws.{zeros}
use Rattle.messages.proofs.edge_message.Joint.lows_left.Given as goal

abbrev pub invariant-loop-k : goal.invariant-loop-k
invariant-loop-k l = Overwritten (low_in l.self) (length l.self.own.now) zeros l.k l.least
