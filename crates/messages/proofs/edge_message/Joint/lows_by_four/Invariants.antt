-- `lows_by_four` meets its contract. The loop's invariant: the first 4q places hold the least of all cells there.
use Rattle.std.proofs.Common.{◌*◌, ◌/◌, length}
use Rattle.messages.specs.Joints.{low_in}
use Rattle.messages.proofs.OverLaws.{Overwritten}
use Rattle.messages.proofs.EdgeLaws.{zeros}
use Rattle.messages.proofs.edge_message.Joint.lows_by_four.Given as goal

abbrev pub invariant-loop-q : goal.invariant-loop-q
invariant-loop-q l = Overwritten (low_in l.self) (length l.self.own.now / 4 * 4) zeros (4 * l.q) l.least
