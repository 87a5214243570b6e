-- `pass_over` meets its contract. The loop's invariant: the first k places hold the least usable cell there, and if none was passed over, that is the least of all; `from` is a place of the other end or past them.
use Rattle.std.proofs.Common.{◌≤◌, length}
use Rattle.messages.proofs.PassLaws.{Gone}
use Rattle.messages.proofs.edge_message.Joint.pass_over.Given as goal

abbrev pub invariant-loop-k : goal.invariant-loop-k
invariant-loop-k l = Gone l.self l.k l.least l.passed × (l.from ≤ length l.self.other.now)
