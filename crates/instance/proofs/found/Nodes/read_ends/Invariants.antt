-- `read_ends` meets its contract, by the laws of its turns.
use Rattle.instance.proofs.Turns.{EndsTurn}
use Rattle.instance.proofs.found.Nodes.read_ends.Given as goal

abbrev pub invariant-loop-e : goal.invariant-loop-e
invariant-loop-e l = EndsTurn l.self.counts.bytes.now l.self.counts.edges l.tables l.total l.next l.e
