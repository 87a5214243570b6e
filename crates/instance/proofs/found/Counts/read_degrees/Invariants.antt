-- `read_degrees` meets its contract, by the laws of its turns.
use Rattle.instance.proofs.Turns.{DegreesTurn}
use Rattle.instance.proofs.found.Counts.read_degrees.Given as goal

abbrev pub invariant-loop-u : goal.invariant-loop-u
invariant-loop-u l = DegreesTurn l.self.bytes.now l.self.nodes l.starts l.total l.u
