-- `round_all` meets its contract, by the laws of its turns.
use Rattle.messages.proofs.RoundTurns.{RoundTurn}
use Rattle.messages.proofs.state.State.round_all.Given as goal

abbrev pub invariant-loop-u : goal.invariant-loop-u
invariant-loop-u l = RoundTurn l.self.run.now.sheet.bytes.now l.self.run.now.sheet.nodes l.self.nodes.now l.self.edges.now l.x l.untaken l.u
