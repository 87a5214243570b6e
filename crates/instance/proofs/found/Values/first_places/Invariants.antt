-- `first_places` meets its contract: each node's start is marked.
use Rattle.instance.proofs.Turns.{FirstsTurn}
use Rattle.instance.proofs.found.Values.first_places.Given as goal

abbrev pub invariant-loop-start : goal.invariant-loop-start
invariant-loop-start l = FirstsTurn l.self.found.nodes.counts.bytes.now l.firsts l.start-index
