-- `take_first` meets its contract: the nodes below u are placed, each as low as it can be.
use Rattle.placing.proofs.Taking.{Taking}
use Rattle.placing.proofs.greedy.take_first.Given as goal

abbrev pub invariant-loop-u : goal.invariant-loop-u
invariant-loop-u l = Taking l.nodes.count l.nodes.sets l.nodes.own l.taken l.free l.u
