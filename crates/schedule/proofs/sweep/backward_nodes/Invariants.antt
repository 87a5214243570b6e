-- `backward_nodes` meets its contract: a list for each node, falling.
use Rattle.schedule.specs.Sweep.{falling}
use Rattle.schedule.specs.Writing.{backward_by}
use Rattle.schedule.proofs.WritingLaws.{Turns}
use Rattle.schedule.proofs.sweep.backward_nodes.Given as goal

abbrev pub invariant-loop-u : goal.invariant-loop-u
invariant-loop-u l = Turns (backward_by l.lower l.higher) l.initial.w (falling l.n) l.w (falling l.u)
