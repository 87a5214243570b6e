-- `forward` meets its contract: a list for each node, rising.
use Rattle.integers.specs.Places.{range}
use Rattle.instance.specs.Sheet.{instance_of}
use Rattle.schedule.specs.Writing.{forward_of}
use Rattle.schedule.proofs.WritingLaws.{Turns, onward}
use Rattle.schedule.proofs.sweep.forward.Given as goal

abbrev pub invariant-loop-u : goal.invariant-loop-u
invariant-loop-u l = Turns (forward_of (instance_of l.sheet.bytes.now) l.lower l.higher) l.initial.w (range 0 l.sheet.nodes) l.w (onward l.sheet.nodes l.u)
