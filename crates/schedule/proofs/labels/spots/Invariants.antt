-- `spots` meets its contract: one node after another.
use Rattle.instance.specs.Sheet.{instance_of}
use Rattle.schedule.specs.Writing.{Spots}
use Rattle.schedule.proofs.labels.spots.Given as goal

abbrev pub invariant-loop-u : goal.invariant-loop-u
invariant-loop-u l = Spots (instance_of l.sheet.bytes.now).degree l.u l.spots
