-- `node_part` meets its contract: after u turns the sum is that of the first u nodes.
use Rattle.instance.specs.Sheet.{instance_of}
use Rattle.rules.specs.Costs.{chosen}
use Rattle.messages.proofs.SumLaws.{Added}
use Rattle.messages.proofs.labelled.Labelled.node_part.Given as goal

abbrev pub invariant-loop-u : goal.invariant-loop-u
invariant-loop-u l = Added 1_000_000 (λ w. (instance_of l.self.sheet.now.bytes.now).node_price (chosen (instance_of l.self.sheet.now.bytes.now) l.self.x.now w)) l.sum l.u
