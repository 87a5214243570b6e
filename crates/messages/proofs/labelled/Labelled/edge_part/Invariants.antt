-- `edge_part` meets its contract: after e turns the sum is that of the first e edges.
use Rattle.instance.specs.Sheet.{instance_of}
use Rattle.rules.specs.Costs.{chosen_cell}
use Rattle.messages.proofs.SumLaws.{Added}
use Rattle.messages.proofs.labelled.Labelled.edge_part.Given as goal

abbrev pub invariant-loop-e : goal.invariant-loop-e
invariant-loop-e l = Added 1_000_000 (λ d. (instance_of l.self.sheet.now.bytes.now).edge_price (chosen_cell (instance_of l.self.sheet.now.bytes.now) l.self.x.now d)) l.sum l.e
