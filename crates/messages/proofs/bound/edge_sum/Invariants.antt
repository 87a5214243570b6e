-- `edge_sum` meets its contract: after e turns the sum is that of the first e tables' leasts.
use Rattle.rules.specs.Calls.{cost_limit}
use Rattle.messages.specs.Bounds.{table_least}
use Rattle.messages.proofs.SumLaws.{Added}
use Rattle.messages.proofs.bound.edge_sum.Given as goal

abbrev pub invariant-loop-e : goal.invariant-loop-e
invariant-loop-e l = Added cost_limit (table_least l.held.sheet.now.bytes.now l.held.lent.edges.now) l.sum l.e
