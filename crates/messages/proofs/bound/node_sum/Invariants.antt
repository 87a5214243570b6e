-- `node_sum` meets its contract: after u turns the sum is that of the first u rows' leasts.
use Rattle.instance.specs.Sheet.{instance_of}
use Rattle.rules.specs.Calls.{cost_limit}
use Rattle.messages.specs.Bounds.{row_least}
use Rattle.messages.proofs.SumLaws.{Added}
use Rattle.messages.proofs.bound.node_sum.Given as goal

abbrev pub invariant-loop-u : goal.invariant-loop-u
invariant-loop-u l = Added cost_limit (row_least (instance_of l.held.sheet.now.bytes.now) l.held.lent.nodes.now) l.sum l.u
