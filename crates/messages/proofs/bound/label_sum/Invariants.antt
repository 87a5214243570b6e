-- `label_sum` meets its contract: what is gone through is summed.
use Rattle.std.proofs.Common.{get_or, pos}
use Rattle.rules.specs.Calls.{cost_limit}
use Rattle.messages.proofs.SumLaws.{Added}
use Rattle.messages.proofs.bound.label_sum.Given as goal

abbrev pub invariant-loop-cost : goal.invariant-loop-cost
invariant-loop-cost l = Added cost_limit (λ k. get_or l.cost-items k (pos 0)) l.sum l.cost-index
