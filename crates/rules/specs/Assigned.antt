-- Record 6: rounding by assignment (document 02, wish 6), "as source document 000 describes for equation (6)". It and record 5 are one kind of record with two ways to a candidate.
use Rattle.std.specs.Prelude.{List, ℕ}
use Rattle.std.proofs.Math.Option.{Option}
use Rattle.instance.specs.Instance.{Instance}
use Rattle.rules.specs.Costs.{Costs, node_sum}
use Rattle.rules.specs.Rounding.{best, round}
use Rattle.rules.specs.Matchings.{matchings}

-- node by node, or all nodes at once
pub data Way : Type 0 where
  in_turn at_once : Way

module _ (I : Instance) (c : Costs) where
  -- "the matching with the least sum of node costs, edges and label costs ignored"; "among equals, positions compared from node 0 decide for the smallest": the matchings stand in that order. None exactly if there is no matching
  unfoldable pub assignment : Option (List ℕ)
  assignment = best (node_sum I c) (matchings I)

  -- the candidate of a rounding, or none where it is stuck
  unfoldable pub candidate : Way → Option (List ℕ)
  candidate in_turn = round I c
  candidate at_once = assignment
