-- `lower_bound` meets its contract: the three sums are those of the rule, and together they fit.
use Rattle.std.proofs.Common.{◌≡◌, ◌+◌, ◌*◌, ◌≤◌, List, get_or, ℤ, pos, ◌+ℤ◌, nat_abs, sym, ap, ◌∙◌, subst, ap₂, arith, w64, SFits, to_z, of_z, to_z-of_z}
use Rattle.integers.specs.Places.{total}
use Rattle.integers.proofs.Bits.{same}
use Rattle.instance.specs.Instance.{node_cells}
use Rattle.instance.specs.Sheet.{instance_of}
use Rattle.rules.specs.Costs.{bound}
use Rattle.rules.specs.Calls.{cost_limit}
use Rattle.instance.proofs.Sheets.{nodes_few, edges_few, labels_few}
use Rattle.messages.proofs.BoundLaws.{by_node, by_edge, by_label, leasts_within, sum_fits, sum_small}
use Rattle.messages.proofs.StateLaws.{nodes_held, labels_held, edges_held}
use Rattle.messages.proofs.bound.lower_bound.Goals as goal
use Rattle.messages.proofs.bound.lower_bound.Goals.{After-edge_sum-by_edge, Start}

-- the three sums
module _ (p : After-edge_sum-by_edge) where
  abbrev start : Start
  start = (goal.at.After-edge_sum-by_edge p).Start

  abbrev node : ℤ
  node = p.node_sum-by_node.result

  abbrev edge : ℤ
  edge = p.edge_sum-by_edge.result

  abbrev label : ℤ
  label = p.label_sum-by_label.result

  few : start.args.held.now.sheet.now.nodes + start.args.held.now.sheet.now.edges ≤ 320
  few = omega (arith, nodes_few start.args.held.now.sheet.now, edges_few start.args.held.now.sheet.now)

  both : nat_abs (node +ℤ edge) ≤ (start.args.held.now.sheet.now.nodes + start.args.held.now.sheet.now.edges) * cost_limit
  both = sum_small node edge start.args.held.now.sheet.now.nodes start.args.held.now.sheet.now.edges p.node_sum-by_node.ensures.1 p.edge_sum-by_edge.ensures.1

  -- as the code has them
  node_is : to_z w64 (of_z w64 node) ≡ node
  node_is = same node p.node_sum-by_node.type_inv

  edge_is : to_z w64 (of_z w64 edge) ≡ edge
  edge_is = same edge p.edge_sum-by_edge.type_inv

  label_is : to_z w64 (of_z w64 label) ≡ label
  label_is = same label p.label_sum-by_label.type_inv

  -- and their sums
  first_fits : SFits w64 (node +ℤ edge)
  first_fits = sum_fits node edge start.args.held.now.sheet.now.nodes start.args.held.now.sheet.now.edges p.node_sum-by_node.ensures.1 p.edge_sum-by_edge.ensures.1 (omega (arith, few))

  all_fits : SFits w64 (node +ℤ edge +ℤ label)
  all_fits =
      let v = start.args.held.now.sheet.now in
      sum_fits (node +ℤ edge) label (v.nodes + v.edges) v.labels both p.label_sum-by_label.ensures.1 (omega (arith, few, labels_few v))

  first_is : to_z w64 (of_z w64 (to_z w64 (of_z w64 node) +ℤ to_z w64 (of_z w64 edge))) ≡ node +ℤ edge
  first_is = rw (node_is, edge_is) (to_z-of_z first_fits)

  all_is : to_z w64 (of_z w64 (to_z w64 (of_z w64 (to_z w64 (of_z w64 node) +ℤ to_z w64 (of_z w64 edge))) +ℤ to_z w64 (of_z w64 label))) ≡ node +ℤ edge +ℤ label
  all_is = rw (first_is, label_is) (to_z-of_z all_fits)

pub label_sum-by_label-requires : goal.label_sum-by_label-requires
label_sum-by_label-requires c =
    record { count_bound = labels_few c.args.held.now.sheet.now; within = rw c.label_leasts-least.ensures (leasts_within (instance_of c.args.held.now.sheet.now.bytes.now) c.args.held.now.lent.labels.now (labels_held c.args.held.now).range (node_cells (instance_of c.args.held.now.sheet.now.bytes.now))) }

pub overflow_add-result : goal.overflow_add-result
overflow_add-result c = rw (node_is c, edge_is c) (first_fits c)

pub overflow_add-result-2 : goal.overflow_add-result-2
overflow_add-result-2 c = rw (first_is c, label_is c) (all_fits c)

pub returns : goal.returns
unfolding bound
returns c =
    let p = (goal.at.returns c).After-edge_sum-by_edge in let q = start p in
    let x = q.args.held.now.sheet.now in
    let fn = nodes_held q.args.held.now in let fl = labels_held q.args.held.now in let fe = edges_held q.args.held.now in
    let tail = c.label_sum-by_label.ensures.0 ∙ ap (λ (k : List ℤ). total x.labels (λ i. get_or k i (pos 0))) c.label_leasts-least.ensures in (
      all_is p
          ∙ ap₂ ◌+ℤ◌ (ap₂ ◌+ℤ◌ (c.node_sum-by_node.ensures.0 ∙ by_node x fn fl fe) (c.edge_sum-by_edge.ensures.0 ∙ by_edge x fn fl fe)) (tail ∙ by_label x fn fl fe),
      subst (λ (z : ℤ). nat_abs z ≤ 384 * cost_limit) (sym (all_is p))
          (omega (arith, sum_small (node p +ℤ edge p) (label p) (x.nodes + x.edges) x.labels (both p) c.label_sum-by_label.ensures.1, few p, labels_few x)),
    )
