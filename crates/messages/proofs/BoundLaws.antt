-- The parts of the lent costs, rows of nodes and tables of edges, and the bound as the sum over them.
-- Assumes nothing.
use Rattle.std.proofs.Common.{◌≡◌, ℕ, ◌+◌, ◌*◌, ◌<◌, ◌≤◌, true, eqb, ltb, List, [], map, length, get_or, ℤ, pos, ◌+ℤ◌, nat_abs, sym, ap, ◌∙◌, arith, w64, SFits, ltb-false, ltb-true}
use lib.ListN.{get_or-eq_default}
use Rattle.integers.specs.Least.{least_from, least_of}
use Rattle.integers.specs.Sum.{Within}
use Rattle.integers.specs.Places.{range, select, tabulate, total, offset}
use Rattle.integers.proofs.Parts.{linear, add, abs}
use Rattle.integers.proofs.Rows.{within_map}
use Rattle.integers.proofs.Sum.{abs_add}
use Rattle.integers.proofs.Least.{least_ind}
use Rattle.integers.proofs.Places.{by-test, length-tabulate, get_d_tabulate}
use Rattle.integers.proofs.Totals.{total_ext}
use Rattle.integers.proofs.Ranges.{range-part}
use Rattle.instance.specs.Instance.{Instance, first, node_cells, table_size, table}
use Rattle.instance.specs.Sheet.{instance_of}
use Rattle.instance.proofs.LaidOut.{row_inside}
use Rattle.rules.specs.Calls.{cost_limit}
use Rattle.rules.specs.Places.{node_places, label_places}
use Rattle.rules.specs.Costs.{Buffers, costs_of, node_least, edge_least, label_least}
use Rattle.instance.specs.declared.sheet.Sheet.{Sheet}
use Rattle.instance.proofs.Sheets.{proper, nodes_is, labels_is, edges_is, start_is, table_is}
use Rattle.messages.specs.Lent.{lent, NodeFits, EdgeFits}
use Rattle.messages.specs.Bounds.{row_least, table_least, label_below, least_labels}
use Rattle.messages.proofs.EndLaws.{usable_cells_lem}
use Rattle.messages.proofs.SumLaws.{Parts}
use Rattle.messages.proofs.LabelLaws.{leasts_at}

module _ (x : Sheet) where
  abbrev s : List ℕ
  s = x.bytes.now

  abbrev I : Instance
  I = instance_of s

  -- the parts of the lent costs
  pub node_parts : {costs : List ℤ} → NodeFits s costs → Parts I.degree costs x.nodes
  unfolding first
  node_parts f = record { long = f.size ∙ ap (offset I.degree) (sym (nodes_is x)); within = f.range }

  pub edge_parts : {costs : List ℤ} → EdgeFits s costs → Parts (table_size I) costs x.edges
  unfolding table
  edge_parts f = record { long = f.size ∙ ap (offset (table_size I)) (sym (edges_is x)); within = f.range }

  -- and where each begins
  pub node_begins : {u : ℕ} → u < x.nodes → get_or x.starts u 0 ≡ offset I.degree u
  unfolding first
  node_begins h = start_is x h

  pub edge_begins : {e : ℕ} → e < x.edges → get_or x.tables e 0 ≡ offset (table_size I) e
  unfolding table
  edge_begins h = table_is x h

-- ---- the whole bound

module _ (x : Sheet) {nodes labels edges : List ℤ} (fn : NodeFits (s x) nodes) (fl : NodeFits (s x) labels) (fe : EdgeFits (s x) edges) where
  abbrev buffers : Buffers
  buffers = lent nodes labels edges []

  abbrev J : Instance
  J = instance_of (s x)

  pub by_node : total x.nodes (row_least J nodes) ≡ total J.node_count (node_least J (costs_of buffers))
  unfolding node_least node_places
  by_node =
      ap (λ (m : ℕ). total m (row_least J nodes)) (nodes_is x)
      ∙ total_ext J.node_count (row_least J nodes) (node_least J (costs_of buffers))
      (λ u h. ap least_of (sym (range-part nodes (pos 0) (first J u) (J.degree u) (omega (arith, fn.size, row_inside J h)))))

  pub by_edge : total x.edges (table_least (s x) edges) ≡ total J.edge_count (edge_least J (costs_of buffers))
  unfolding edge_least
  by_edge =
      ap (λ (m : ℕ). total m (table_least (s x) edges)) (edges_is x)
      ∙ total_ext J.edge_count (table_least (s x) edges) (edge_least J (costs_of buffers)) (λ e h. ap least_of (usable_cells_lem (s x) x.readable h edges fe.size true))

  pub by_label : total x.labels (λ l. get_or (least_labels J labels (node_cells J)) l (pos 0)) ≡ total J.label_count (label_least J (costs_of buffers))
  unfolding label_least label_places
  by_label =
      ap (λ (m : ℕ). total m (λ l. get_or (least_labels J labels (node_cells J)) l (pos 0))) (labels_is x)
      ∙ total_ext J.label_count (λ l. get_or (least_labels J labels (node_cells J)) l (pos 0)) (label_least J (costs_of buffers))
      (λ l h. leasts_at J labels (node_cells J) l (omega (arith, (proper x).labels_few)))

-- each label's least is within what its costs are
pub leasts_within : (J : Instance) (labels : List ℤ) → Within cost_limit labels → (i : ℕ) → Within cost_limit (least_labels J labels i)
unfolding least_labels
leasts_within J labels f i l =
    by-test (ltb l 256)
    (λ t. rw (get_d_tabulate 256 (label_below J labels i) l (pos 0) (ltb-true l 256 t)) (places_within (select (λ j. eqb (J.label j) l) (range 0 i))))
    (λ t. let n = length-tabulate 256 (label_below J labels i) in
    let past : length (tabulate 256 (label_below J labels i)) ≤ l = omega (arith, ltb-false l 256 t) in
    rw (get_or-eq_default (tabulate 256 (label_below J labels i)) (pos 0) past) (omega arith))
  where
    places_within : (k : List ℕ) → nat_abs (least_from (pos 0) (map (λ j. get_or labels j (pos 0)) k)) ≤ cost_limit
    places_within k = least_ind (λ z. nat_abs z ≤ cost_limit) (pos 0) (map (λ j. get_or labels j (pos 0)) k) (pos 0) (omega arith) (λ i h. within_map cost_limit (λ j. get_or labels j (pos 0)) k f i)

-- sums of so many costs are far below what an i64 holds
pub sum_fits : (x y : ℤ) (a b : ℕ) → nat_abs x ≤ a * cost_limit → nat_abs y ≤ b * cost_limit → a + b ≤ 1_024 → SFits w64 (x +ℤ y)
sum_fits x y a b h g l = omega (linear, add x y, abs x, abs y)

pub sum_small : (x y : ℤ) (a b : ℕ) → nat_abs x ≤ a * cost_limit → nat_abs y ≤ b * cost_limit → nat_abs (x +ℤ y) ≤ (a + b) * cost_limit
sum_small x y a b h g = omega (arith, abs_add x y)
