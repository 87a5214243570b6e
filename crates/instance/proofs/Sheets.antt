-- What is known of a sheet that was read: where its bytes stand, and what they say.
-- Assumes nothing.
use Rattle.std.proofs.Common.{◌≡◌, ℕ, ◌+◌, ◌*◌, ◌<◌, ◌≤◌, List, length, get_or, refl, ap, ◌∙◌, arith}
use Rattle.integers.proofs.Checks.{padded_at}
use Rattle.instance.specs.declared.sheet.Sheet.{Sheet}
use Rattle.instance.specs.Bytes.{byte, price_at}
use Rattle.instance.specs.Instance.{Instance, first, node_cells, table_size, table, edge_cells}
use Rattle.instance.specs.Sheet.{instance_of}
use Rattle.instance.specs.Readable.{Proper, Readable}
use Rattle.instance.proofs.Readable.{readable}
use Rattle.instance.proofs.LaidOut.{row_inside, table_inside, positions_few_lem, label_small}

module _ (x : Sheet) where
  abbrev s : List ℕ
  s = x.bytes.now

  abbrev I : Instance
  I = instance_of s

  pub whole : Readable s
  whole = readable s x.readable

  pub proper : Proper I
  proper = whole.proper

  -- its counts, and that they are small
  pub nodes_is : x.nodes ≡ I.node_count
  nodes_is = x.counted.0

  pub labels_is : x.labels ≡ I.label_count
  labels_is = x.counted.1

  pub edges_is : x.edges ≡ I.edge_count
  edges_is = x.counted.2

  pub positions_is : x.positions ≡ node_cells I
  positions_is = x.counted.3

  pub cells_is : x.cells ≡ edge_cells I
  cells_is = x.counted.4

  pub nodes_few : x.nodes ≤ 64
  nodes_few = omega (arith, nodes_is, proper.nodes_few)

  pub labels_few : x.labels ≤ 64
  labels_few = omega (arith, labels_is, proper.labels_few)

  pub edges_few : x.edges ≤ 256
  edges_few = omega (arith, edges_is, proper.edges_few)

  pub positions_few : x.positions ≤ 1_024
  positions_few = omega (arith, positions_is, positions_few_lem proper)

  pub cells_few : x.cells ≤ 4_096
  cells_few = omega (arith, cells_is, proper.cells_few)

  -- where the sections stand, as numbers that no sum wraps
  pub prices_few : x.prices ≤ 1_088
  unfolding first instance_of
  prices_few = omega (arith, x.placed.0, nodes_is, nodes_few, positions_is, positions_few)

  pub ends_few : x.ends ≤ 5_184
  unfolding first instance_of
  ends_few = omega (arith, x.placed.1, nodes_is, nodes_few, positions_is, positions_few)

  pub edge_prices_few : x.edge_prices ≤ 5_696
  unfolding first instance_of
  edge_prices_few = omega (arith, x.placed.2, nodes_is, nodes_few, positions_is, positions_few, edges_is, edges_few)

  -- a node's degree, its places and its labels
  pub node_there : {u : ℕ} → u < x.nodes → u < I.node_count
  node_there {u} h = omega (arith, nodes_is)

  pub node_byte : {u : ℕ} → u < x.nodes → u < length s
  node_byte {u} h = omega (arith, nodes_is, whole.whole)

  pub degree_is : (u : ℕ) → byte s u ≡ I.degree u
  unfolding instance_of
  degree_is u = refl

  pub degree_some : {u : ℕ} → u < x.nodes → 1 ≤ I.degree u
  degree_some {u} h = proper.labelled u (node_there h)

  pub degree_few : {u : ℕ} → u < x.nodes → I.degree u ≤ 16
  degree_few {u} h = proper.few u (node_there h)

  pub start_is : {u : ℕ} → u < x.nodes → get_or x.starts u 0 ≡ first I u
  start_is {u} h =
      ap (λ (l : List ℕ). get_or l u 0) x.begun
      ∙ padded_at 64 I.node_count (first I) u (omega (arith, nodes_few)) (node_there h)

  pub row_here : {u : ℕ} → u < x.nodes → first I u + I.degree u ≤ x.positions
  row_here {u} h = omega (arith, positions_is, row_inside I (node_there h))

  pub label_byte : {i : ℕ} → i < x.positions → x.nodes + i < length s
  label_byte {i} h = omega (arith, nodes_is, positions_is, whole.whole)

  pub label_is : (i : ℕ) → byte s (x.nodes + i) ≡ I.label i
  unfolding instance_of
  label_is i = ap (λ (z : ℕ). byte s (z + i)) nodes_is

  pub label_byte_small : {i : ℕ} → i < x.positions → I.label i < 256
  label_byte_small {i} h = label_small proper i (omega (arith, positions_is))

  -- the ends of an edge, its table
  pub edge_there : {e : ℕ} → e < x.edges → e < I.edge_count
  edge_there {e} h = omega (arith, edges_is)

  pub end_bytes : {e : ℕ} → e < x.edges → x.ends + 2 * e + 1 < length s
  unfolding first instance_of
  end_bytes {e} h = omega (arith, x.placed.1, edges_is, whole.whole)

  pub low_is : (e : ℕ) → byte s (x.ends + 2 * e) ≡ I.low e
  unfolding instance_of
  low_is e = ap (λ (z : ℕ). byte s (z + 2 * e)) x.placed.1

  pub high_is : (e : ℕ) → byte s (x.ends + 2 * e + 1) ≡ I.high e
  unfolding instance_of
  high_is e = ap (λ (z : ℕ). byte s (z + 2 * e + 1)) x.placed.1

  pub low_node : {e : ℕ} → e < x.edges → I.low e < x.nodes
  low_node {e} h = omega (arith, nodes_is, proper.ordered e (edge_there h), proper.inside e (edge_there h))

  pub high_node : {e : ℕ} → e < x.edges → I.high e < x.nodes
  high_node {e} h = omega (arith, nodes_is, proper.inside e (edge_there h))

  pub table_is : {e : ℕ} → e < x.edges → get_or x.tables e 0 ≡ table I e
  table_is {e} h =
      ap (λ (l : List ℕ). get_or l e 0) x.tabled
      ∙ padded_at 256 I.edge_count (table I) e (omega (arith, edges_few)) (edge_there h)

  pub table_here : {e : ℕ} → e < x.edges → table I e + table_size I e ≤ x.cells
  table_here {e} h = omega (arith, cells_is, table_inside I (edge_there h))

  pub table_few : {e : ℕ} → e < x.edges → get_or x.tables e 0 ≤ 4_096
  table_few {e} h = omega (arith, table_is h, table_here h, cells_few)

  -- the prices
  pub prices_there : (x.prices + 4 * x.positions ≤ length s) × (x.edge_prices + 4 * x.cells ≤ length s)
  unfolding first instance_of
  prices_there = (omega (arith, x.placed.0, positions_is, whole.whole), omega (arith, x.placed.2, cells_is, whole.whole))

  pub node_price_is : (i : ℕ) → price_at s (x.prices + 4 * i) ≡ I.node_price i
  unfolding instance_of
  node_price_is i = ap (λ (z : ℕ). price_at s (z + 4 * i)) x.placed.0

  pub edge_price_is : (j : ℕ) → price_at s (x.edge_prices + 4 * j) ≡ I.edge_price j
  unfolding instance_of
  edge_price_is j = ap (λ (z : ℕ). price_at s (z + 4 * j)) x.placed.2
