-- `edge_sum` meets its contract: after e turns the sum is that of the first e tables' leasts.
use Rattle.std.proofs.Common.{◌≡◌, ℕ, ◌+◌, ◌-◌, ◌≤◌, true, List, length, get_or, ℤ, pos, ◌+ℤ◌, nat_abs, ap, ◌∙◌, arith, w64, SFits, to_z, to_z-of_z}
use Rattle.integers.specs.Least.{least_of}
use Rattle.integers.specs.Places.{offset}
use Rattle.integers.specs.Rows.{part}
use Rattle.integers.proofs.Bits.{same}
use Rattle.integers.proofs.Rows.{within_map}
use Rattle.instance.specs.declared.sheet.Sheet.{Sheet}
use Rattle.instance.specs.Instance.{Instance, table_size, table}
use Rattle.instance.specs.Sheet.{instance_of}
use Rattle.instance.specs.Described.{labels_of}
use Rattle.instance.proofs.Sheets.{edges_few}
use Rattle.rules.specs.Calls.{cost_limit}
use Rattle.messages.specs.Lent.{Fits}
use Rattle.messages.specs.EdgeMessage.{usable_of, usable_cells}
use Rattle.messages.specs.Bounds.{table_least}
use Rattle.messages.proofs.RowLaws.{least_of_within}
use Rattle.messages.proofs.SumLaws.{Parts, added_none, added_fits, added_more, added_all, part_inside, part_is, part_length, part_range}
use Rattle.messages.proofs.BoundLaws.{edge_parts, edge_begins}
use Rattle.messages.proofs.StateLaws.{edges_held}
use Rattle.messages.proofs.bound.edge_sum.Goals as goal
use Rattle.messages.proofs.bound.edge_sum.Goals.{After-cell_least-sum, After-size}

-- the table of this turn
module _ (d : After-size) where
  abbrev x : Sheet
  x = d.args.held.now.sheet.now

  abbrev I : Instance
  I = instance_of x.bytes.now

  abbrev costs : List ℤ
  costs = d.args.held.now.lent.edges.now

  abbrev at : ℕ
  at = get_or x.tables d.loop-e.e 0

  abbrev cells : List ℤ
  cells = part costs at (at + d.size.result - at)

  begins : at ≡ offset (table_size I) d.loop-e.e
  begins = edge_begins x d.loop-e-test.true

  parts : Parts (table_size I) costs x.edges
  parts = edge_parts x (edges_held d.args.held.now)

  inside : at + d.size.result ≤ length costs
  inside = part_inside parts d.loop-e-test.true begins d.size.ensures.0

  fits : Fits (table_size I d.loop-e.e) cells
  fits = record {
    size = part_length parts d.loop-e-test.true begins d.size.ensures.0;
    range = part_range parts d.loop-e-test.true begins d.size.ensures.0;
  }

  -- the least usable of some cells of this edge
  abbrev least : List ℤ → ℤ
  least l = let e = d.loop-e.e in least_of (usable_cells true (labels_of x.bytes.now (I.low e)) (labels_of x.bytes.now (I.high e)) l)

  within : nat_abs (least cells) ≤ cost_limit
  within =
      let e = d.loop-e.e in let low = labels_of x.bytes.now (I.low e) in let high = labels_of x.bytes.now (I.high e) in
      least_of_within cost_limit (usable_cells true low high cells) (within_map cost_limit (λ j. get_or cells j (pos 0)) (usable_of true low high (length cells)) fits.range)

-- its least
module _ (c : After-cell_least-sum) where
  abbrev turn : After-size
  turn = (goal.at.After-cell_least-sum c).After-size

  is : c.cell_least-sum.result ≡ table_least (x turn).bytes.now (costs turn) c.loop-e.e
  unfolding table
  is = c.cell_least-sum.ensures ∙ ap (least turn) (part_is (parts turn) turn.loop-e-test.true (begins turn) turn.size.ensures.0)

  small : nat_abs c.cell_least-sum.result ≤ cost_limit
  small = rw c.cell_least-sum.ensures (within turn)

  sum_fits : SFits w64 (to_z w64 c.loop-e.sum-bits +ℤ c.cell_least-sum.result)
  sum_fits = added_fits c.loop-e.invariant c.cell_least-sum.result small (omega arith) (omega (arith, c.loop-e-test.true, edges_few (x turn)))

pub loop-e-init : goal.loop-e-init
loop-e-init c = added_none _ _

pub offset_bounds-sheet-e : goal.offset_bounds-sheet-e
offset_bounds-sheet-e c = omega (arith, c.loop-e-test.true, edges_few c.args.held.now.sheet.now)

pub bounds-sheet-e : goal.bounds-sheet-e
bounds-sheet-e c = omega (arith, c.loop-e-test.true, edges_few c.args.held.now.sheet.now)

pub overflow_add-to : goal.overflow_add-to
overflow_add-to c = omega (arith, inside c)

pub offset_bounds-held-at : goal.offset_bounds-held-at
offset_bounds-held-at c = omega (arith, inside (goal.at.offset_bounds-held-at c).After-size)

pub slice_bounds-cell_least-end : goal.slice_bounds-cell_least-end
slice_bounds-cell_least-end c = omega (arith, inside (goal.at.slice_bounds-cell_least-end c).After-size)

pub cell_least-sum-requires : goal.cell_least-sum-requires
cell_least-sum-requires c = record { edge = c.loop-e-test.true; fits = fits (goal.at.cell_least-sum-requires c).After-size }

pub overflow_add-sum : goal.overflow_add-sum
overflow_add-sum c = rw (same c.cell_least-sum.result c.cell_least-sum.type_inv) (sum_fits c)

pub loop-e-preserved : goal.loop-e-preserved
loop-e-preserved c = rw (same c.cell_least-sum.result c.cell_least-sum.type_inv, to_z-of_z (sum_fits c)) (added_more c.loop-e.invariant c.cell_least-sum.result (small c) (is c))

pub returns : goal.returns
returns c = added_all c.loop-e.invariant (omega arith) c.loop-e-test.false
