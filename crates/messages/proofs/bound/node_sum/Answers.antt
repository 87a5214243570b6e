-- `node_sum` meets its contract: after u turns the sum is that of the first u rows' leasts.
use Rattle.std.proofs.Common.{◌≡◌, ℕ, ◌+◌, ◌-◌, ◌<◌, ◌≤◌, List, length, get_or, ℤ, ◌+ℤ◌, nat_abs, ap, ◌∙◌, arith, w64, SFits, to_z, to_z-of_z}
use Rattle.integers.specs.Least.{least_of}
use Rattle.integers.specs.Places.{offset}
use Rattle.integers.specs.Rows.{part}
use Rattle.integers.proofs.Bits.{same}
use Rattle.instance.specs.declared.sheet.Sheet.{Sheet}
use Rattle.instance.specs.Instance.{first}
use Rattle.instance.specs.Sheet.{instance_of}
use Rattle.instance.proofs.Sheets.{nodes_few, degree_some}
use Rattle.rules.specs.Calls.{cost_limit}
use Rattle.messages.specs.Bounds.{row_least}
use Rattle.messages.proofs.RowLaws.{least_of_within}
use Rattle.messages.proofs.SumLaws.{Parts, added_none, added_fits, added_more, added_all, part_inside, part_is, part_length, part_range}
use Rattle.messages.proofs.BoundLaws.{node_parts, node_begins}
use Rattle.messages.proofs.StateLaws.{nodes_held}
use Rattle.messages.proofs.bound.node_sum.Goals as goal
use Rattle.messages.proofs.bound.node_sum.Goals.{After-degree, After-least_of-sum}

-- the row of this turn
module _ (d : After-degree) where
  abbrev x : Sheet
  x = d.args.held.now.sheet.now

  abbrev costs : List ℤ
  costs = d.args.held.now.lent.nodes.now

  abbrev at : ℕ
  at = get_or x.starts d.loop-u.u 0

  abbrev row : List ℤ
  row = part costs at (at + d.degree.result - at)

  begins : at ≡ offset (instance_of x.bytes.now).degree d.loop-u.u
  begins = node_begins x d.loop-u-test.true

  parts : Parts (instance_of x.bytes.now).degree costs x.nodes
  parts = node_parts x (nodes_held d.args.held.now)

  inside : at + d.degree.result ≤ length costs
  inside = part_inside parts d.loop-u-test.true begins d.degree.ensures.0

  some : 0 < length row
  some = omega (arith, part_length parts d.loop-u-test.true begins d.degree.ensures.0, degree_some x d.loop-u-test.true)

-- its least
module _ (c : After-least_of-sum) where
  abbrev turn : After-degree
  turn = (goal.at.After-least_of-sum c).After-degree

  is : c.least_of-sum.result ≡ row_least (instance_of (x turn).bytes.now) (costs turn) c.loop-u.u
  unfolding first
  is = c.least_of-sum.ensures ∙ ap least_of (part_is (parts turn) turn.loop-u-test.true (begins turn) turn.degree.ensures.0)

  small : nat_abs c.least_of-sum.result ≤ cost_limit
  small = rw c.least_of-sum.ensures (least_of_within cost_limit (row turn) (part_range (parts turn) turn.loop-u-test.true (begins turn) turn.degree.ensures.0))

  fits : SFits w64 (to_z w64 c.loop-u.sum-bits +ℤ c.least_of-sum.result)
  fits = added_fits c.loop-u.invariant c.least_of-sum.result small (omega arith) (omega (arith, c.loop-u-test.true, nodes_few (x turn)))

pub loop-u-init : goal.loop-u-init
loop-u-init c = added_none _ _

pub overflow_add-to : goal.overflow_add-to
overflow_add-to c = omega (arith, inside c)

pub offset_bounds-held-at : goal.offset_bounds-held-at
offset_bounds-held-at c = omega (arith, inside (goal.at.offset_bounds-held-at c).After-degree)

pub overflow_add-sum : goal.overflow_add-sum
overflow_add-sum c = rw (same c.least_of-sum.result c.least_of-sum.type_inv) (fits c)

pub loop-u-preserved : goal.loop-u-preserved
loop-u-preserved c = rw (same c.least_of-sum.result c.least_of-sum.type_inv, to_z-of_z (fits c)) (added_more c.loop-u.invariant c.least_of-sum.result (small c) (is c))

pub returns : goal.returns
returns c = added_all c.loop-u.invariant (omega arith) c.loop-u-test.false

pub offset_bounds-sheet-u : goal.offset_bounds-sheet-u
offset_bounds-sheet-u c = omega (arith, c.loop-u-test.true, nodes_few c.args.held.now.sheet.now)

pub bounds-sheet-u : goal.bounds-sheet-u
bounds-sheet-u c = omega (arith, c.loop-u-test.true, nodes_few c.args.held.now.sheet.now)

pub slice_bounds-least_of-end : goal.slice_bounds-least_of-end
slice_bounds-least_of-end c = omega (arith, inside (goal.at.slice_bounds-least_of-end c).After-degree)
