-- `labels_of` meets its contract: the labels stand behind the degrees, a node's from its first place on.
use Rattle.std.proofs.Common.{◌≡◌, ℕ, ◌+◌, ◌-◌, ◌≤◌, length, get_or, ap₂, arith}
use Rattle.integers.specs.Rows.{part}
use Rattle.instance.specs.declared.sheet.Sheet.{Sheet}
use Rattle.instance.specs.Sheet.{instance_of}
use Rattle.instance.proofs.Sheets.{whole, nodes_is, nodes_few, positions_is, positions_few, start_is, row_here}
use Rattle.instance.proofs.sheet.Sheet.labels_of.Goals as goal
use Rattle.instance.proofs.sheet.Sheet.labels_of.Goals.{Start}

module _ (q : Start) where
  abbrev x : Sheet
  x = q.args.self.now

  abbrev from : ℕ
  from = x.nodes + get_or x.starts q.args.u 0

  inside : from + (instance_of x.bytes.now).degree q.args.u ≤ length x.bytes.now
  inside = omega (arith, whole x, nodes_is x, positions_is x, start_is x q.requires, row_here x q.requires)

  few : from + (instance_of x.bytes.now).degree q.args.u ≤ 1_088
  few = omega (arith, nodes_few x, positions_few x, start_is x q.requires, row_here x q.requires)

pub offset_bounds-self-u : goal.offset_bounds-self-u
offset_bounds-self-u c = omega (arith, nodes_few c.args.self.now, c.requires)

pub bounds-self-u : goal.bounds-self-u
bounds-self-u c = omega (arith, nodes_few c.args.self.now, c.requires)

pub overflow_add-from : goal.overflow_add-from
overflow_add-from c = omega (arith, few (goal.at.overflow_add-from c).Start)

pub overflow_add-result : goal.overflow_add-result
overflow_add-result c = omega (arith, few (goal.at.overflow_add-result c).Start, c.degree.ensures.0)

pub slice_bounds-result-end : goal.slice_bounds-result-end
slice_bounds-result-end c = omega (arith, inside (goal.at.slice_bounds-result-end c).Start, c.degree.ensures.0)

pub returns : goal.returns
returns c =
    let q = (goal.at.returns c).Start in
    let n : from q + c.degree.result - from q ≡ (instance_of (x q).bytes.now).degree c.args.u = omega (arith, c.degree.ensures.0) in
    ap₂ (λ (i k : ℕ). part (x q).bytes.now i k) (ap₂ ◌+◌ (nodes_is (x q)) (start_is (x q) c.requires)) n
