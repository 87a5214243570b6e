-- `prices_of` meets its contract: the stretch lies in the sheet, and is shown where it lies.
use Rattle.std.proofs.Common.{◌≡◌, ℕ, ◌+◌, ◌-◌, ◌*◌, ◌≤◌, length, get_or, take, drop, sym, ◌∙◌, ap₂, arith}
use Rattle.instance.specs.declared.sheet.Sheet.{Sheet}
use Rattle.instance.specs.Layout.{edge_refusal_of, edge_from, edge_bytes, edge_place_of}
use Rattle.instance.proofs.Shown.{edge_there, edge_shown, edge_placed, edge_inside}
use Rattle.instance.proofs.Sheets.{whole, edges_few, table_is, table_few, edge_prices_few, edge_there as there}
use Rattle.instance.proofs.sheet.Sheet.prices_of.Goals as goal
use Rattle.instance.proofs.sheet.Sheet.prices_of.Goals.{After-size, Start}

-- where the stretch begins
module _ (q : Start) where
  abbrev x : Sheet
  x = q.args.self.now

  abbrev from : ℕ
  from = x.edge_prices + 4 * get_or x.tables q.args.e 0

  begins : from ≡ edge_from x.bytes.now q.args.e
  unfolding edge_from
  begins = omega (arith, x.placed.2, table_is x q.requires)

-- and how long it is
module _ (p : After-size) where
  abbrev start : Start
  start = (goal.at.After-size p).Start

  long : 4 * p.size.result ≡ edge_bytes (x start).bytes.now start.args.e
  unfolding edge_bytes
  long = omega (arith, p.size.ensures.0)

  inside : from start + 4 * p.size.result ≤ length (x start).bytes.now
  inside =
      omega (arith, begins start, long, edge_inside (x start).bytes.now start.args.e (whole (x start)) (there (x start) start.requires))

pub offset_bounds-self-e : goal.offset_bounds-self-e
offset_bounds-self-e c = omega (arith, edges_few c.args.self.now, c.requires)

pub bounds-self-e : goal.bounds-self-e
bounds-self-e c = omega (arith, edges_few c.args.self.now, c.requires)

pub overflow_mul-from : goal.overflow_mul-from
overflow_mul-from c = omega (arith, table_few c.args.self.now c.requires)

pub overflow_add-from : goal.overflow_add-from
overflow_add-from c = let x = c.args.self.now in omega (arith, table_few x c.requires, edge_prices_few x)

pub overflow_add-result : goal.overflow_add-result
overflow_add-result c =
    let x = c.args.self.now in omega (arith, table_few x c.requires, edge_prices_few x, c.size.ensures.2)

pub slice_bounds-result-end : goal.slice_bounds-result-end
slice_bounds-result-end c = omega (arith, inside c)

pub returns : goal.returns
returns c =
    let p = (goal.at.returns c).After-size in
    let q = start p in
    let s = (x q).bytes in
    let e = c.args.e in
    let z : edge_refusal_of s.now e ≡ 0 = edge_there s.now e (x q).readable (there (x q) c.requires) in
    let k : from q + 4 * c.size.result - from q ≡ edge_bytes s.now e = omega (arith, long p) in
    let o : from q + s.ref_ptr.1 ≡ s.ref_ptr.1 + edge_place_of s.now e = omega (arith, begins q, edge_placed s.now e z) in
    record {
      bytes = ap₂ (λ (n m : ℕ). take n (drop m s.now)) k (begins q) ∙ sym (edge_shown s.now e z);
      place = λ j. (s.ref_ptr.0, o j);
    }
