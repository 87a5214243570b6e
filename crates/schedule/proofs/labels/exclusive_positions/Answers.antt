-- `exclusive_positions` meets its contract: the last label decides.
use Rattle.std.proofs.Common.{◌≡◌, ℕ, ◌+◌, ◌-◌, ◌<◌, get_or, sym, ap, ap₂, ◌∙◌, arith}
use Rattle.integers.proofs.Places.{if-true, if-false}
use Rattle.instance.specs.declared.sheet.Sheet.{Sheet}
use Rattle.instance.specs.Instance.{Instance, exclusive, first}
use Rattle.instance.specs.Sheet.{instance_of}
use Rattle.instance.proofs.Sheets.{start_is, row_here, degree_some, nodes_few, positions_few}
use Rattle.schedule.proofs.labels.exclusive_positions.Goals as goal

-- a node's last place
module _ (x : Sheet) {u d : ℕ} (h : u < x.nodes) (e : d ≡ (instance_of x.bytes.now).degree u) where
  abbrev I : Instance
  I = instance_of x.bytes.now

  inside : get_or x.starts u 0 + (d - 1) < x.positions
  inside = omega (arith, start_is x h, e, degree_some x h, row_here x h)

  labelled : {l : ℕ} → l ≡ I.label (get_or x.starts u 0 + (d - 1)) → exclusive l ≡ exclusive (I.label (first I u + (I.degree u - 1)))
  labelled q = ap exclusive (q ∙ ap₂ (λ (a d : ℕ). I.label (a + (d - 1))) (start_is x h) e)

pub offset_bounds-sheet-u : goal.offset_bounds-sheet-u
offset_bounds-sheet-u c = omega (arith, c.requires, nodes_few c.args.sheet.now)

pub bounds-sheet-u : goal.bounds-sheet-u
bounds-sheet-u c = omega (arith, c.requires, nodes_few c.args.sheet.now)

pub overflow_add-last : goal.overflow_add-last
overflow_add-last c =
    let x = c.args.sheet.now in omega (arith, inside x c.requires c.degree-degree.ensures.0, positions_few x)

pub label-requires : goal.label-requires
label-requires c = inside c.args.sheet.now c.requires c.degree-degree.ensures.0

pub returns-then-exclusive : goal.returns-then-exclusive
returns-then-exclusive c =
    let d = c.degree-degree.ensures in
    let t = sym (labelled c.args.sheet.now c.requires d.0 c.label.ensures.0) ∙ sym c.exclusive.ensures ∙ c.if-exclusive.true in
    (d.0 ∙ sym (if-true _ _ t), omega (arith, d.0), d.2)

pub returns : goal.returns
returns c =
    let d = c.degree-degree.ensures in
    let t = sym (labelled c.args.sheet.now c.requires d.0 c.label.ensures.0) ∙ sym c.exclusive.ensures ∙ c.if-exclusive.false in
    (ap (λ (k : ℕ). k - 1) d.0 ∙ sym (if-false _ _ t), omega (arith, d.0), omega (arith, d.2))
