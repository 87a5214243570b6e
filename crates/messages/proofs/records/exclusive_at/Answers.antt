-- `exclusive_at` meets its contract: the place lies in the node's row.
use Rattle.std.proofs.Common.{◌≡◌, ℕ, ◌+◌, ◌<◌, get_or, ap, ◌∙◌, arith}
use Rattle.instance.specs.Instance.{Instance, exclusive, first}
use Rattle.instance.specs.Sheet.{instance_of}
use Rattle.instance.specs.declared.sheet.Sheet.{Sheet}
use Rattle.instance.proofs.Sheets.{nodes_few, positions_few, start_is, row_here}
use Rattle.messages.proofs.records.exclusive_at.Goals as goal
use Rattle.messages.proofs.records.exclusive_at.Goals.{Start}

module _ (q : Start) where
  abbrev x : Sheet
  x = q.args.sheet.now

  abbrev I : Instance
  I = instance_of x.bytes.now

  begins : get_or x.starts q.args.u 0 ≡ first I q.args.u
  begins = start_is x q.requires.0

  inside : get_or x.starts q.args.u 0 + q.args.k < x.positions
  inside = omega (arith, begins, q.requires.1, row_here x q.requires.0)

pub offset_bounds-sheet-u : goal.offset_bounds-sheet-u
offset_bounds-sheet-u c = omega (arith, c.requires.0, nodes_few c.args.sheet.now)

pub bounds-sheet-u : goal.bounds-sheet-u
bounds-sheet-u c = omega (arith, c.requires.0, nodes_few c.args.sheet.now)

pub overflow_add-sheet : goal.overflow_add-sheet
overflow_add-sheet c = let q = (goal.at.overflow_add-sheet c).Start in omega (arith, inside q, positions_few (x q))

pub label-label-requires : goal.label-label-requires
label-label-requires c = inside (goal.at.label-label-requires c).Start

pub returns : goal.returns
returns c =
    let q = (goal.at.returns c).Start in
    c.exclusive.ensures ∙ ap exclusive (c.label-label.ensures.0 ∙ ap (λ (a : ℕ). (I q).label (a + q.args.k)) (begins q))
