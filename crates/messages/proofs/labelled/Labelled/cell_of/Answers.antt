-- `cell_of` meets its contract: the row of the lower end's position, and the higher end's place in it.
use Rattle.std.proofs.Common.{◌≡◌, ℕ, ◌+◌, ◌*◌, ◌<◌, get_or, ◌∙◌, ap₂, arith}
use Rattle.instance.specs.Sheet.{instance_of}
use Rattle.instance.proofs.Sheets.{proper, edges_few, edge_there, cells_is, cells_few}
use Rattle.rules.specs.Costs.{chosen_cell}
use Rattle.rules.proofs.Places.{cell_lt}
use Rattle.messages.proofs.IncumbentLaws.{cell_is}
use Rattle.messages.proofs.labelled.Labelled.cell_of.Goals as goal
use Rattle.messages.proofs.labelled.Labelled.cell_of.Goals.{After-from-2}

-- all that is read
module _ (c : After-from-2) where
  abbrev found : ℕ
  found = get_or c.args.self.now.sheet.now.tables c.args.e 0 + (c.degree.result * c.from.result + c.from-2.result)

  is : found ≡ chosen_cell (instance_of c.args.self.now.sheet.now.bytes.now) c.args.self.now.x.now c.args.e
  is =
      ap₂ (λ (a b : ℕ). get_or c.args.self.now.sheet.now.tables c.args.e 0 + (c.degree.result * a + b)) c.from.ensures c.from-2.ensures
      ∙ cell_is c.args.self.now.sheet.now c.args.self.now.x.now c.requires c.low-u.ensures.0 c.high-v.ensures.0 c.degree.ensures.0

  inside : found < c.args.self.now.sheet.now.cells
  inside =
      let q = c.args.self.now.sheet.now in
      omega (arith, is, cells_is q, cell_lt (instance_of q.bytes.now) (proper q) c.args.self.now.labelling (edge_there q c.requires))

  small : found < 4_096
  small = omega (arith, inside, cells_few c.args.self.now.sheet.now)

pub offset_bounds-sheet-e : goal.offset_bounds-sheet-e
offset_bounds-sheet-e c = omega (arith, c.requires, edges_few c.args.self.now.sheet.now)

pub bounds-sheet-e : goal.bounds-sheet-e
bounds-sheet-e c = omega (arith, c.requires, edges_few c.args.self.now.sheet.now)

pub overflow_add-result-2 : goal.overflow_add-result-2
overflow_add-result-2 c = omega (arith, small c)

pub returns : goal.returns
returns c = (is c, inside c)
