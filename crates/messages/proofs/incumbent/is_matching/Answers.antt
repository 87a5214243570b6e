-- `is_matching` meets its contract: after u nodes each of them passed, and `untaken` the labels that may still be taken.
use Rattle.std.proofs.Common.{◌≡◌, ℕ, ◌+◌, ◌<◌, get_or, ap, ◌∙◌, arith}
use Rattle.instance.specs.Sheet.{instance_of}
use Rattle.instance.proofs.Sheets.{nodes_is, nodes_few, positions_few}
use Rattle.rules.specs.Costs.{chosen}
use Rattle.messages.proofs.IncumbentLaws.{place_is, place_in, match_none, match_over, match_taken, match_more, match_bad, match_done}
use Rattle.messages.proofs.incumbent.is_matching.Goals as goal
use Rattle.messages.proofs.incumbent.is_matching.Goals.{After-label-label, Else-degree-k}

-- at a position below the degree
module _ (c : Else-degree-k) where
  fair : get_or c.args.x.now c.loop-u.u 0 < (instance_of c.args.sheet.now.bytes.now).degree c.loop-u.u
  fair = omega (arith, c.if-degree-k.false, c.degree.ensures.0, c.from-k.ensures)

  inside : get_or c.args.sheet.now.starts c.loop-u.u 0 + c.from-k.result < c.args.sheet.now.positions
  inside = omega (arith, c.from-k.ensures, place_in c.args.sheet.now c.args.x.now c.loop-u-test.true fair)

-- its label
label : (c : After-label-label) → c.label-label.result ≡ (instance_of c.args.sheet.now.bytes.now).label (chosen (instance_of c.args.sheet.now.bytes.now) c.args.x.now c.loop-u.u)
label c =
    c.label-label.ensures.0
    ∙ ap (instance_of c.args.sheet.now.bytes.now).label (ap (λ (z : ℕ). get_or c.args.sheet.now.starts c.loop-u.u 0 + z) c.from-k.ensures ∙ place_is c.args.sheet.now c.args.x.now c.loop-u-test.true)

pub loop-u-init : goal.loop-u-init
loop-u-init c = match_none (instance_of c.args.sheet.now.bytes.now) c.args.x.now c.args.sheet.now.nodes

pub returns-then-degree-k : goal.returns-then-degree-k
returns-then-degree-k c =
    let J = instance_of c.args.sheet.now.bytes.now in
    match_bad J c.args.x.now (nodes_is c.args.sheet.now) c.loop-u.u c.loop-u-test.true (match_over J c.args.x.now c.loop-u.u (omega (arith, c.if-degree-k.true, c.degree.ensures.0, c.from-k.ensures)))

pub offset_bounds-sheet-u : goal.offset_bounds-sheet-u
offset_bounds-sheet-u c = omega (arith, c.loop-u-test.true, nodes_few c.args.sheet.now)

pub bounds-sheet-u : goal.bounds-sheet-u
bounds-sheet-u c = omega (arith, c.loop-u-test.true, nodes_few c.args.sheet.now)

pub overflow_add-sheet : goal.overflow_add-sheet
overflow_add-sheet c = omega (arith, inside (goal.at.overflow_add-sheet c).Else-degree-k, positions_few c.args.sheet.now)

pub label-label-requires : goal.label-label-requires
label-label-requires c = inside (goal.at.label-label-requires c).Else-degree-k

pub returns-then-not-untaken-label : goal.returns-then-not-untaken-label
returns-then-not-untaken-label c =
    let J = instance_of c.args.sheet.now.bytes.now in
    match_bad J c.args.x.now (nodes_is c.args.sheet.now) c.loop-u.u c.loop-u-test.true
    (match_taken J c.args.x.now c.loop-u.invariant (label (goal.at.returns-then-not-untaken-label c).After-label-label) c.label-label.ensures.1 (fair (goal.at.returns-then-not-untaken-label c).Else-degree-k) c.if-not-untaken-label.true)

pub loop-u-preserved : goal.loop-u-preserved
loop-u-preserved c =
    match_more (instance_of c.args.sheet.now.bytes.now) c.args.x.now c.loop-u.invariant (label (goal.at.loop-u-preserved c).After-label-label) c.label-label.ensures.1 (fair (goal.at.loop-u-preserved c).Else-degree-k) c.loop-u-test.true c.if-not-untaken-label.false c.exclusive.ensures

pub returns : goal.returns
returns c = match_done (instance_of c.args.sheet.now.bytes.now) c.args.x.now (nodes_is c.args.sheet.now) c.loop-u.invariant c.loop-u-test.false
