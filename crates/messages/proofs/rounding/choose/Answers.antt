-- `choose` meets its contract: after k positions the best is that of the first k.
use Rattle.std.proofs.Common.{◌≡◌, ℕ, ◌+◌, ◌<◌, Bool, false, Option, get_or, ℤ, pos, sym, ap, ◌∙◌, ap₂, arith}
use Rattle.instance.specs.Instance.{Instance, first}
use Rattle.instance.specs.Sheet.{instance_of}
use Rattle.instance.proofs.Sheets as sheet
use Rattle.messages.specs.Rounded.{better, chosen_from}
use Rattle.messages.proofs.ChoiceLaws.{better_taken, chosen_none, chosen_few, chosen_more}
use Rattle.messages.proofs.rounding.choose.Goals as goal
use Rattle.messages.proofs.rounding.choose.Goals.{In-loop-k, Start, then-untaken-label, else-untaken-label}

abbrev I : Start → Instance
I q = instance_of q.args.sheet.now.bytes.now

few : (q : Start) → q.args.u < 64
few q = omega (arith, q.requires, sheet.nodes_few q.args.sheet.now)

-- a position and its place
module _ (p : In-loop-k) where
  abbrev start : Start
  start = (goal.at.In-loop-k p).Start

  begins : get_or start.args.sheet.now.starts start.args.u 0 ≡ first (I start) start.args.u
  begins = sheet.start_is start.args.sheet.now start.requires

  inside : get_or start.args.sheet.now.starts start.args.u 0 + p.loop-k.k < start.args.sheet.now.positions
  inside = omega (arith, begins, p.loop-k-test.true, p.degree-k-end.ensures.0, sheet.row_here start.args.sheet.now start.requires)

pub offset_bounds-sheet-u : goal.offset_bounds-sheet-u
offset_bounds-sheet-u c = omega (arith, few c)

pub bounds-sheet-u : goal.bounds-sheet-u
bounds-sheet-u c = few (goal.at.bounds-sheet-u c).Start

pub loop-k-init : goal.loop-k-init
loop-k-init c = let q = (goal.at.loop-k-init c).Start in chosen_none (I q) (first (I q) c.args.u) c.args.keys.now c.args.untaken.now

pub overflow_add-at : goal.overflow_add-at
overflow_add-at c = omega (arith, inside c, sheet.positions_few c.args.sheet.now)

pub label-label-requires : goal.label-label-requires
label-label-requires c = inside (goal.at.label-label-requires c).In-loop-k

pub better_of-best-requires : goal.better_of-best-requires
better_of-best-requires c =
    let a = c.args in
    let q = (goal.at.better_of-best-requires c).Start in
    let d = c.degree-k-end.ensures.2 in
    (rw c.loop-k.invariant (chosen_few (I q) (first (I q) a.u) a.keys.now a.untaken.now c.loop-k.k (omega arith)), omega arith)

pub loop-k-preserved : goal.loop-k-preserved
loop-k-preserved c =
    let a = c.args in
    let p = (goal.at.loop-k-preserved c).In-loop-k in
    let J = I (start p) in
    let k = c.loop-k.k in
    let key : ℕ → ℤ = (λ i. get_or a.keys.now i (pos 0)) in
    let tested : get_or a.untaken.now c.label-label.result false ≡ get_or a.untaken.now (J.label (first J a.u + k)) false =
    ap (λ (l : ℕ). get_or a.untaken.now l false) (c.label-label.ensures.0 ∙ ap (λ (i : ℕ). J.label (i + k)) (begins p)) in
    elim c.if-untaken-label.branch [
      | then-untaken-label w ↦ rw w.best-is (w.better_of-best.ensures ∙ ap₂ (λ (t : Bool) (b : Option ℕ). better t key b k) (sym w.if-untaken-label.true ∙ tested) c.loop-k.invariant ∙ chosen_more J (first J a.u) a.keys.now a.untaken.now k)
      | else-untaken-label w ↦ rw w.best-is (c.loop-k.invariant ∙ better_taken key k (chosen_from J (first J a.u) a.keys.now a.untaken.now k) (sym tested ∙ w.if-untaken-label.false) ∙ chosen_more J (first J a.u) a.keys.now a.untaken.now k)
    ]
