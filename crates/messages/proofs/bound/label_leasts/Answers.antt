-- `label_leasts` meets its contract: the places are gone through, each label's least kept in its place.
use Rattle.std.proofs.Common.{◌≡◌, length, get_or, pos, ap, ◌∙◌, ap₂, arith, to_z-of_z, w64, rules}
use Rattle.std.specs.Int.{int_min}
use Rattle.integers.proofs.Bits.{answer}
use Rattle.instance.specs.Sheet.{instance_of}
use Rattle.instance.proofs.Sheets.{positions_is}
use Rattle.messages.specs.Bounds.{least_labels}
use Rattle.messages.proofs.RowLaws.{less_back}
use Rattle.messages.proofs.LabelLaws.{leasts_none, leasts_turn}
use Rattle.messages.proofs.StateLaws.{labels_held}
use Rattle.messages.proofs.bound.label_leasts.Goals as goal

pub loop-i-init : goal.loop-i-init
loop-i-init c = leasts_none _ _

pub label-l-requires : goal.label-l-requires
label-l-requires c = omega (arith, c.loop-i-test.true, (labels_held c.args.held.now).size, positions_is c.args.held.now.sheet.now)

pub loop-i-preserved : goal.loop-i-preserved
loop-i-preserved c =
    let a = c.args in
    let x = get_or a.held.now.lent.labels.now c.loop-i.i (pos 0) in
    let y = get_or c.loop-i.least c.label-l.result (pos 0) in
    leasts_turn (instance_of a.held.now.sheet.now.bytes.now) a.held.now.lent.labels.now c.loop-i.invariant c.label-l.ensures.0 c.label-l.ensures.1
    (answer c.min.type_inv (c.min.ensures.value ∙ ap₂ int_min (to_z-of_z {w = w64} {z = y} (search rules)) (to_z-of_z {w = w64} {z = x} (search rules)) ∙ less_back y x))

pub returns : goal.returns
returns c =
    let e : c.loop-i.i ≡ length c.args.held.now.lent.labels.now = omega arith in
    c.loop-i.invariant ∙ ap (least_labels (instance_of c.args.held.now.sheet.now.bytes.now) c.args.held.now.lent.labels.now) (e ∙ (labels_held c.args.held.now).size)
