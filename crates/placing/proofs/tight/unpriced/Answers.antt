-- `unpriced` meets its contract: the labels so far.
use Rattle.std.proofs.Common.{rules, ◌≡◌, get_or, pos, to_z-of_z, w64, to_z, of_z}
use Rattle.integers.proofs.Parts.{linear, parts}
use Rattle.placing.proofs.TightLaws.{untagged_none, untagged_past, untagged_more}
use Rattle.placing.proofs.tight.unpriced.Goals as goal
use Rattle.placing.proofs.tight.unpriced.Goals.{then-price-le0, else-price-le0}

pub loop-label-init : goal.loop-label-init
loop-label-init c = untagged_none c.args.prices.now

pub loop-label-preserved : goal.loop-label-preserved
loop-label-preserved c =
    let l = c.loop-label.label in
    let v = c.loop-label.invariant in
    let p = c.args.prices.now in
    let read : to_z w64 (of_z w64 (get_or p l (pos 0))) ≡ get_or p l (pos 0) = to_z-of_z {w = w64} {z = get_or p l (pos 0)} (search rules) in
    let above = c.requires l in
    elim c.if-price-le0.branch [
      | then-price-le0 w ↦ rw (w.idle-is, w.bit_of-idle.ensures) (untagged_more v c.loop-label-test.true (omega (linear, parts read, above, w.if-price-le0.true)))
      | else-price-le0 w ↦ rw w.idle-is (untagged_past v (λ e. omega (linear, parts read, parts e, w.if-price-le0.false)))
    ]
