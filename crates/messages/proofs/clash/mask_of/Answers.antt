-- `mask_of` meets its contract: the mask has the bits of the labels so far.
use Rattle.std.proofs.Common.{ℕ, ◌+◌, sym, subst, arith}
use lib.Bits.{bit_or}
use Rattle.messages.proofs.ClashLaws.{Masked, masked_more}
use Rattle.messages.proofs.clash.mask_of.Goals as goal

pub loop-label-preserved : goal.loop-label-preserved
loop-label-preserved c =
    let l = c.args.labels.now in
    subst (λ (b : ℕ). Masked l (bit_or c.loop-label.mask b) (c.loop-label.label-index + 1)) (sym c.bit_of-mask.ensures) (masked_more c.loop-label.invariant (omega arith))
