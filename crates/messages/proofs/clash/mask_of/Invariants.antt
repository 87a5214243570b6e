-- `mask_of` meets its contract: the mask has the bits of the labels so far.
use Rattle.messages.proofs.ClashLaws.{Masked}
use Rattle.messages.proofs.clash.mask_of.Given as goal

abbrev pub invariant-loop-label : goal.invariant-loop-label
invariant-loop-label l = Masked l.labels l.mask l.label-index
