-- `clash_from` meets its contract: a label whose bit the mask lacks is none of the labels, and what is found from a place on stands so much further on.
use Rattle.std.proofs.Common.{sym, ap, ◌∙◌}
use lib.Bits.{bit_and}
use Rattle.messages.proofs.ClashLaws.{masked_out, onward_rise, skips_onward}
use Rattle.messages.proofs.clash.clash_from.Goals as goal

pub returns-then-mask-bit_of-eq0 : goal.returns-then-mask-bit_of-eq0
returns-then-mask-bit_of-eq0 c =
    masked_out c.args.labels.now c.args.mask c.requires.1 c.args.label (ap (bit_and c.args.mask) (sym c.bit_of.ensures) ∙ c.if-mask-bit_of-eq0.true)

pub place_of-requires : goal.place_of-requires
place_of-requires c = onward_rise c.args.labels.now c.args.from c.requires.0

pub returns-in-Some : goal.returns-in-Some
returns-in-Some c = skips_onward c.args.labels.now c.args.from c.requires.0 c.in-Some.ensures
