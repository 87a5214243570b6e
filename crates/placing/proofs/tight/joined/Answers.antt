-- `joined` meets its contract: a label below 64 goes into the word, 255 into the flag.
use Rattle.std.proofs.Common.{arith, sym, subst}
use lib.Bits.{bit_or}
use Rattle.placing.specs.TightRows.{Joins}
use Rattle.placing.proofs.TightLaws.{joins_label, joins_own}
use Rattle.placing.proofs.tight.joined.Goals as goal

pub returns-then-label-lt64 : goal.returns-then-label-lt64
returns-then-label-lt64 c = let r = c.args.row in subst (λ b. Joins r c.args.label (record { word = bit_or r.word b; own = r.own })) (sym c.bit_of.ensures) (joins_label r.word c.args.label r.own c.if-label-lt64.true)

pub returns-else-label-lt64 : goal.returns-else-label-lt64
returns-else-label-lt64 c = let r = c.args.row in joins_own r.word c.args.label r.own (omega (arith, c.if-label-lt64.false))
