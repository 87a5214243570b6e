-- `store_sheet` meets its contract: the three parts are lent one after the other.
use lib.ListN.{length}
use mathlib.Core.Path.{ap, ◌∙◌}
use Rattle.instance.specs.declared.layout.Layout.{Layout}
use Rattle.instance.proofs.LaidOut.{described_by}
use Rattle.exports.specs.Reading.{counts_of, numbers_of}
use Rattle.exports.proofs.ReadLaws.{starts_long, numbers_by}
use Rattle.exports.proofs.StoreLaws.{all_put}
use Rattle.exports.proofs.reading.store_sheet.Goals as goal

pub returns : goal.returns
unfolding counts_of
returns c =
    let x = c.args.sheet.now in
    let d = described_by x in
    all_put c.args.answer.now c.copy.new.lent c.requires (ap length c.copy.ensures) c.copy-2.new.lent
    (ap length c.copy-2.ensures ∙ ap (λ (l : Layout). length l.starts) d ∙ starts_long x.bytes.now) c.copy-3.new.lent
    ∙ numbers_by _ c.copy.ensures c.copy-2.ensures c.copy-3.ensures
    ∙ ap numbers_of d
