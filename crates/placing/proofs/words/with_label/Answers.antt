-- `with_label` meets its contract: 255 is no bit of a word.
use Prim.Native.Nat.{ℕ, ◌^◌}
use mathlib.Core.Path.{ap, ◌∙◌}
use mathlib.Core.Bool.{◌||◌}
use lib.Bits.{bit_or, or_lt}
use Rattle.integers.specs.Words.{bit}
use Rattle.integers.proofs.Words.{bit_or_lem, bit_power, power_fits}
use Rattle.placing.proofs.words.with_label.Goals as goal

pub returns-then-label-lt64 : goal.returns-then-label-lt64
returns-then-label-lt64 c =
    let q = c.args in
    let e = c.bit_of.ensures in
    let h = c.if-label-lt64.true in (
      rw e (or_lt 64 q.word (2 ^ q.label) c.ranges.word.fits (power_fits q.label h)),
      λ x _. ap (λ (w : ℕ). bit (bit_or q.word w) x) e ∙ bit_or_lem q.word (2 ^ q.label) x ∙ ap (◌||◌ (bit q.word x)) (bit_power q.label x),
    )
