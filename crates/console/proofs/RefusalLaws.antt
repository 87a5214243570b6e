-- A refusal is printed by its number, which is not 0, and 12 or 13 only where a record was refused.
-- Assumes nothing.
use mathlib.Core.Path.{◌≡◌, refl, sym}
use mathlib.Core.Bool.{false}
use native.Mathlib.Omega.{arith}
use borrow.Author.Tests.{ne_eqb}
use Rattle.integers.proofs.Places.{if-false}
use Rattle.instance.specs.declared.refusal.Refusal.{Refusal}
use Rattle.instance.specs.declared.refusal.Refusal.TheVariants.{NoSuchRecord, CostOverflow}
use Rattle.instance.specs.Refusal.{number}
use Rattle.instance.proofs.Told.{numbered}
use Rattle.console.specs.Lines.{refused_line, at_records, stop_line}

pub stopped_line : (r : Refusal) → refused_line (number r) ≡ stop_line (number r)
unfolding stop_line
stopped_line r = sym (if-false _ _ (ne_eqb (number r) 0 (λ z. omega (arith, numbered r, z))))

pub at_others : (r : Refusal) → (r ≡ NoSuchRecord → ⊥) → (r ≡ CostOverflow → ⊥) → false ≡ at_records (number r)
unfolding at_records
at_others NoSuchRecord h k = absurd (h refl)
at_others CostOverflow h k = absurd (k refl)
at_others _ h k = refl
