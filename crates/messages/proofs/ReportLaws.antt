-- A report's laws: the gap fits, and what is told, case by case.
-- Assumes nothing.
use Rattle.std.proofs.Common.{◌≡◌, ℕ, true, false, cond, eqb, List, sym, ap, ◌∙◌, ne_eqb}
use Rattle.integers.proofs.Places.{if-true, if-false}
use Rattle.instance.specs.Instance.{Instance}
use Rattle.instance.specs.Sheet.{instance_of}
use Rattle.rules.specs.Costs.{Buffers, none_kept}
use Rattle.rules.specs.Held.{bound_in, kept_price}
use Rattle.rules.specs.Calls as calls
use Rattle.rules.specs.Calls.{cost_limit, lent_refusal, told, report_of}
use Rattle.messages.specs.Answers.{against}

-- ---- what is told

module _ (s : List ℕ) (b : Buffers) where
  abbrev K : Instance
  K = instance_of s

  pub told-bound : none_kept b.incumbent ≡ true → calls.bound (bound_in K b) ≡ told s b
  unfolding told
  told-bound e = sym (if-true (calls.bound (bound_in K b)) _ e)

  pub told_kept : none_kept b.incumbent ≡ false → against (bound_in K b) (kept_price K b) ≡ told s b
  unfolding told
  told_kept e = sym (if-false (calls.bound (bound_in K b)) _ e)

  module _ (limit : ℕ) where
    pub report_refused : (k : ℕ) → k ≡ lent_refusal s limit b → (k ≡ 0 → ⊥) → calls.refused k ≡ report_of s limit b
    unfolding report_of
    report_refused k e h = sym (ap (λ (k : ℕ). cond (eqb k 0) (told s b) (calls.refused k)) (sym e) ∙ if-false (told s b) (calls.refused k) (ne_eqb k 0 h))

    pub report_told : lent_refusal s limit b ≡ 0 → told s b ≡ report_of s limit b
    unfolding report_of
    report_told e = sym (ap (λ (k : ℕ). cond (eqb k 0) (told s b) (calls.refused k)) e)
