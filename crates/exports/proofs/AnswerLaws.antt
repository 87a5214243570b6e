-- The answers of a reading, of a run and of a report, stored or not.
-- Assumes nothing.
use mathlib.Core.Path.{◌≡◌, refl, sym, ap, ◌∙◌}
use mathlib.Core.List.{List, [], ◌∷◌}
use Prim.Native.Nat.{ℕ}
use borrow.Author.Tests.{eq-eqb, ne_eqb}
use lib.ListN.{length}
use lib.IntN.{ℤ}
use Rattle.integers.proofs.Places.{if-true, if-false}
use Rattle.instance.specs.Sheet.{refusal_of}
use Rattle.instance.specs.Layout.{layout_of}
use Rattle.rules.specs.Costs.{Buffers}
use Rattle.rules.specs.Run.{Ran}
use Rattle.rules.specs.Calls.{Report, cost_limit, run_of, report_of}
use Rattle.std.specs.Prelude.{Ok}
use Rattle.messages.specs.declared.answers.Report.{Report as Told}
use Rattle.messages.specs.declared.answers.Report.TheVariants.{Bound, Kept}
use Rattle.messages.specs.Answers.{reported_as}
use Rattle.exports.specs.Stored.{answered, unlent}
use Rattle.exports.specs.Reading.{numbers_of, read_in}
use Rattle.exports.specs.Moving.{outcome, outcome_of, ran_in, number_of, values_in, reported_in}
use Rattle.exports.proofs.StoreLaws.{lent_well, lent_ill}

-- a reading
module _ (s lent : List ℕ) where
  pub read_by : {r : ℕ} {left : List ℕ} → length lent ≡ 326 → r ≡ refusal_of s → left ≡ numbers_of (layout_of s) → answered r left ≡ read_in s lent
  unfolding read_in
  read_by h e m = (λ j. answered (e j) (m j)) ∙ lent_well 326 (refusal_of s) (answered (refusal_of s) (numbers_of (layout_of s))) lent h

  pub read_ill : {r : ℕ} → (length lent ≡ 326 → ⊥) → r ≡ unlent (refusal_of s) → answered r lent ≡ read_in s lent
  unfolding read_in
  read_ill h e = lent_ill 326 (refusal_of s) (answered (refusal_of s) (numbers_of (layout_of s))) lent h e

-- a report that was not refused answers 0
pub told_zero : (t : Told) → number_of (reported_as (Ok t)) ≡ 0
unfolding number_of
told_zero (Bound z) = refl
told_zero (Kept z p g) = refl

-- a report told, by its case
module _ (s : List ℕ) (b : Buffers) (values : List ℤ) where
  pub reported_by : (q : Report) {left : List ℤ} → length values ≡ 4 → q ≡ report_of s cost_limit b → left ≡ values_in values q → answered (number_of q) left ≡ reported_in s b values
  unfolding reported_in
  reported_by q h e m =
      ap (answered (number_of q)) m ∙ ap (λ (r : Report). answered (number_of r) (values_in values r)) e
      ∙ (let t = report_of s cost_limit b in lent_well 4 (refusal_of s) (answered (number_of t) (values_in values t)) values h)

  pub reported_ill : {r : ℕ} → (length values ≡ 4 → ⊥) → r ≡ unlent (refusal_of s) → answered r values ≡ reported_in s b values
  unfolding reported_in
  reported_ill h e = let t = report_of s cost_limit b in lent_ill 4 (refusal_of s) (answered (number_of t) (values_in values t)) values h e

-- a run, by what it left
module _ (s : List ℕ) (b : Buffers) (l counts : List ℕ) where
  pub ran_by : (q : Ran) {left : List ℕ} → length counts ≡ 2 → q ≡ run_of s cost_limit b l → left ≡ (q.finished ∷ q.stuck ∷ []) → outcome q.buffers q.refusal left ≡ ran_in s b l counts
  unfolding ran_in outcome_of
  ran_by q h e m = ap (outcome q.buffers q.refusal) m ∙ ap outcome_of e ∙ sym (if-true _ _ (eq-eqb (length counts) 2 h))

  pub ran_ill : {r : ℕ} → (length counts ≡ 2 → ⊥) → r ≡ unlent (refusal_of s) → outcome b r counts ≡ ran_in s b l counts
  unfolding ran_in
  ran_ill h e = ap (λ (r : ℕ). outcome b r counts) e ∙ sym (if-false _ _ (ne_eqb (length counts) 2 h))
