-- A run and a report whose refusals are any numbers: what is printed of them.
-- Assumes nothing.
use Rattle.std.proofs.Common.{◌⊎◌, inl, inr, ◌≡◌, ℕ, Bool, true, false, cond, ◌||◌, eqb, Option, None, Some, Result, Ok, Err, refl, sym, ap, ◌∙◌, eqb-true}
use Rattle.integers.proofs.Places.{if-true, if-false}
use Rattle.instance.specs.declared.refusal.Refusal.{Refusal}
use Rattle.instance.specs.declared.refusal.Refusal.TheVariants.{NoSuchRecord, CostOverflow}
use Rattle.instance.specs.Refusal.{number_of}
use Rattle.messages.specs.declared.answers.Report.{Report}
use Rattle.messages.specs.declared.answers.Report.TheVariants.{Bound, Kept}
use Rattle.messages.specs.Answers.{reported_as}
use Rattle.rules.specs.Calls as calls
use Rattle.console.specs.Lines.{refused_line, at_records, report_text, text_of}
use Rattle.console.specs.Numbers.{stopped_by, reported_by}

-- by the three tests: a record's, or 0, is that of the refusal, and any other number is none
abbrev chosen : ℕ → Bool → Bool → Bool → Result (Option Refusal) ℕ
chosen r a b c = cond a (Ok None) (cond b (Ok (Some NoSuchRecord)) (cond c (Ok (Some CostOverflow)) (Err r)))

-- the number in an error, or 0
abbrev other_in : Result (Option Refusal) ℕ → ℕ
other_in (Ok o) = 0
other_in (Err k) = k

none_chosen : (r k : ℕ) (a b c : Bool) → Err k ≡ chosen r a b c → (k ≡ r) × ((a || b || c) ≡ false)
none_chosen r k true b c e = cc e
none_chosen r k false true c e = cc e
none_chosen r k false false true e = cc e
none_chosen r k false false false e = (ap other_in e, refl)

-- a number that is no record's is printed alone
pub stopped_not : (r k : ℕ) → Err k ≡ stopped_by r → (d s : ℕ) (t : calls.Report) → refused_line k ≡ text_of d s r t
unfolding stopped_by at_records text_of
stopped_not r k e d s t =
    let n = none_chosen r k (eqb r 0) (eqb r 12) (eqb r 13) e in
    ap refused_line n.0 ∙ sym (if-false (report_text d s r t) (refused_line r) n.1)

-- the refusal in an answer
abbrev inside : Result (Option Refusal) ℕ → Option Refusal
inside (Ok o) = o
inside (Err k) = None

some_chosen : (r : ℕ) (a b c : Bool) (o : Option Refusal) → Ok o ≡ chosen r a b c
    → ((a ≡ true) × (o ≡ None)) ⊎ (((b ≡ true) × (o ≡ Some NoSuchRecord)) ⊎ ((c ≡ true) × (o ≡ Some CostOverflow)))
some_chosen r true b c o e = inl (refl, ap inside e)
some_chosen r false true c o e = inr (inl (refl, ap inside e))
some_chosen r false false true o e = inr (inr (refl, ap inside e))
some_chosen r false false false o e = cc e

-- a record's, or 0, is that of the refusal
pub stopped_at : (r : ℕ) (o : Option Refusal) → Ok o ≡ stopped_by r → (number_of o ≡ r) × (at_records r ≡ true)
unfolding stopped_by at_records
stopped_at r o e = go (some_chosen r (eqb r 0) (eqb r 12) (eqb r 13) o e)
  where
    go : ((eqb r 0 ≡ true) × (o ≡ None)) ⊎ (((eqb r 12 ≡ true) × (o ≡ Some NoSuchRecord)) ⊎ ((eqb r 13 ≡ true) × (o ≡ Some CostOverflow))) → (number_of o ≡ r) × ((eqb r 0 || eqb r 12 || eqb r 13) ≡ true)
    go (inl (t, p)) = let n = eqb-true r 0 t in (ap number_of p ∙ sym n, ap (λ k. eqb k 0 || eqb k 12 || eqb k 13) n)
    go (inr (inl (t, p))) = let n = eqb-true r 12 t in (ap number_of p ∙ sym n, ap (λ k. eqb k 0 || eqb k 12 || eqb k 13) n)
    go (inr (inr (t, p))) = let n = eqb-true r 13 t in (ap number_of p ∙ sym n, ap (λ k. eqb k 0 || eqb k 12 || eqb k 13) n)

-- a report that is not refused
pub report_same : (t : Report) → reported_as (Ok t) ≡ reported_by (Ok t)
report_same (Bound z) = refl
report_same (Kept z p g) = refl

-- a report that is refused is its number alone, after a run that a record stopped or none did
pub report_alone : (r : ℕ) → at_records r ≡ true → (d s k : ℕ) → refused_line k ≡ text_of d s r (calls.refused k)
unfolding text_of report_text
report_alone r e d s k = sym (if-true (refused_line k) (refused_line r) e)
