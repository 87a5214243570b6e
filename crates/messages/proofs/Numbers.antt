-- Each number that the rules refuse with is that of a refusal.
-- Assumes nothing.
use Rattle.std.proofs.Common.{Option, Some, None, ◌≡◌, ℕ, ◌≤◌, Bool, true, cond, eqb, leb, ◌⊎◌, List, [], ◌∷◌, ◌++◌, get_or, length, ◌%◌, sym, refl, ◌∙◌, ⊎_elim, arith, eqb-true, leb-true, lit≤}
use Rattle.integers.specs.Places.{every}
use Rattle.integers.specs.Checks.{below, first_failure}
use Rattle.integers.proofs.Places.{by-test, by_cond, and_true, if-false}
use Rattle.integers.proofs.Checks.{below_at}
use Rattle.instance.specs.declared.refusal.Refusal.{Refusal}
use Rattle.instance.specs.declared.refusal.Refusal.TheVariants.{NoTrailer, OverLimit, WrongLength, BadDegree, BadLabel, BadEdge, PriceRange, BufferLength, CostRange, BadIncumbent, PartialRecord, NoSuchRecord, CostOverflow, BoundAboveCost, NoUsableCell, NoMatching}
use Rattle.instance.specs.Refusal.{number_of}
use Rattle.instance.specs.Sheet.{instance_of, checks}
use Rattle.instance.proofs.Readable.{readable}
use borrow.Author.Tests.{eqb-false}
use lib.Signed.{le_z}
use Rattle.rules.specs.Costs.{Buffers, none_kept}
use Rattle.rules.specs.Held.{bound_in, kept_price}
use Rattle.rules.specs.Run as runs
use Rattle.rules.specs.Run.{Ran, records, run_list}
use Rattle.rules.specs.Calls as calls
use Rattle.rules.specs.Calls.{lent_checks, lent_refusal, run_refusal, run_of, report_of, told}
use Rattle.rules.proofs.Run as moves
use Rattle.rules.proofs.Calls.{run_refusal_by}
use Rattle.messages.proofs.LentLaws.{lent_well}

-- the refusal of a number, none for 0
unfoldable pub named : ℕ → Option Refusal
named k =
    get_or (None ∷ Some NoTrailer ∷ Some OverLimit ∷ Some WrongLength ∷ Some BadDegree ∷ Some BadLabel ∷ Some BadEdge ∷ Some PriceRange ∷ Some BufferLength ∷ Some CostRange
    ∷ Some BadIncumbent ∷ Some PartialRecord ∷ Some NoSuchRecord ∷ Some CostOverflow ∷ Some BoundAboveCost ∷ Some NoUsableCell ∷ Some NoMatching ∷ []) k None

all_named : below 17 (λ k. eqb (number_of (named k)) k) ≡ true
unfolding below named
all_named = refl

pub named_number : (k : ℕ) → k ≤ 16 → number_of (named k) ≡ k
named_number k h = eqb-true (number_of (named k)) k (below_at 17 (λ k. eqb (number_of (named k)) k) all_named k (omega arith))

-- ---- the numbers of a list of checks

failure_small : (l : List (Bool × ℕ)) → every (λ c. leb c.1 16) l ≡ true → first_failure l ≤ 16
unfolding first_failure every
failure_small [] e = lit≤ tt
failure_small (c ∷ l) e =
    let (p, q) = and_true (leb c.1 16) (every (λ c. leb c.1 16) l) e in
    by_cond (λ k. k ≤ 16) c.0 (λ t. failure_small l q) (λ t. leb-true c.1 16 p)

module _ (s : List ℕ) (limit : ℕ) (b : Buffers) where
  pub lent_number : lent_refusal s limit b ≤ 16
  unfolding lent_refusal checks lent_checks every
  lent_number = failure_small (checks s ++ lent_checks (instance_of s) limit b) refl

  pub run_number : (l : List ℕ) → (run_of s limit b l).refusal ≤ 16
  unfolding run_of run_refusal checks lent_checks every run_list
  run_number l =
      by_cond (λ (q : Ran). q.refusal ≤ 16) (eqb (run_refusal s limit b l) 0)
      (λ t. let e = eqb-true (run_refusal s limit b l) 0 t in
      let p = (readable s (lent_well s limit b (lent_none e)).readable).proper in
      ⊎_elim (λ (z : (runs.run (instance_of s) limit b (records l)).refusal ≡ 0). omega arith)
      (λ (z : ((runs.run (instance_of s) limit b (records l)).refusal ≡ 12) ⊎ ((runs.run (instance_of s) limit b (records l)).refusal ≡ 13)). ⊎_elim (λ (y : (runs.run (instance_of s) limit b (records l)).refusal ≡ 12). omega arith) (λ (y : (runs.run (instance_of s) limit b (records l)).refusal ≡ 13). omega arith) z)
      (moves.run_number (instance_of s) p limit b (records l)))
      (λ t. failure_small (checks s ++ (lent_checks (instance_of s) limit b ++ ((eqb (length l % 5) 0, 11) ∷ []))) refl)
    where
      lent_none : run_refusal s limit b l ≡ 0 → lent_refusal s limit b ≡ 0
      lent_none e =
          by-test (eqb (lent_refusal s limit b) 0) (λ t. eqb-true (lent_refusal s limit b) 0 t)
          (λ t. sym (run_refusal_by s limit b l ∙ if-false (cond (eqb (length l % 5) 0) 0 11) (lent_refusal s limit b) t) ∙ e)

-- what a report is refused with, if it is
abbrev pub Small : calls.Report → Type 0
Small (calls.refused k) = (1 ≤ k) × (k ≤ 16)
Small (calls.bound z) = Unit {0}
Small (calls.kept z p g) = Unit {0}

pub report_number : (s : List ℕ) (limit : ℕ) (b : Buffers) → Small (report_of s limit b)
unfolding report_of told
report_number s limit b =
    by_cond Small (eqb (lent_refusal s limit b) 0)
    (λ t. by_cond Small (none_kept b.incumbent) (λ u. tt)
    (λ u. by_cond Small (le_z (bound_in (instance_of s) b) (kept_price (instance_of s) b)) (λ v. tt) (λ v. (lit≤ tt, lit≤ tt))))
    (λ t. let d = eqb-false (lent_refusal s limit b) 0 t in (omega arith, lent_number s limit b))
