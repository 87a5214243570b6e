-- When the program prints the line `gap 0`, the cost that it prints is the least of all one_to_one matchings' prices on the sheet, and a matching has that price: for every sheet and every
-- list of records, straight from the printed bytes, whatever the sixth line.
-- Assumes nothing.
use mathlib.Core.Path.{◌≡◌, refl, sym, ap, subst, ◌∙◌}
use mathlib.Core.List.{List, [], ◌∷◌, ◌++◌}
use mathlib.Core.Logic.{inl, inr}
use Prim.Native.Nat.{ℕ}
use native.Mathlib.Omega.{arith}
use borrow.Author.Tests.{eqb-true}
use lib.Dec.{eqb, leb}
use lib.ListN.{length}
use lib.IntN.{ℤ, pos}
use Rattle.integers.proofs.Places.{by-test, if-true, if-false}
use Rattle.instance.specs.Instance.{Instance}
use Rattle.instance.specs.Sheet.{instance_of, refusal_of}
use Rattle.rules.specs.Costs.{opened}
use Rattle.rules.specs.Run.{Ran}
use Rattle.rules.specs.Calls.{Report, refused, bound, kept, reported, run_of, report_of, cost_limit, run, report, next, rules, points}
use Rattle.rules.proofs.Calls.{rules_hold}
use Rattle.messages.proofs.GapZero.{Cheapest, true_zero}
use Rattle.console.specs.Ascii.{ascii}
use Rattle.console.specs.Decimal.{signed}
use Rattle.console.specs.Lines.{refused_line, at_records, stop_line, report_text, text_of}
use Rattle.console.specs.Program.{most_bytes, ran_text, printed}
use Rattle.console.specs.TextLines.{lines_of, Among, HasLine}
use Rattle.console.proofs.TextLineLaws.{kept_five, bound_five, not_refused, not_stop, gap_is, cost_is, signed_same, signed_zero}

-- the one cost that a text shows is the cheapest
pub record ShowsCheapest (I : Instance) (text : List ℕ) : Type 0 where
  pub cost : ℤ
  pub shown : HasLine text (ascii "cost " ++ signed cost)
  pub alone : (z : ℤ) → HasLine text (ascii "cost " ++ signed z) → z ≡ cost
  pub cheapest : Cheapest I cost

-- ---- of a run's counts and the report after it

module _ (I : Instance) (d k r : ℕ) where
  by_report : (t : Report) → ((z c : ℤ) → t ≡ kept z c (pos 0) → Cheapest I c) → HasLine (report_text d k r t) (ascii "gap 0") → ShowsCheapest I (report_text d k r t)
  unfolding report_text
  by_report (refused j) h m = absurd (not_refused 103 j (ascii "ap 0") (λ e. omega arith) m)
  by_report (bound z) h m =
      absurd (omega (arith, ap length (gap_is (ascii "0") _ _ _ _ _ (lines_of (stop_line r)) (not_stop 103 r (ascii "ap 0") (λ e. omega arith)) (subst (λ l. Among l (ascii "gap 0")) (bound_five d k r z) m))))
  by_report (kept z c g) h m =
      let e : g ≡ pos 0 = sym (signed_same (pos 0) g (sym signed_zero ∙ gap_is (ascii "0") _ _ _ _ _ (lines_of (stop_line r)) (not_stop 103 r (ascii "ap 0") (λ e. omega arith)) (subst (λ l. Among l (ascii "gap 0")) (kept_five d k r z c g) m))) in
      record {
        cost = c;
        shown = subst (λ l. Among l (ascii "cost " ++ signed c)) (sym (kept_five d k r z c g)) (inr (inr (inr (inl refl))));
        alone = λ y n. signed_same y c (cost_is (signed y) _ _ _ _ _ (lines_of (stop_line r)) (not_stop 99 r (ascii "ost " ++ signed y) (λ e. omega arith)) (subst (λ l. Among l (ascii "cost " ++ signed y)) (kept_five d k r z c g) n));
        cheapest = h z c (ap (kept z c) e);
      }

  by_text : (t : Report) → ((z c : ℤ) → t ≡ kept z c (pos 0) → Cheapest I c) → HasLine (text_of d k r t) (ascii "gap 0") → ShowsCheapest I (text_of d k r t)
  unfolding text_of
  by_text t h m =
      by-test (at_records r)
      (λ e. let q : text_of d k r t ≡ report_text d k r t = if-true _ _ e in subst (ShowsCheapest I) (sym q) (by_report t h (subst (λ (y : List ℕ). HasLine y (ascii "gap 0")) q m)))
      (λ e. let q : text_of d k r t ≡ refused_line r = if-false _ _ e in absurd (not_refused 103 r (ascii "ap 0") (λ e. omega arith) (subst (λ (y : List ℕ). HasLine y (ascii "gap 0")) q m)))

-- ---- of a sheet and a list of records

module _ (s l : List ℕ) where
  abbrev I : Instance
  I = instance_of s

  abbrev q : Ran
  q = run_of s cost_limit (opened I) l

  -- a report after the run that answers the gap 0
  reported_cheapest : refusal_of s ≡ 0 → (z c : ℤ) → report_of s cost_limit q.buffers ≡ kept z c (pos 0) → Cheapest I c
  unfolding points rules next
  reported_cheapest readable z c e =
      true_zero I (rules s (report cost_limit ∷ run cost_limit l ∷ [])) (rules_hold s readable (report cost_limit ∷ run cost_limit l ∷ [])).0 z c (ap reported e)

  lined : (text : List ℕ) → printed s l ≡ text → (HasLine text (ascii "gap 0") → ShowsCheapest I text) → HasLine (printed s l) (ascii "gap 0") → ShowsCheapest I (printed s l)
  lined text e h m = subst (ShowsCheapest I) (sym e) (h (subst (λ (y : List ℕ). HasLine y (ascii "gap 0")) e m))

  refused_lined : (r : ℕ) → HasLine (refused_line r) (ascii "gap 0") → ShowsCheapest I (refused_line r)
  refused_lined r m = absurd (not_refused 103 r (ascii "ap 0") (λ e. omega arith) m)

  pub gap_zero : HasLine (printed s l) (ascii "gap 0") → ShowsCheapest I (printed s l)
  unfolding printed ran_text
  gap_zero =
      by-test (eqb (refusal_of s) 0)
      (λ e. by-test (leb (length l) most_bytes)
      (λ h. lined (ran_text s q) (if-true _ _ e ∙ if-true _ _ h) (by_text I q.finished q.stuck q.refusal (report_of s cost_limit q.buffers) (reported_cheapest (eqb-true (refusal_of s) 0 e))))
      (λ h. lined (refused_line 11) (if-true _ _ e ∙ if-false _ _ h) (refused_lined 11)))
      (λ e. lined (refused_line (refusal_of s)) (if-false _ _ e) (refused_lined (refusal_of s)))
