-- What the program prints of a readable sheet, in the words of the rules, and that no byte past the buffers' lengths counts.
-- Assumes nothing.
use mathlib.Core.Path.{◌≡◌, refl, sym, ap, ◌∙◌}
use mathlib.Core.Bool.{true, false}
use mathlib.Core.List.{List, [], ◌∷◌, ◌++◌}
use mathlib.Core.Logic.{◌⊎◌, inl, inr}
use Prim.Native.Nat.{ℕ, ◌≤◌, ◌<◌}
use native.Mathlib.Omega.{arith}
use borrow.Author.Tests.{eq-eqb, le-leb, lt-leb, leb-true, leb-false}
use lib.Dec.{leb}
use lib.ListN.{length, take}
use lib.Seq.{take_all, length-take-le}
use Rattle.integers.specs.Checks.{first_failure}
use Rattle.integers.proofs.Places.{by-test, if-true, if-false}
use Rattle.instance.specs.Instance.{Instance}
use Rattle.instance.specs.Sheet.{instance_of, short_enough, checks, refusal_of}
use Rattle.rules.specs.Costs.{none_kept, opened}
use Rattle.rules.specs.Run.{Ran}
use Rattle.rules.specs.Held.{Kept, bound_in, kept_price, gap}
use Rattle.rules.specs.Calls.{cost_limit, run_of, run, next, rules}
use Rattle.rules.proofs.Calls.{report_told, run_refused}
use Rattle.console.specs.Lines.{refused_line, count_lines, kept_lines, bound_lines, at_records, stop_line, report_text, text_of}
use Rattle.console.specs.Program.{most_bytes, sheet_room, record_room, ran_text, printed}

true-false : true ≡ false → ⊥
true-false e = let z : ◌≡◌ {A = ℕ} 0 1 = cc in omega arith

-- a refusal of a run that is not a record's
eleven : (r : ℕ) → (r ≡ 0) ⊎ ((r ≡ 11) ⊎ ((r ≡ 12) ⊎ (r ≡ 13))) → at_records r ≡ false → r ≡ 11
unfolding at_records
eleven r (inl e) t = let z : true ≡ false = sym (ap at_records e) ∙ t in absurd (true-false z)
eleven r (inr (inl e)) t = e
eleven r (inr (inr (inl e))) t = let z : true ≡ false = sym (ap at_records e) ∙ t in absurd (true-false z)
eleven r (inr (inr (inr e))) t = let z : true ≡ false = sym (ap at_records e) ∙ t in absurd (true-false z)

-- ---- a readable sheet and a list that is not too long: the counts of the run, and of the buffers that it leaves the bound and, with one kept, its cost and the gap. So the report is never refused

module _ (s : List ℕ) (readable : refusal_of s ≡ 0) (l : List ℕ) (short : length l ≤ most_bytes) where
  abbrev I : Instance
  I = instance_of s

  abbrev q : Ran
  q = run_of s cost_limit (opened I) l

  ran : printed s l ≡ ran_text s q
  unfolding printed
  ran = if-true _ _ (eq-eqb (refusal_of s) 0 readable) ∙ if-true _ _ (le-leb (length l) most_bytes short)

  module _ (counted : at_records q.refusal ≡ true) where
    pub none_kept_text : none_kept q.buffers.incumbent ≡ true → printed s l ≡ count_lines q.finished q.stuck ++ bound_lines (bound_in I q.buffers) ++ stop_line q.refusal
    unfolding ran_text text_of report_text rules next
    none_kept_text none = ran ∙ if-true _ _ counted ∙ ap (report_text q.finished q.stuck q.refusal) ((report_told s readable cost_limit (omega arith) (run cost_limit l ∷ []) (refl, tt)).0 none)

    pub kept_text : Kept q.buffers → printed s l ≡ count_lines q.finished q.stuck ++ kept_lines (bound_in I q.buffers) (kept_price I q.buffers) (gap I q.buffers) ++ stop_line q.refusal
    unfolding ran_text text_of report_text rules next
    kept_text one = ran ∙ if-true _ _ counted ∙ ap (report_text q.finished q.stuck q.refusal) ((report_told s readable cost_limit (omega arith) (run cost_limit l ∷ []) (refl, tt)).1 one)

  -- any other refusal is 11
  pub partial_text : at_records q.refusal ≡ false → printed s l ≡ refused_line 11
  unfolding ran_text text_of rules next
  partial_text t = ran ∙ if-false _ _ t ∙ ap refused_line (eleven q.refusal (run_refused s readable cost_limit (omega arith) [] tt l) t)

-- ---- what lies past the two buffers changes nothing

long_refused : (s : List ℕ) → 22_096 < length s → refusal_of s ≡ 3
unfolding refusal_of checks first_failure short_enough
long_refused s h = if-false _ _ (lt-leb (length s) 22_096 h)

pub sheet_cut : (s l : List ℕ) → printed (take sheet_room s) l ≡ printed s l
unfolding printed
sheet_cut s l =
    by-test (leb (length s) sheet_room) (λ t. ap (λ (x : List ℕ). printed x l) (take_all sheet_room s (leb-true (length s) sheet_room t)))
    (λ t. let h = leb-false (length s) sheet_room t in
    rw (long_refused s (omega arith), long_refused (take sheet_room s) (rw (length-take-le sheet_room s (omega arith)) (omega arith))))

pub records_cut : (s l : List ℕ) → printed s (take record_room l) ≡ printed s l
unfolding printed
records_cut s l =
    by-test (leb (length l) record_room) (λ t. ap (printed s) (take_all record_room l (leb-true (length l) record_room t)))
    (λ t. let h = leb-false (length l) record_room t in
    rw (lt-leb (length l) most_bytes (omega arith), lt-leb (length (take record_room l)) most_bytes (rw (length-take-le record_room l (omega arith)) (omega arith))))
