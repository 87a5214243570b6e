-- Every list of calls after an opening keeps to the rules and to demand 3. The steps of a trace are the generated postconditions of `open`, `run` and `report`.
-- Assumes nothing.
use Rattle.std.proofs.Common.{Option, Some, None, Result, Ok, Err, ◌≤◌, pos, arith, ◌≡◌, ℕ, cond, eqb, List, [], ◌∷◌, ℤ, sym, refl, ap, ◌∙◌, subst, ap₂, Bor, MutBor, eq-eqb, eqb-true}
use contract.Lifetimes.{Lfts}
use borrow.Fn.World.{ArgsD, ResD}
use denote.Triple.Clauses.{Ended, AtExit, Lasts, at_exit}
use Rattle.integers.proofs.Places.{by-test, if-true, if-false}
use Rattle.instance.specs.Sheet.{instance_of, refusal_of}
use Rattle.rules.specs.Costs.{Buffers, opened}
use Rattle.rules.specs.Run.{Ran}
use Rattle.rules.specs.Calls as calls
use Rattle.rules.specs.Calls.{Opened, lengths_ok, open_refusal, open_of, run_of, report_of, cost_limit, Call, run, report, opening, ran, reported, Point, next, rules, points}
use Rattle.rules.specs.Demand.{Holds}
use Rattle.rules.proofs.Calls.{Under, lengths_ok_lem, sound, rules_hold}
use Rattle.messages.specs.declared.answers.Answer.{Answer}
use Rattle.messages.specs.declared.answers.Report.{Report}
use Rattle.messages.specs.declared.answers.Report.TheVariants.{Bound, Kept}
use Rattle.messages.specs.Lent.{lent, opens}
use Rattle.instance.specs.declared.refusal.Refusal.{Refusal}
use Rattle.instance.specs.Refusal.{number_of, refused_in}
use Rattle.messages.specs.Answers.{reported_as, ran_as}
use Rattle.messages.proofs.Numbers.{named, named_number, run_number, Small, report_number}
use Rattle.rules.proofs.Opening.{by_checks, open_fills}
use Rattle.messages.specs.contracts.opening.open as Open
use Rattle.messages.proofs.opening.open.Reads as OpenReads
use Rattle.messages.specs.contracts.list.run as Run
use Rattle.messages.proofs.list.run.Reads as RunReads
use Rattle.messages.specs.contracts.reporting.report as Reporting
use Rattle.messages.proofs.reporting.report.Reads as ReportingReads

-- ---- a call that a function's postcondition allows

-- A call that a postcondition Q allows: lifetimes, arguments, an answer, and the last values of what was lent to write. A real call is one: the function's
-- `statement` (proved, in `Whole`) says that whatever is given it ends with such an answer and such last values, of which Q holds.
pub record Made (T : Ended) (Q : (κs : Lfts T.signature.lifetimes) → ArgsD T.signature κs → ResD T.signature κs → AtExit T κs → Type 0) : Type 0 where
  pub κs : Lfts T.signature.lifetimes
  pub args : ArgsD T.signature κs
  pub answer : ResD T.signature κs
  pub lasts : Lasts T κs args
  pub promise : Q κs args answer (at_exit T κs args lasts)

-- the four buffers, as references to them stand one after another: lent to write, and lent to read
abbrev four : {A : Type 0} → (MutBor (List ℤ) × (MutBor (List ℤ) × (MutBor (List ℤ) × (MutBor (List ℕ) × A)))) → Buffers
four (nodes, (labels, (edges, (incumbent, rest)))) = lent nodes.now labels.now edges.now incumbent.now

abbrev four_read : {A : Type 0} → (Bor (List ℤ) × (Bor (List ℤ) × (Bor (List ℤ) × (Bor (List ℕ) × A)))) → Buffers
four_read (nodes, (labels, (edges, (incumbent, rest)))) = lent nodes.now labels.now edges.now incumbent.now

-- what is lent to a call and what it leaves: behind the sheet, and for a run behind the records too
module _ (c : Made Open.ended OpenReads.Post) where
  abbrev open_lent : Buffers
  open_lent = four c.args.1

  abbrev open_left : Buffers
  open_left = four (at_exit Open.ended c.κs c.args c.lasts).1

module _ (c : Made Run.ended RunReads.Post) where
  abbrev run_lent : Buffers
  run_lent = four c.args.1.1

  abbrev run_left : Buffers
  run_left = four (at_exit Run.ended c.κs c.args c.lasts).1.1

module _ (c : Made Reporting.ended ReportingReads.Post) where
  abbrev report_lent : Buffers
  report_lent = four_read c.args.1

  abbrev report_left : Buffers
  report_left = four_read (at_exit Reporting.ended c.κs c.args c.lasts).1

-- `Opens s m r n`: lent the sheet s and the buffers m, an opening answered the refusal of number r and left the buffers n
pub data Opens : List ℕ → Buffers → ℕ → Buffers → Type 0 where
  opened_by : (c : Made Open.ended OpenReads.Post) → Opens c.args.0.now (open_lent c) (refused_in c.answer) (open_left c)

-- `Runs s l m a n`: lent the sheet s, the list of records l and the buffers m, a run answered a and left the buffers n
pub data Runs : List ℕ → List ℕ → Buffers → Answer → Buffers → Type 0 where
  ran_by : (c : Made Run.ended RunReads.Post) → Runs c.args.0.now c.args.1.0.now (run_lent c) c.answer (run_left c)

-- `Reports s m a n`: lent the sheet s and the buffers m, a report answered a and left the buffers n
pub data Reports : List ℕ → Buffers → Result Report Refusal → Buffers → Type 0 where
  reported_by : (c : Made Reporting.ended ReportingReads.Post) → Reports c.args.0.now (report_lent c) c.answer (report_left c)

-- an opening answers and leaves what the rules say
open_ruled : {s : List ℕ} {m n : Buffers} {r : ℕ} → Opens s m r n → opens n r ≡ open_of s m
open_ruled (opened_by c) = c.promise

-- a run answers and leaves what the rules say
run_ruled : {s l : List ℕ} {m n : Buffers} {a : Answer} → Runs s l m a n → ran_as n a ≡ run_of s cost_limit m l
run_ruled (ran_by c) = c.promise

-- a report answers what the rules say
report_ruled : {s : List ℕ} {m n : Buffers} {a : Result Report Refusal} → Reports s m a n → reported_as a ≡ report_of s cost_limit m
report_ruled (reported_by c) = c.promise

-- a report leaves the buffers as they were: what is lent to read alone stays
report_keeps : {s : List ℕ} {m n : Buffers} {a : Result Report Refusal} → Reports s m a n → n ≡ m
report_keeps (reported_by c) = refl

-- ---- a list of calls

-- the point that a call leaves: the buffers and the answer
abbrev pub leave : Buffers → calls.Answer → Point
leave b a = record { buffers = b; answer = a }

-- an opening that was not refused, and the calls after it, each lent what the one before left: the calls and the points, the last first in both lists
pub data Trace (s : List ℕ) : List Call → List Point → Type 0 where
  start : {m n : Buffers} → Opens s m 0 n → Trace s [] (leave n opening ∷ [])
  then_run : {cs : List Call} {p : Point} {ps : List Point} {l : List ℕ} {a : Answer} {n : Buffers}
      → Trace s cs (p ∷ ps) → Runs s l p.buffers a n → Trace s (run cost_limit l ∷ cs) (leave n (ran a.done a.stuck (number_of a.refusal)) ∷ p ∷ ps)
  then_report : {cs : List Call} {p : Point} {ps : List Point} {a : Result Report Refusal} {n : Buffers}
      → Trace s cs (p ∷ ps) → Reports s p.buffers a n → Trace s (report cost_limit ∷ cs) (leave n (reported (reported_as a)) ∷ p ∷ ps)

-- ---- what an opening that was not refused says of the sheet, and what it leaves

-- where the first failure of more checks is none, that of the first ones is none
first_none : (k x : ℕ) → cond (eqb k 0) x k ≡ 0 → k ≡ 0
first_none k x e = by-test (eqb k 0) (λ t. eqb-true k 0 t) (λ t. sym (if-false x k t) ∙ e)

-- it had no refusal
unrefused : (s : List ℕ) (m n : Buffers) → opens n 0 ≡ open_of s m → open_refusal s m ≡ 0
unfolding open_of
unrefused s m n e = sym (ap (λ (x : Opened). x.refusal) e)

-- its sheet is readable
open_readable : (s : List ℕ) (m n : Buffers) → opens n 0 ≡ open_of s m → refusal_of s ≡ 0
open_readable s m n e = first_none (refusal_of s) (cond (lengths_ok (instance_of s) m) 0 8) (sym (by_checks s m) ∙ unrefused s m n e)

-- it leaves what the rules start from
open_leaves : (s : List ℕ) (m n : Buffers) → opens n 0 ≡ open_of s m → n ≡ opened (instance_of s)
unfolding open_of
open_leaves s m n e = ap (λ (x : Opened). x.buffers) e ∙ if-true (opened (instance_of s)) m (eq-eqb (open_refusal s m) 0 (unrefused s m n e))

-- the sheet of a trace is readable
pub readable : {s : List ℕ} {cs : List Call} {ps : List Point} → Trace s cs ps → refusal_of s ≡ 0
readable {s} (start {m} {n} c) = open_readable s m n (open_ruled c)
readable (then_run t c) = readable t
readable (then_report t c) = readable t

-- ---- the points of a trace are those of the rules

-- the last of the points is where the rules stand
last_is : (s : List ℕ) (cs : List Call) {p : Point} {ps : List Point} → p ∷ ps ≡ points s cs → p ≡ rules s cs
unfolding points
last_is s [] e = cc
last_is s (c ∷ cs) e = cc

-- the point that a run of the rules leaves
abbrev ran_to : Ran → Point
ran_to q = leave q.buffers (ran q.finished q.stuck q.refusal)

-- a run as made is the run of the rules
run-next : {s l : List ℕ} {n : Buffers} {a : Answer} (p q : Point) → Runs s l p.buffers a n → p ≡ q
    → leave n (ran a.done a.stuck (number_of a.refusal)) ≡ next s (run cost_limit l) q.buffers
unfolding next
run-next {s} {l} p q c e = ap ran_to (run_ruled c ∙ ap (λ (x : Point). run_of s cost_limit x.buffers l) e)

-- a report as made is the report of the rules
report-next : {s : List ℕ} {n : Buffers} {a : Result Report Refusal} (p q : Point) → Reports s p.buffers a n → p ≡ q
    → leave n (reported (reported_as a)) ≡ next s (report cost_limit) q.buffers
unfolding next
report-next {s} p q c e =
    ap₂ (λ (b : Buffers) (r : calls.Report). leave b (reported r)) (report_keeps c ∙ ap (λ (x : Point). x.buffers) e)
    (report_ruled c ∙ ap (λ (x : Point). report_of s cost_limit x.buffers) e)

-- every trace has the points of the rules
pub as_ruled : {s : List ℕ} {cs : List Call} {ps : List Point} → Trace s cs ps → ps ≡ points s cs
unfolding points rules
as_ruled {s} (start {m} {n} c) = ap (λ (x : Buffers). leave x opening ∷ []) (open_leaves s m n (open_ruled c))
as_ruled {s} (then_run {cs} {p} t c) = let e = as_ruled t in ap₂ ◌∷◌ (run-next p (rules s cs) c (last_is s cs e)) e
as_ruled {s} (then_report {cs} {p} t c) = let e = as_ruled t in ap₂ ◌∷◌ (report-next p (rules s cs) c (last_is s cs e)) e

-- every list of calls after an opening: its points are those of the rules, and demand 3 holds of them
pub trace : (s : List ℕ) (cs : List Call) (ps : List Point) → Trace s cs ps → (ps ≡ points s cs) × Holds (instance_of s) ps
trace s cs ps t = (as_ruled t, subst (Holds (instance_of s)) (sym (as_ruled t)) (rules_hold s (readable t) cs))

-- ---- no list of calls is left out: on a readable sheet each has a trace

-- a reference to a list, at some address
abbrev ref : {A : Type 0} → List A → Bor (List A)
ref l = record { ref_ptr = (0, 0); now = l }

abbrev mut_ref : {A : Type 0} → List A → MutBor (List A)
mut_ref l = record { ref_ptr = (0, 0); ghost_name = 0; now = l }

-- an opening that answers 0, lent b and leaving n
some_open : (s : List ℕ) (b n : Buffers) → opens n 0 ≡ open_of s b → Opens s b 0 n
some_open s b n e = opened_by (record {
  κs = ([], ([], ([], ([], ([], tt)))));
  args = (ref s, (mut_ref b.nodes, (mut_ref b.labels, (mut_ref b.edges, (mut_ref b.incumbent, tt)))));
  answer = Ok tt;
  lasts = (tt, (n.nodes, (n.labels, (n.edges, (n.incumbent, tt)))));
  promise = e;
})

-- a run as the contract's answer has it
abbrev answer_of : Ran → Answer
answer_of q = record { done = q.finished; stuck = q.stuck; refusal = named q.refusal }

-- there and back
answer_same : (q : Ran) → q.refusal ≤ 16 → ran_as q.buffers (answer_of q) ≡ q
answer_same q h = ap (λ (k : ℕ). record { buffers = q.buffers; finished = q.finished; stuck = q.stuck; refusal = k }) (named_number q.refusal h)

-- a run that leaves and answers q
some_run : (s l : List ℕ) (b : Buffers) (q : Ran) → ran_as q.buffers (answer_of q) ≡ run_of s cost_limit b l → Runs s l b (answer_of q) q.buffers
some_run s l b q e = ran_by (record {
  κs = ([], ([], ([], ([], ([], ([], tt))))));
  args = (ref s, (ref l, (mut_ref b.nodes, (mut_ref b.labels, (mut_ref b.edges, (mut_ref b.incumbent, tt))))));
  answer = answer_of q;
  lasts = (tt, (tt, (q.buffers.nodes, (q.buffers.labels, (q.buffers.edges, (q.buffers.incumbent, tt))))));
  promise = e;
})

-- a report of the rules as the contract's answer has it
abbrev refused_as : Option Refusal → Result Report Refusal
refused_as None = Ok (Bound (pos 0))
refused_as (Some r) = Err r

abbrev report_as : calls.Report → Result Report Refusal
report_as (calls.refused k) = refused_as (named k)
report_as (calls.bound z) = Ok (Bound z)
report_as (calls.kept z p g) = Ok (Kept z p g)

-- there and back
report_same : (r : calls.Report) → Small r → reported_as (report_as r) ≡ r
report_same (calls.refused k) (h, g) = go (named k) (named_number k g)
  where
    go : (o : Option Refusal) → number_of o ≡ k → reported_as (refused_as o) ≡ calls.refused k
    go None e = absurd (omega (arith, e, h))
    go (Some r) e = ap calls.refused e
report_same (calls.bound z) h = refl
report_same (calls.kept z p g) h = refl

-- a report that answers a
some_report : (s : List ℕ) (b : Buffers) (a : Result Report Refusal) → reported_as a ≡ report_of s cost_limit b → Reports s b a b
some_report s b a e = reported_by (record {
  κs = ([], ([], ([], ([], ([], tt)))));
  args = (ref s, (ref b.nodes, (ref b.labels, (ref b.edges, (ref b.incumbent, tt)))));
  answer = a;
  lasts = (tt, (tt, (tt, (tt, (tt, tt)))));
  promise = e;
})

-- one run more, at a point p
run_at : (s l : List ℕ) (cs : List Call) (p : Point) (ps : List Point) → Trace s cs (p ∷ ps) → Trace s (run cost_limit l ∷ cs) (next s (run cost_limit l) p.buffers ∷ p ∷ ps)
unfolding next
run_at s l cs p ps t =
    let q = run_of s cost_limit p.buffers l in
    let e = answer_same q (run_number s cost_limit p.buffers l) in
    subst (λ (x : Ran). Trace s (run cost_limit l ∷ cs) (leave x.buffers (ran x.finished x.stuck x.refusal) ∷ p ∷ ps)) e (then_run t (some_run s l p.buffers q e))

-- one run more
more_run : (s l : List ℕ) (cs : List Call) → Trace s cs (points s cs) → Trace s (run cost_limit l ∷ cs) (points s (run cost_limit l ∷ cs))
unfolding points rules
more_run s l [] t = run_at s l [] (rules s []) [] t
more_run s l (c ∷ cs) t = run_at s l (c ∷ cs) (rules s (c ∷ cs)) (points s cs) t

-- one report more, at a point p
report_at : (s : List ℕ) (cs : List Call) (p : Point) (ps : List Point) → Trace s cs (p ∷ ps) → Trace s (report cost_limit ∷ cs) (next s (report cost_limit) p.buffers ∷ p ∷ ps)
unfolding next
report_at s cs p ps t =
    let r = report_of s cost_limit p.buffers in
    let e = report_same r (report_number s cost_limit p.buffers) in
    subst (λ (x : calls.Report). Trace s (report cost_limit ∷ cs) (leave p.buffers (reported x) ∷ p ∷ ps)) e
    (then_report t (some_report s p.buffers (report_as r) e))

-- one report more
more_report : (s : List ℕ) (cs : List Call) → Trace s cs (points s cs) → Trace s (report cost_limit ∷ cs) (points s (report cost_limit ∷ cs))
unfolding points rules
more_report s [] t = report_at s [] (rules s []) [] t
more_report s (c ∷ cs) t = report_at s (c ∷ cs) (rules s (c ∷ cs)) (points s cs) t

-- on a readable sheet every list of calls with this limit has a trace, with the points of the rules
pub every : (s : List ℕ) → refusal_of s ≡ 0 → (cs : List Call) → Under cost_limit cs → Trace s cs (points s cs)
unfolding points rules
every s h [] u = start (some_open s (opened (instance_of s)) (opened (instance_of s)) (open_fills s (opened (instance_of s)) h (lengths_ok_lem (instance_of s) (sound s h []).sized)))
every s h (run k l ∷ cs) (e, u) = subst (λ (k : ℕ). Trace s (run k l ∷ cs) (points s (run k l ∷ cs))) (sym e) (more_run s l cs (every s h cs u))
every s h (report k ∷ cs) (e, u) = subst (λ (k : ℕ). Trace s (report k ∷ cs) (points s (report k ∷ cs))) (sym e) (more_report s cs (every s h cs u))
