-- `run` meets its contract: refused ahead of the records, or run.
use Rattle.std.proofs.Common.{◌≡◌, ℕ, ℤ, List, ap, ◌∙◌, arith, Bor, rules}
use Rattle.instance.specs.Sheet.{instance_of}
use Rattle.instance.specs.Refusal.{number}
use Rattle.instance.proofs.Told.{numbered}
use Rattle.rules.specs.Costs.{Buffers}
use Rattle.rules.specs.Run.{run_list}
use Rattle.rules.specs.Calls.{cost_limit, lent_refusal}
use Rattle.messages.specs.Answers.{ran_as}
use Rattle.messages.specs.Lent.{lent}
use Rattle.messages.specs.State.{buffers_in}
use Rattle.messages.proofs.RunLaws.{run_refused, run_lent, run_whole, run_listed}
use Rattle.messages.proofs.list.run.Goals as goal
use Rattle.messages.proofs.list.run.Goals.{In-Ok, Start}

abbrev lends : Start → Buffers
lends q = lent q.args.nodes.now q.args.labels.now q.args.edges.now q.args.incumbent.now

-- a run that begins
module _ (p : In-Ok) where
  abbrev q : Start
  q = (goal.at.In-Ok p).Start

  abbrev s : List ℕ
  s = q.args.sheet.now

  same : p.in-Ok.begun.sheet.bytes.now ≡ s
  same = ap (λ (b : Bor (List ℕ)). b.now) p.in-Ok.ensures.same.0

  begins : lent_refusal p.in-Ok.begun.sheet.bytes.now p.in-Ok.begun.limit.most (lends q) ≡ 0
  begins = (λ t. lent_refusal (same t) (p.in-Ok.ensures.same.1 t) (lends q)) ∙ run_lent s cost_limit (lends q) q.args.records.now p.in-Ok.ensures.refusal

-- the four buffers, one by one
lents : {n n' l l' e e' : List ℤ} {x x' : List ℕ} → n ≡ n' → l ≡ l' → e ≡ e' → x ≡ x' → lent n l e x ≡ lent n' l' e' x'
lents n l e x = λ t. lent (n t) (l t) (e t) (x t)

pub invariant_of-state : goal.invariant_of-state
invariant_of-state c = record { held = λ x e. cc e; lowered = λ x e. cc e; knows = λ x e. cc e; good = begins (goal.at.invariant_of-state c).In-Ok }

pub run_all-requires : goal.run_all-requires
run_all-requires c =
    let p = (goal.at.run_all-requires c).In-Ok in record { whole = run_whole (s p) cost_limit (lends (q p)) (q p).args.records.now c.in-Ok.ensures.refusal }

pub returns-in-Ok : goal.returns-in-Ok
returns-in-Ok c =
    let p = (goal.at.returns-in-Ok c).In-Ok in
    let l = (q p).args.records.now in
    let left : lent _ _ _ _ ≡ buffers_in c.run_all.new.self = lents (search rules) (search rules) (search rules) (search rules) in
    ap (λ (b : Buffers). ran_as b c.run_all.result) left
    ∙ c.run_all.ensures.ran ∙ (λ t. run_list (instance_of (same p t)) (c.in-Ok.ensures.same.1 t) (lends (q p)) l)
    ∙ run_listed (s p) cost_limit (lends (q p)) l c.in-Ok.ensures.refusal

pub returns-in-Err : goal.returns-in-Err
returns-in-Err c =
    run_refused c.args.sheet.now cost_limit (lends (goal.at.returns-in-Err c).Start) c.args.records.now (number c.in-Err.refusal) c.in-Err.ensures.refusal (λ z. omega (arith, numbered c.in-Err.refusal))
