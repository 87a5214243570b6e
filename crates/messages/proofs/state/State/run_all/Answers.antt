-- `run_all` meets its contract: the run so far and the rest of it are the whole run.
use Rattle.std.proofs.Common.{◌≡◌, ℕ, [], get_or, ◌+◌, ◌*◌, ◌/◌, ◌<◌, ◌≤◌, List, length, take, drop, sym, refl, ap, ◌∙◌, arith}
use Rattle.instance.specs.Sheet.{instance_of}
use Rattle.instance.proofs.Told.{numbered}
use Rattle.rules.specs.Costs.{Buffers}
use Rattle.rules.specs.Run.{step}
use Rattle.messages.specs.declared.state.State.{State}
use Rattle.messages.specs.State.{instance_in, limit_in, buffers_in}
use Rattle.messages.specs.Step.{settle, settled, settled_by}
use Rattle.messages.proofs.RunLaws.{ran_of, record_of, going_start, going_end, going_refused, going_few, going_next, five_bytes}
use Rattle.messages.proofs.RowLaws.{chunk_at}
use Rattle.messages.proofs.StateLaws.{good, same_after}
use Rattle.messages.proofs.state.State.run_all.Goals as goal
use Rattle.messages.proofs.state.State.run_all.Goals.{After-one_record, At-loop-done, In-loop-done, Start}

-- a record was taken
module _ (p : After-one_record) where
  abbrev turn : In-loop-done
  turn = (goal.at.After-one_record p).In-loop-done

  abbrev head : At-loop-done
  head = (goal.at.In-loop-done turn).At-loop-done

  abbrev start : Start
  start = (goal.at.At-loop-done head).Start

  abbrev s : State
  s = start.args.self.now

  abbrev l : List ℕ
  l = start.args.records.now

  abbrev at : ℕ
  at = 5 * head.loop-done.done

  abbrev b : Buffers
  b = buffers_in head.loop-done.self

  few : head.loop-done.done < length l / 5
  few = omega (arith, turn.loop-done-test.true, head.as_chunks.ensures.front_len)

  more : at < length l
  more = omega (arith, few)

  room : at + 5 ≤ length l
  room = omega (arith, few)

  -- the record at hand
  bytes : get_or head.as_chunks.result.0.now head.loop-done.done [] ≡ take 5 (drop at l)
  bytes = ap (λ (m : List (List ℕ)). get_or m head.loop-done.done []) head.as_chunks.ensures.front ∙ chunk_at 5 (length l / 5) head.loop-done.done l few

  -- what it leaves, by the run that began
  left : {b' : Buffers} {k number : ℕ} → settle b' k number ≡ settled_by (instance_in head.loop-done.self) (limit_in head.loop-done.self) b (get_or head.as_chunks.result.0.now head.loop-done.done [])
      → settle b' k number ≡ settled b (step (instance_in s) (limit_in s) b (record_of (drop at l)))
  left e =
      e ∙ (λ t. let r = head.loop-done.invariant.0.run t in settled_by (instance_of r.now.sheet.bytes.now) r.now.limit.most b (bytes t)) ∙ five_bytes (instance_in s) (limit_in s) b l at

pub loop-done-init : goal.loop-done-init
loop-done-init c =
    let s = c.args.self.now in (record { run = refl; nodes = refl; labels = refl; edges = refl; incumbent = refl }, going_start s.run.now.sheet.bytes.now (limit_in s) c.args.records.now (buffers_in s) (good s) c.requires.whole)

pub overflow_add-stuck : goal.overflow_add-stuck
overflow_add-stuck c =
    let p = (goal.at.overflow_add-stuck c).After-one_record in
    let i = (head p).loop-done.invariant.1 in
    omega (arith, going_few i (more p) (left p c.in-Ok.ensures.left), i.few, room p, c.well_formed)

pub returns-in-Err : goal.returns-in-Err
returns-in-Err c =
    let p = (goal.at.returns-in-Err c).After-one_record in
    let (same, going) = (head p).loop-done.invariant in
    record { same = same_after same c.in-Err.ensures.same; ran = going_refused going (more p) (left p c.in-Err.ensures.left) (λ z. omega (arith, numbered c.in-Err.refusal)) }

pub loop-done-preserved : goal.loop-done-preserved
loop-done-preserved c =
    let p = (goal.at.loop-done-preserved c).After-one_record in
    let (same, going) = (head p).loop-done.invariant in
    (same_after same c.in-Ok.ensures.same, going_next going (more p) (left p c.in-Ok.ensures.left) refl)

pub returns : goal.returns
returns c =
    let (same, going) = c.loop-done.invariant in
    let e = c.as_chunks.ensures.front_len in
    let n : c.loop-done.done ≡ length c.as_chunks.result.0.now = omega arith in
    record {
      same = same;
      ran = ap (λ (k : ℕ). ran_of (buffers_in c.loop-done.self) k c.loop-done.stuck 0) (sym n) ∙ going_end going (omega (arith, c.loop-done-test.false, c.requires.whole, e));
    }
