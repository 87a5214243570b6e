-- `sweep_at_start` meets its contract: the part lent has the sweep's own length.
-- Assumes nothing.
use Rattle.std.proofs.Common.{◌≡◌, ℕ, ◌≤◌, List, [], length, take, refl, sym, ap, ◌∙◌, subst, arith}
use Rattle.std.proofs.lemmas.Result.{err_from_is_err_and}
use lib.Seq.{length-take-le, take_all}
use Rattle.instance.specs.Refusal.{number}
use Rattle.instance.proofs.Told.{numbered}
use Rattle.schedule.proofs.Written.{room_few}
use Rattle.std.specs.Result.{MatchResult}
use Rattle.schedule.specs.Written.{written, sweep_of}
use Rattle.sweep.specs.Swept.{Sweeps}
use Rattle.sweep.proofs.SweepLaws.{Left, left, written_all, written_none}
use Rattle.sweep.proofs.writing.sweep_at_start.Goals as goal
use Rattle.sweep.proofs.writing.sweep_at_start.Goals.{After-sweep_length}

-- the longest sweep has room
fits : (p : After-sweep_length) → p.sweep_length.result ≤ length p.args.out.now
fits p = omega (arith, p.sweep_length.ensures, room_few p.args.sheet.now, p.requires)

part_long : (p : After-sweep_length) → length (take p.sweep_length.result p.args.out.now) ≡ p.sweep_length.result
part_long p = length-take-le p.sweep_length.result p.args.out.now (fits p)

pub slice_bounds-list-end : goal.slice_bounds-list-end
slice_bounds-list-end c = sym (part_long (goal.at.slice_bounds-list-end c).After-sweep_length)

-- what stands in the part then, by the number
done : (p : After-sweep_length) → {out : List ℕ} {r : ℕ} → written out r ≡ sweep_of p.args.sheet.now p.args.direction (take p.sweep_length.result p.args.out.now) → Left p.args.sheet.now p.args.direction out r
done p e = left p.args.sheet.now p.args.direction (take p.sweep_length.result p.args.out.now) (part_long p ∙ p.sweep_length.ensures) e

pub returns-in_err-write_sweep : goal.returns-in_err-write_sweep
returns-in_err-write_sweep c =
    let p = (goal.at.returns-in_err-write_sweep c).After-sweep_length in
    let s = c.args.sheet.now in
    let (y, r, e) = err_from_is_err_and c.from_residual.result c.from_residual.ensures.1 in
    let n = (done p c.in_err-write_sweep.ensures).number in
    let refused : Sweeps s c.args.direction [] (number y) 0 = record {
      number = ap number e ∙ n;
      text = written_none s c.args.direction (λ z. omega (arith, n, numbered c.in_err-write_sweep.field-0.0));
      room = omega arith;
    } in
    subst (λ a. MatchResult a (λ list. Sweeps s c.args.direction list.now 0 (length list.now)) (λ refusal. Sweeps s c.args.direction [] (number refusal) 0)) (sym r) refused

pub returns : goal.returns
returns c =
    let d = done (goal.at.returns c).After-sweep_length c.in_ok-write_sweep.ensures in
    let list = c.write_sweep.new.out in
    record {
      number = d.number;
      text = take_all (length list) list (omega arith) ∙ d.content refl ∙ written_all c.args.sheet.now c.args.direction (sym d.number);
      room = omega arith;
    }
