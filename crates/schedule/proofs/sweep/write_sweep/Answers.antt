-- `write_sweep` meets its contract: refused, nothing is altered; else the buffer holds the sweep.
use Rattle.std.proofs.Common.{◌≡◌, ℕ, true, List, length, refl, sym, ap, ◌∙◌, arith, Bor, rules}
use Rattle.instance.specs.declared.sheet.Sheet.{Sheet}
use Rattle.instance.specs.Refusal.{number}
use Rattle.instance.specs.Sheet.{instance_of}
use Rattle.instance.proofs.Told.{handed, numbered}
use Rattle.instance.proofs.Sheets.{proper}
use Rattle.schedule.specs.Sweep.{bytes, sweep, known, sweep_length}
use Rattle.schedule.specs.Written.{written, sweep_of}
use Rattle.schedule.specs.Writing.{direction_number}
use Rattle.schedule.proofs.Lengths.{sweep-length}
use Rattle.schedule.proofs.Written.{direction_known, direction_unknown, unread, unknown, unfit, swept}
use Rattle.schedule.proofs.WritingLaws.{length-bytes, wrote_all}
use Rattle.schedule.proofs.sweep.write_sweep.Goals as goal
use Rattle.schedule.proofs.sweep.write_sweep.Goals.{In_ok-sheet, In_ok-direction}

-- the sheet was read, by the bytes that were given
module _ (p : In_ok-sheet) where
  abbrev x : Sheet
  x = p.in_ok-sheet.sheet

  abbrev s : List ℕ
  s = x.bytes.now

  over : (direction : ℕ) (out : List ℕ) → sweep_of s direction out ≡ sweep_of p.args.sheet.now direction out
  over direction out = ap (λ (b : Bor (List ℕ)). sweep_of b.now direction out) p.in_ok-sheet.ensures.same

  long : (d : ℕ) → length (bytes (sweep (instance_of s) d)) ≡ sweep_length (instance_of s)
  long d = sweep-length (instance_of s) (proper x) d

-- the direction is known
module _ (k : In_ok-direction) where
  abbrev read : In_ok-sheet
  read = (goal.at.In_ok-direction k).In_ok-sheet

  named : (known k.args.direction ≡ true) × (k.args.direction ≡ direction_number k.in_ok-direction.direction)
  named = direction_known k.args.direction k.in_ok-direction.ensures

pub returns-in_err-sheet : goal.returns-in_err-sheet
returns-in_err-sheet c =
    let a = c.args in
    let n = c.in_err-sheet.ensures.refusal in
    ap (written a.out.now) (handed _ c.from_residual.result c.from_residual.ensures.1 ∙ n)
    ∙ unread a.sheet.now a.direction a.out.now (λ z. omega (arith, n, numbered c.in_err-sheet.field-0.0))

pub returns-in_err-direction : goal.returns-in_err-direction
returns-in_err-direction c =
    let p = (goal.at.returns-in_err-direction c).In_ok-sheet in
    let o = c.args.out.now in
    let (t, q) = direction_unknown c.args.direction c.in_err-direction.ensures in
    ap (written o) (handed _ c.from_residual-in_err-direction.result c.from_residual-in_err-direction.ensures.1 ∙ ap number q)
    ∙ unknown (s p) c.args.direction o (x p).readable t
    ∙ over p c.args.direction o

pub returns-then-out-length_of : goal.returns-then-out-length_of
returns-then-out-length_of c =
    let k = (goal.at.returns-then-out-length_of c).In_ok-direction in let p = read k in
    unfit (s p) c.args.direction c.args.out.now (x p).readable (named k).0 (λ z. c.if-out-length_of.true (z ∙ sym c.length_of.ensures))
    ∙ over p c.args.direction c.args.out.now

pub whole-requires : goal.whole-requires
whole-requires c =
    let k = (goal.at.whole-requires c).In_ok-direction in let p = read k in
    let d = direction_number c.in_ok-direction.direction in
    record { fits = omega (arith, c.if-out-length_of.false, c.length_of.ensures, long p d, length-bytes (sweep (instance_of (s p)) d)) }

pub returns : goal.returns
returns c =
    let k = (goal.at.returns c).In_ok-direction in let p = read k in
    let fit = c.if-out-length_of.false ∙ c.length_of.ensures in
    let d = direction_number c.in_ok-direction.direction in
    let e : c.whole.new.w.out.now ≡ bytes (sweep (instance_of (s p)) c.args.direction) =
    wrote_all c.whole.ensures refl (fit ∙ sym (long p d)) ∙ ap (λ (n : ℕ). bytes (sweep (instance_of (s p)) n)) (sym (named k).1) in
    ap (λ (l : List ℕ). written l 0) (search rules ∙ e) ∙ swept (s p) c.args.direction c.args.out.now (x p).readable (named k).0 fit
    ∙ over p c.args.direction c.args.out.now
