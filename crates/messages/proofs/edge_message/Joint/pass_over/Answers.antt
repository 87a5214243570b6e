-- `pass_over` meets its contract. The loop's invariant: the first k places hold the least usable cell there, and if none was passed over, that is the least of all; `from` is a place of the other end or past them.
use Rattle.std.proofs.Common.{ℕ, ◌+◌, ◌*◌, ◌≤◌, List, length, Some, get_or, pos, ap, ◌∙◌, arith, w64, to_z-of_z, rules}
use Rattle.integers.specs.Least.{least_from}
use Rattle.integers.proofs.Bits.{answer}
use Rattle.integers.proofs.Parts.{linear, parts}
use Rattle.messages.specs.Clash.{Skips}
use Rattle.messages.specs.EdgeMessage.{by_rows, unbounded}
use Rattle.messages.proofs.UsableLaws.{line_left}
use Rattle.messages.proofs.PassLaws.{low_clear, low_above, gone_none, gone_next, gone_over, gone_by, gone_all}
use Rattle.messages.proofs.edge_message.Joint.pass_over.Goals as goal
use Rattle.messages.proofs.edge_message.Joint.pass_over.Goals.{in-Some+then-self-k, in-Some+else-self-k, in_default}

-- the place after the one that is skipped
past : {labels : List ℕ} {label p : ℕ} → Skips labels label (Some p) → p + 1 ≤ length labels
past x = let i = x.inside in omega (arith, i)

pub loop-k-init : goal.loop-k-init
loop-k-init c = (gone_none c.args.self.now c.requires, omega arith)

pub loop-k-preserved : goal.loop-k-preserved
loop-k-preserved c =
    let j = c.args.self.now in
    let s = c.strides-own.ensures in
    let k = c.loop-k.k in
    let h = c.loop-k-test.true in
    let g = c.loop-k.invariant.0 in
    let label = get_or j.own.now k 0 in
    elim c.match-clash_from.branch [
      | in-Some+then-self-k w ↦ let x : Skips j.other.now label (Some w.in-Some.skip) = w.in-Some.ensures in
          rw (w.least-is, w.passed-is, w.from-is) (gone_over g h (answer w.low_at.type_inv w.low_at.ensures ∙ ap (least_from unbounded) (line_left (by_rows j.end) j.joined.ends k h x)), past x)
      | in-Some+else-self-k w ↦ let x : Skips j.other.now label (Some w.in-Some.skip) = w.in-Some.ensures in
          let cell = get_or j.cells.now (k * c.strides-own.result.0 + w.in-Some.skip * c.strides-own.result.1) (pos 0) in
          let a = to_z-of_z {w = w64} {z = cell} (search rules) in
          let b = to_z-of_z {w = w64} {z = get_or c.loop-k.least k (pos 0)} (search rules) ∙ gone_next g h in
          rw (w.least-is, w.passed-is, w.from-is) (gone_by g h (low_above j k h s w.in-Some.skip x (omega (linear, parts a, parts b, w.if-self-k.false))), past x)
      | in_default w ↦ rw (w.least-is, w.passed-is, w.from-is) (gone_by g h (low_clear j k h w.in_default.ensures), c.loop-k.invariant.1)
    ]

pub returns-clause-lows : goal.returns-clause-lows
returns-clause-lows c = gone_all c.loop-k.invariant.0 c.loop-k-test.false

pub returns-clause-above : goal.returns-clause-above
returns-clause-above c = λ e k h. c.loop-k.invariant.0.above e k (omega (arith, c.loop-k-test.false))
