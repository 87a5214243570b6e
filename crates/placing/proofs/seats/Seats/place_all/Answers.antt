-- `place_all` meets its contract: the nodes below u are seated.
use Prim.Native.Nat.{◌+◌, ◌<◌}
use mathlib.Core.Path.{sym, ap, ◌∙◌, subst}
use native.Mathlib.Omega.{arith}
use Rattle.integers.proofs.Words.{bit_zero}
use Rattle.placing.specs.Words.{Seated, Blocked, rows_of, caught}
use Rattle.placing.proofs.Moving.{aimed_free}
use Rattle.placing.proofs.Seating.{seated_unplaced, seated_more, seated_blocked}
use Rattle.placing.proofs.seats.Seats.place_all.Goals as goal
use Rattle.placing.proofs.seats.Seats.place_all.Goals.{In-loop-u}

-- a node of the turn
few : (t : In-loop-u) → t.loop-u.u < 64
few t = omega (arith, t.loop-u-test.true, t.args.self.now.nodes.now.few)

pub chain-requires : goal.chain-requires
chain-requires c =
    let g = few (goal.at.chain-requires c).In-loop-u in
    (record { node = g; unplaced = seated_unplaced c.loop-u.self.linked c.loop-u.invariant.1 g; labels = λ l e. (e, bit_zero l) }, aimed_free c.loop-u.self.linked c.loop-u.self.nodes.now.own 0)

pub returns-in-Err-clause-answer : goal.returns-in-Err-clause-answer
returns-in-Err-clause-answer c =
    let v = c.loop-u.invariant in
    let (same, ended) = c.in-Err.ensures.barred in
    let inside : c.loop-u.u < c.loop-u.self.nodes.now.count = omega (arith, c.loop-u-test.true, ap (λ n. n.count) v.0) in
    subst (λ n. Blocked (rows_of n.count n.sets n.own) (caught c.loop-u.u c.in-Err.seen c.chain.new.self.taken)) v.0
    (rw same (seated_blocked c.loop-u.self.linked v.1 (few (goal.at.returns-in-Err-clause-answer c).In-loop-u) inside c.if-vanishes.false ended))

pub loop-u-preserved : goal.loop-u-preserved
loop-u-preserved c =
    let v = c.loop-u.invariant in let s = c.in_default.ensures in (
      s.same ∙ v.0,
      subst (λ n. Seated n.own 0 (c.loop-u.u + 1) c.chain.new.self.taken) (sym s.same)
          (seated_more c.loop-u.self.linked v.1 (few (goal.at.loop-u-preserved c).In-loop-u) c.if-vanishes.false s.placed.2),
    )
