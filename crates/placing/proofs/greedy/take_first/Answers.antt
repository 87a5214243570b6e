-- `take_first` meets its contract: the nodes below u are placed, each as low as it can be.
use Prim.Native.Nat.{◌+◌, ◌^◌, ◌<◌}
use mathlib.Core.Path.{refl, sym, ap, ◌∙◌, transport}
use native.Mathlib.Omega.{arith}
use lib.Bits.{bit_and, bit_xor, and_le_l}
use Rattle.placing.specs.Words.{entry}
use Rattle.placing.proofs.Taking.{Taking, least_of, taking_none, taking_more, taking_last, taking_done}
use Rattle.placing.proofs.greedy.take_first.Goals as goal
use Rattle.placing.proofs.greedy.take_first.Goals.{then-open-ne0, else-open-ne0+then-nodes-u}

pub loop-u-init : goal.loop-u-init
loop-u-init c = taking_none _ _ _ _ refl

pub loop-u-preserved : goal.loop-u-preserved
loop-u-preserved c =
    let N = c.args.nodes.now in let t = c.loop-u in let h = c.loop-u-test.true in
    let opened = bit_and (entry N.sets t.u) t.free in
    let fit : opened < 2 ^ 64 = omega (arith, and_le_l (entry N.sets t.u) t.free, N.fit t.u) in
    elim c.if-open-ne0.branch [
      | then-open-ne0 w ↦
          let l = w.lowest-l.result in
          let e = w.free-is ∙ ap (bit_xor t.free) w.bit_of-free.ensures in
          transport (λ j. Taking N.count N.sets N.own (sym w.taken-is j) (sym e j) (t.u + 1))
          (taking_more t.invariant N.few h (least_of opened l fit w.if-open-ne0.true w.lowest-l.ensures))
      | else-open-ne0+then-nodes-u w ↦
          transport (λ j. Taking N.count N.sets N.own (sym w.taken-is j) (sym w.free-is j) (t.u + 1)) (taking_last t.invariant N.few h w.if-nodes-u.true w.if-open-ne0.false)
    ]

pub returns : goal.returns
returns c = taking_done c.loop-u.invariant c.loop-u-test.false
