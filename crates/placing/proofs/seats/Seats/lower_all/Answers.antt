-- `lower_all` meets its contract: the nodes below u are where they are to be.
use Prim.Native.Nat.{◌+◌, ◌<◌}
use mathlib.Core.Path.{refl, sym, ap, ◌∙◌, subst}
use native.Mathlib.Omega.{arith}
use Rattle.assignment.specs.First.{First}
use Rattle.placing.specs.Words.{entry, Full, Lowered}
use Rattle.placing.proofs.Settling.{lowered_none, lowered_more, lowered_done}
use Rattle.placing.proofs.seats.Seats.lower_all.Goals as goal

pub loop-u-init : goal.loop-u-init
loop-u-init c = let s = c.args.self.now in (refl, lowered_none s.linked s.nodes.now.few c.requires.seated c.requires.filled)

pub loop-u-preserved : goal.loop-u-preserved
loop-u-preserved c =
    let (e, v) = c.loop-u.invariant in let s = c.lower.ensures in
    let inside : c.loop-u.u < c.loop-u.self.nodes.now.count = omega (arith, c.loop-u-test.true, ap (λ n. n.count) e) in
    (s.same ∙ e, subst (λ n. Lowered n.count n.sets n.own c.args.idle c.lower.new.self.taken c.with_label-closed.result (c.loop-u.u + 1)) (sym s.same) (lowered_more v inside s.lowest c.with_label-closed.ensures))

pub returns : goal.returns
returns c =
    let (e, v) = c.loop-u.invariant in let s = c.loop-u.self in
    subst (λ n. First (Full n.count n.sets n.own c.args.idle) n.count (entry s.taken)) e (lowered_done s.linked v (omega (arith, c.loop-u-test.false, ap (λ n. n.count) e)))
