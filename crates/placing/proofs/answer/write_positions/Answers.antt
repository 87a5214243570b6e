-- `write_positions` meets its contract: the bytes so far are ranks.
-- Assumes nothing.
use Prim.Native.Nat.{◌+◌}
use mathlib.Core.Path.{sym, subst}
use lib.ListN.{set}
use Rattle.integers.proofs.Filling.{Filling, fill_none, fill_more}
use Rattle.placing.proofs.answer.write_positions.Goals as goal
use Rattle.placing.proofs.answer.write_positions.Invariants.{ranks}

pub loop-u-init : goal.loop-u-init
loop-u-init c = fill_none (ranks c.args.nodes.now.sets c.args.taken.now) _

pub loop-u-preserved : goal.loop-u-preserved
loop-u-preserved c =
    let q = c.args in let l = c.loop-u in
    let f = ranks q.nodes.now.sets q.taken.now in
    subst (λ r. Filling f q.out.now (set l.out l.u r) (l.u + 1)) (sym c.rank_of.ensures) (fill_more f 0 l.invariant c.loop-u-test.true)
