-- `tight` meets its contract: the rows of the nodes so far.
use Rattle.std.proofs.Common.{refl, arith, ◌<◌}
use Rattle.placing.proofs.TightLaws.{tightened_none, tightened_more}
use Rattle.placing.proofs.offers.Offers.tight.Goals as goal
use Rattle.placing.proofs.offers.Offers.tight.Goals.{In-loop-u}

few : (t : In-loop-u) → t.loop-u.u < 64
few t = omega (arith, t.loop-u-test.true, t.args.self.now.nodes.now.few)

pub loop-u-init : goal.loop-u-init
loop-u-init c = (refl, tightened_none)

pub loop-u-preserved : goal.loop-u-preserved
loop-u-preserved c = (c.loop-u.invariant.0, tightened_more c.loop-u.invariant.1 (few (goal.at.loop-u-preserved c).In-loop-u) c.tight_row-row.ensures)
