-- `read_degrees` meets its contract, by the laws of its turns.
use Rattle.instance.proofs.Stages.{degrees_asked}
use Rattle.instance.proofs.Turns.{degrees_none, degrees_bad, degree_low, degree_high, degrees_more, degrees_done}
use Rattle.instance.proofs.found.Counts.read_degrees.Goals as goal

pub loop-u-init : goal.loop-u-init
loop-u-init c = rw c.requires (degrees_none _ _)

pub returns-then-degree-lt1 : goal.returns-then-degree-lt1
returns-then-degree-lt1 c =
    let w = c.from-degree.ensures in
    degrees_bad (degrees_asked _ c.args.self.now.counted) c.loop-u.u c.loop-u-test.true (degree_low _ _ (rw w at c.if-degree-lt1.true))

pub returns-then-degree-gt16 : goal.returns-then-degree-gt16
returns-then-degree-gt16 c =
    let w = c.from-degree.ensures in
    degrees_bad (degrees_asked _ c.args.self.now.counted) c.loop-u.u c.loop-u-test.true (degree_high _ _ (rw w at c.if-degree-lt1.false) (rw w at c.if-degree-gt16.true))

pub loop-u-preserved : goal.loop-u-preserved
loop-u-preserved c =
    let w = c.from-degree.ensures in
    rw w (degrees_more (degrees_asked _ c.args.self.now.counted) c.loop-u.invariant c.loop-u-test.true (rw w at c.if-degree-lt1.false) (rw w at c.if-degree-gt16.false))

pub returns : goal.returns
returns c = degrees_done (degrees_asked _ c.args.self.now.counted) c.loop-u.invariant c.loop-u-test.false
