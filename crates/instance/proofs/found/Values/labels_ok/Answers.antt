-- `labels_ok` meets its contract: each label is tested, and whether all passed is kept.
use Rattle.std.proofs.Common.{arith}
use Rattle.integers.proofs.Checks.{folded_none, folded_more, folded_all}
use Rattle.instance.proofs.Stages.{labels_asked, positions_few, nodes_few}
use Rattle.instance.proofs.Turns.{labels_after, labels_room, label_by_lem, labels_done}
use Rattle.instance.proofs.found.Values.labels_ok.Goals as goal

pub loop-i-init : goal.loop-i-init
loop-i-init c = folded_none _ _

pub bounds-bytes-n : goal.bounds-bytes-n
bounds-bytes-n c = omega (arith, labels_room (labels_asked _ c.args.self.now.found.nodes.begun))

pub overflow_sub-n : goal.overflow_sub-n
overflow_sub-n c = omega (arith, labels_after (labels_asked _ c.args.self.now.found.nodes.begun) c.loop-i-test.true)

pub bounds-bytes-n-in-loop-i : goal.bounds-bytes-n-in-loop-i
bounds-bytes-n-in-loop-i c = omega (arith, labels_room (labels_asked _ c.args.self.now.found.nodes.begun))

pub bounds-firsts-i : goal.bounds-firsts-i
bounds-firsts-i c = omega (arith, positions_few _ c.args.self.now.found.nodes.begun)

pub loop-i-preserved : goal.loop-i-preserved
loop-i-preserved c =
    folded_more c.loop-i.invariant c.loop-i-test.true
    (label_by_lem (labels_asked _ c.args.self.now.found.nodes.begun) c.first_places-firsts.ensures c.loop-i-test.true c.from-label.ensures c.from-before.ensures c.label_ok-ok.ensures)

pub returns : goal.returns
returns c = labels_done (labels_asked _ c.args.self.now.found.nodes.begun) (folded_all c.loop-i.invariant c.loop-i-test.false)

pub overflow_add-n : goal.overflow_add-n
overflow_add-n c = omega (arith, positions_few _ c.args.self.now.found.nodes.begun, nodes_few _ c.args.self.now.found.nodes.begun)

pub overflow_add-n-in-loop-i : goal.overflow_add-n-in-loop-i
overflow_add-n-in-loop-i c = omega (arith, positions_few _ c.args.self.now.found.nodes.begun, nodes_few _ c.args.self.now.found.nodes.begun)
