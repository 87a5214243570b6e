-- `keys_of` meets its contract: after k edges of the node's row the keys are those with these edges.
use Rattle.std.proofs.Common.{◌≡◌, take}
use Rattle.instance.specs.Sheet.{instance_of}
use Rattle.messages.proofs.KeyLaws.{keys_over}
use Rattle.messages.proofs.state.State.keys_of.Given as goal

abbrev pub invariant-loop-e : goal.invariant-loop-e
invariant-loop-e l = l.keys ≡ keys_over (instance_of l.self.run.now.sheet.bytes.now) l.self.nodes.now l.self.edges.now l.positions l.u (take l.e-index l.e-items)
