-- `labels_ok` meets its contract: each label is tested, and whether all passed is kept.
use Rattle.integers.proofs.Checks.{Folded}
use Rattle.instance.specs.Passes.{place_ok}
use Rattle.instance.proofs.found.Values.labels_ok.Given as goal

abbrev pub invariant-loop-i : goal.invariant-loop-i
invariant-loop-i l = Folded (place_ok l.self.found.nodes.counts.bytes.now) l.self.found.nodes.positions l.i l.ok
