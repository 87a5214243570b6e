-- `tight` meets its contract: the rows of the nodes so far.
use mathlib.Core.Path.{◌≡◌}
use Rattle.placing.specs.Paths.{paid}
use Rattle.placing.proofs.TightLaws.{Tightened}
use Rattle.placing.proofs.offers.Offers.tight.Given as goal

-- the fields of `nodes`, which is filled one by one: its count, its words and its flags
abbrev pub invariant-loop-u : goal.invariant-loop-u
invariant-loop-u l =
    (l.nodes.0 ≡ l.self.nodes.now.count)
    × Tightened l.self.nodes.now.count l.u l.self.nodes.now.sets l.self.nodes.now.own (paid l.self) l.taken l.prices l.nodes.1.0 l.nodes.1.1.0
