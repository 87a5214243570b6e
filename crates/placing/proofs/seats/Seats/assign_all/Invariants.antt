-- `assign_all` meets its contract: the nodes that are not out are placed at least cost, and none below the root is out.
use Prim.Native.Nat.{ℕ, ◌<◌}
use mathlib.Core.Path.{◌≡◌}
use mathlib.Core.Bool.{false}
use Rattle.integers.specs.Words.{bit}
use Rattle.placing.specs.Words.{Stands, Standing}
use Rattle.placing.specs.Priced.{Priced}
use Rattle.placing.specs.Paths.{paid}
use Rattle.placing.proofs.seats.Seats.assign_all.Given as goal

abbrev pub invariant-loop-root : goal.invariant-loop-root
invariant-loop-root l = (l.self.nodes.now ≡ l.fn.self.nodes.now) × ((u : ℕ) → u < l.root → bit l.out u ≡ false)
    × Standing (Stands l.offers.nodes.now.count l.out) l.offers.nodes.now.own l.self.taken
    × Priced (Stands l.offers.nodes.now.count l.out) l.offers.nodes.now.sets l.offers.nodes.now.own (paid l.offers) l.self.taken l.self.free l.paths.prices
