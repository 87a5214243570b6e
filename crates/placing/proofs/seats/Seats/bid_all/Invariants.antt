-- `bid_all` meets its contract: the nodes so far have bidden, those from u on are not placed.
use Prim.Native.Nat.{ℕ, ◌*◌, ◌≤◌, ◌<◌}
use mathlib.Core.Path.{◌≡◌}
use mathlib.Core.Bool.{true}
use Rattle.integers.specs.Words.{bit}
use Rattle.placing.specs.Bids.{Landed}
use Rattle.placing.proofs.seats.Seats.bid_all.Given as goal

abbrev pub invariant-loop-u : goal.invariant-loop-u
invariant-loop-u l = (l.self.nodes.now ≡ l.fn.self.nodes.now) × ((x : ℕ) → l.u ≤ x → x < 64 → bit l.out x ≡ true) × Landed l.offers l.self.taken l.self.free l.prices l.out (l.u * 8)
