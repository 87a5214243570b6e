-- `bid_from` meets its contract: so many bids were made.
use Prim.Native.Nat.{ℕ, ◌+◌, ◌≤◌, ◌<◌}
use mathlib.Core.Path.{◌≡◌}
use Rattle.placing.specs.Bids.{Aloft}
use Rattle.placing.proofs.seats.Seats.bid_from.Given as goal

abbrev pub invariant-loop-turn : goal.invariant-loop-turn
invariant-loop-turn l = (l.self.nodes.now ≡ l.fn.self.nodes.now) × (l.node < 64)
    × ((out m : ℕ) → m + 8 ≤ 512 → Aloft l.offers l.fn.self.taken l.fn.self.free l.fn.prices out m l.u → Aloft l.offers l.self.taken l.self.free l.prices out (m + l.turn) l.node)
