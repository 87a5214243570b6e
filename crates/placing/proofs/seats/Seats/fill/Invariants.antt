-- `fill` meets its contract: the nodes so far could not leave.
use mathlib.Core.Path.{◌≡◌}
use Prim.Native.Nat.{◌^◌}
use Rattle.placing.specs.Words.{Aimed, Spent}
use Rattle.placing.proofs.seats.Seats.fill.Given as goal

abbrev pub invariant-loop-x : goal.invariant-loop-x
invariant-loop-x l = (l.self.nodes.now ≡ l.fn.self.nodes.now) × (l.self.taken ≡ l.fn.self.taken) × Aimed l.fn.self.nodes.now.own l.fn.self.taken (2 ^ l.owed) l.seen
    × Spent l.fn.self.nodes.now.sets l.fn.self.taken l.terms.idle l.owed l.u l.x l.terms.closed l.seen
