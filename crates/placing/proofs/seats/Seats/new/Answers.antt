-- `new` meets its contract: no label is taken, and all are free.
use mathlib.Core.Path.{refl}
use Prim.Native.Nat.{ℕ}
use lib.ListN.{replicate, get_or-replicate}
use Rattle.placing.proofs.Linking.{linked_none}
use Rattle.placing.proofs.Leaving.{owning_none}
use Rattle.placing.proofs.seats.Seats.new.Goals as goal

pub invariant_of-result : goal.invariant_of-result
invariant_of-result c = record { linked = linked_none c.args.nodes.now.fit; owning = owning_none c.args.nodes.now.own (replicate 64 0) }

pub returns : goal.returns
returns c = (refl, λ u h. get_or-replicate {A = ℕ} 64 u 255 0 h)
