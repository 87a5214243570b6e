-- `write_members` meets its contract: the bytes so far say which nodes are caught.
-- Assumes nothing.
use Prim.Native.Nat.{ℕ}
use mathlib.Core.Bool.{cond}
use mathlib.Core.List.{List}
use Rattle.integers.proofs.Filling.{Filling}
use Rattle.placing.specs.Words.{caught}
use Rattle.placing.proofs.answer.write_members.Given as goal

abbrev pub members : ℕ → ℕ → List ℕ → ℕ → ℕ
members root seen taken u = cond (caught root seen taken u) 1 0

abbrev pub invariant-loop-node : goal.invariant-loop-node
invariant-loop-node l = Filling (members l.unplaced.root l.unplaced.seen l.unplaced.taken) l.initial.out l.out l.node
