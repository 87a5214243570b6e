-- `write_positions` meets its contract: the bytes so far are ranks.
-- Assumes nothing.
use Prim.Native.Nat.{ℕ}
use mathlib.Core.List.{List}
use Rattle.integers.proofs.Filling.{Filling}
use Rattle.placing.specs.Words.{entry, rank}
use Rattle.placing.proofs.answer.write_positions.Given as goal

abbrev pub ranks : List ℕ → List ℕ → ℕ → ℕ
ranks sets taken u = rank (entry sets u) (entry taken u)

abbrev pub invariant-loop-u : goal.invariant-loop-u
invariant-loop-u l = Filling (ranks l.nodes.sets l.taken) l.initial.out l.out l.u
