-- `to_edges` meets its contract: a record for each edge of the row, with a share for each that is left.
use Rattle.std.proofs.Common.{take}
use Rattle.schedule.specs.Sweep.{to_edges}
use Rattle.schedule.specs.Writing.{Wrote}
use Rattle.schedule.proofs.edges.to_edges.Given as goal

abbrev pub invariant-loop-j : goal.invariant-loop-j
invariant-loop-j l = Wrote l.initial.w (to_edges l.u l.first (take l.j l.row)) l.w
