-- `from_edges` meets its contract: a record for each edge of the row.
use Rattle.std.proofs.Common.{take}
use Rattle.schedule.specs.Sweep.{from_edges}
use Rattle.schedule.specs.Writing.{Wrote}
use Rattle.schedule.proofs.edges.from_edges.Given as goal

abbrev pub invariant-loop-edge : goal.invariant-loop-edge
invariant-loop-edge l = Wrote l.initial.w (from_edges l.u (take l.edge-index l.edge-items)) l.w
