-- `loose` meets its contract: of the labels that nodes with 255 take, those of nodes above u are left.
use native.Mathlib.Omega.{arith}
use Rattle.placing.proofs.Leaving.{loose_only, loose_all}
use Rattle.placing.proofs.seats.Seats.loose.Goals as goal

pub returns-clause-only : goal.returns-clause-only
returns-clause-only c u none under = let s = c.args.self.now in loose_only s.linked s.owning under none

pub returns-clause-all : goal.returns-clause-all
returns-clause-all c u under w a b = let s = c.args.self.now in loose_all s.linked s.owning under w a (omega (arith, b, s.nodes.now.few))
