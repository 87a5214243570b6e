-- The one statement: the three functions keep their contracts, and of every list of calls that the contracts allow, after an opening, demand 3 holds.
use Rattle.std.proofs.Common.{◌≡◌, ℕ, List}
use Rattle.instance.specs.Sheet.{instance_of, refusal_of}
use Rattle.rules.specs.Calls.{Call, Point, points, cost_limit}
use Rattle.rules.specs.Demand.{Holds}
use Rattle.rules.proofs.Calls.{Under}
use Rattle.messages.proofs.opening.open.Statement as OpenStatement
use Rattle.messages.proofs.opening.open.Met as OpenMet
use Rattle.messages.proofs.list.run.Statement as RunStatement
use Rattle.messages.proofs.list.run.Met as RunMet
use Rattle.messages.proofs.reporting.report.Statement as ReportStatement
use Rattle.messages.proofs.reporting.report.Met as ReportMet
use Rattle.messages.proofs.Trace.{Trace, trace, every}

-- what is proved of the three functions and of every list of calls
pub record Whole : Type 2 where
  -- `open` meets its contract
  pub opening : {M : Type 1} → OpenStatement.statement M
  -- `run` meets its contract
  pub running : {M : Type 1} → RunStatement.statement M
  -- `report` meets its contract
  pub reporting : {M : Type 1} → ReportStatement.statement M
  -- the calls after an opening go by the rules, and demand 3 holds at every point and between any two
  pub held : (s : List ℕ) (cs : List Call) (ps : List Point) → Trace s cs ps → (ps ≡ points s cs) × Holds (instance_of s) ps
  -- no list of calls is left out: on a readable sheet each has such a trace
  pub every : (s : List ℕ) → refusal_of s ≡ 0 → (cs : List Call) → Under cost_limit cs → Trace s cs (points s cs)

-- all of it
pub whole : Whole
whole = record {
  opening = OpenMet.met;
  running = RunMet.met;
  reporting = ReportMet.met;
  held = trace;
  every = every;
}
