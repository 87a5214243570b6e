-- A run under way, as the rules have it.
use Rattle.std.specs.Prelude.{◌≡◌, ℕ}
use Rattle.instance.specs.Instance.{Instance}
use Rattle.instance.specs.Sheet.{instance_of}
use Rattle.rules.specs.Costs.{Buffers}
use Rattle.rules.specs.Run as runs
use Rattle.messages.specs.declared.records.Record.{Record}
use Rattle.messages.specs.declared.state.State.{State}
use Rattle.messages.specs.Lent.{lent}
use Rattle.messages.specs.Step.{Settled, settled_as}

-- what the sheet describes, the limit, and the four buffers
abbrev pub instance_in : State → Instance
instance_in s = instance_of s.run.now.sheet.bytes.now

abbrev pub limit_in : State → ℕ
limit_in s = s.run.now.limit.most

abbrev pub buffers_in : State → Buffers
buffers_in s = lent s.nodes.now s.labels.now s.edges.now s.incumbent.now

-- what a record of some kind leaves and answers by the rules
abbrev pub leaves : State → runs.Kind → Record → Settled
leaves s kind r = settled_as (instance_in s) (limit_in s) (buffers_in s) kind r.node r.index r.share

-- the same run, and the same four references: only what they lend may differ
pub record Same (s t : State) : Type 0 where
  pub run : t.run ≡ s.run
  pub nodes : t.nodes.ghost_name ≡ s.nodes.ghost_name
  pub labels : t.labels.ghost_name ≡ s.labels.ghost_name
  pub edges : t.edges.ghost_name ≡ s.edges.ghost_name
  pub incumbent : t.incumbent.ghost_name ≡ s.incumbent.ghost_name
