-- `lay_words` meets its contract: the nodes so far are laid out.
-- Assumes nothing.
use Rattle.instance.specs.Sheet.{instance_of}
use mathlib.Core.Path.{◌≡◌}
use Rattle.placing.proofs.Laying.{Laying}
use Rattle.placing.proofs.tables.lay_words.Given as goal

-- the fields of `nodes`, which is filled one by one: its count, its words and its flags
abbrev pub invariant-loop-u : goal.invariant-loop-u
invariant-loop-u l = (l.nodes.0 ≡ l.sheet.nodes) × Laying (instance_of l.sheet.bytes.now) l.u l.nodes.1.0 l.nodes.1.1.0
