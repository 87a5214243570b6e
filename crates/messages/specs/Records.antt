-- One record, kind by kind: refused with 12 where what it names does not exist, else what its kind leaves.
use Rattle.std.specs.Prelude.{Result, Ok, Err, ℕ, ◌+◌, ◌*◌, Bool, true, false, cond, List, ℤ, slice_index}
use Rattle.instance.specs.declared.refusal.Refusal.{Refusal}
use Rattle.instance.specs.declared.refusal.Refusal.TheVariants.{NoSuchRecord}
use Rattle.instance.specs.Instance.{Instance, first}
use Rattle.rules.specs.Messages as rules
use Rattle.rules.specs.Run as runs
use Rattle.rules.specs.Run.{kind_of, legal_position, legal_edge}
use Rattle.messages.specs.declared.records.Flow.{Flow}
use Rattle.messages.specs.declared.records.Flow.TheVariants.{FromNode, ToNode}
use Rattle.rules.specs.Assigned as ways
use Rattle.messages.specs.declared.records.Way.{Way}
use Rattle.messages.specs.declared.records.Way.TheVariants.{InTurn, AtOnce}
use Rattle.messages.specs.declared.records.Kind.{Kind}
use Rattle.messages.specs.declared.records.Kind.TheVariants.{Edge, Label, Rounding}
use Rattle.messages.specs.declared.records.Record.{Record}
use Rattle.messages.specs.LabelMessage.{Moved, label_move, label_moved, label_given}
use Rattle.messages.specs.EdgeRecord.{EdgeMove, edge_move, edge_moved}

-- whether a message is turned round: to the node
abbrev pub to_node : Flow → Bool
to_node FromNode = false
to_node ToNode = true

-- the rules' messages, of an edge and of a label
abbrev pub edge_message : Flow → rules.Message
edge_message FromNode = rules.node_to_edge
edge_message ToNode = rules.edge_to_node

abbrev pub label_message : Flow → rules.Message
label_message FromNode = rules.node_to_label
label_message ToNode = rules.label_to_node

-- the rules' ways to a rounding, and as the code has them
abbrev pub way_of : Way → ways.Way
way_of InTurn = ways.in_turn
way_of AtOnce = ways.at_once

abbrev pub way_as : ways.Way → Way
way_as ways.in_turn = InTurn
way_as ways.at_once = AtOnce

-- the rules' kind as the code has it: refused for one that does not exist
abbrev pub message_as : rules.Message → Kind
message_as rules.node_to_edge = Edge FromNode
message_as rules.edge_to_node = Edge ToNode
message_as rules.node_to_label = Label FromNode
message_as rules.label_to_node = Label ToNode

abbrev pub kind_as : runs.Kind → Result Kind Refusal
kind_as (runs.message m) = Ok (message_as m)
kind_as (runs.rounding w) = Ok (Rounding (way_as w))
kind_as runs.unknown = Err NoSuchRecord

-- five bytes as a kind and what a record of it names, if there is such a kind
abbrev pub head_by : Result Kind Refusal → List ℕ → Result (Kind × Record) Refusal
head_by (Err e) l = Err e
head_by (Ok kind) l = Ok (kind, record { node = slice_index l 1; index = slice_index l 2 + 256 * slice_index l 3; share = slice_index l 4 })

abbrev pub head_of : List ℕ → Result (Kind × Record) Refusal
head_of l = head_by (kind_as (kind_of (slice_index l 0))) l

-- kind 3, or turned round kind 4
unfoldable pub label_taken : Instance → ℕ → List ℤ → List ℤ → Bool → ℕ → ℕ → ℕ → Moved
label_taken I limit nodes labels turned u k r =
    cond (legal_position I u k r) (label_moved limit nodes labels (first I u + k) (label_given I nodes labels turned u (first I u + k) r)) (label_move 12 nodes labels)

-- kind 1, or turned round kind 2
unfoldable pub edge_taken : Instance → ℕ → List ℤ → List ℤ → Bool → ℕ → ℕ → ℕ → EdgeMove
edge_taken I limit nodes edges turned u e r = cond (legal_edge I u e r) (edge_moved I nodes edges limit turned u e r) (edge_move 12 nodes edges)
