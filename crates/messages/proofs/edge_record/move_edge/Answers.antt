-- `move_edge` meets its contract: the sheet says where the row, the table and the labels of both ends stand, and the parts move as the rules say.
use Rattle.std.proofs.Common.{◌≡◌, ℕ, ◌^◌, ◌<◌, refl, Bool, cond, eqb, List, sym, ap, ◌∙◌, subst, arith}
use Rattle.integers.specs.Sum.{Within}
use Rattle.integers.proofs.Places.{by_cond}
use Rattle.instance.specs.declared.sheet.Sheet.{Sheet}
use Rattle.instance.specs.Instance.{Instance}
use Rattle.instance.specs.Sheet.{instance_of}
use Rattle.instance.specs.Described.{labels_of}
use Rattle.messages.specs.EdgeMessage.{by_rows}
use Rattle.messages.specs.EdgeRecord.{EdgeLegal}
use Rattle.messages.specs.Records.{to_node}
use Rattle.messages.proofs.EdgeRecordLaws.{legal_node, legal_edge_lem, Found, row_ends, table_ends, row_room, table_room, legal_joined, legal_ranged, given_within, legal_written, legal_kept}
use Rattle.messages.proofs.edge_record.move_edge.Goals as goal
use Rattle.messages.proofs.edge_record.move_edge.Goals.{After-either-w, After-labels_of-other, Start}

-- the end that is named, and the other one
module _ (o : After-either-w) where
  abbrev q : Start
  q = (goal.at.After-either-w o).Start

  abbrev x : Sheet
  x = q.args.sheet.now

  abbrev I : Instance
  I = instance_of x.bytes.now

  abbrev g : EdgeLegal q.args.limit.most x.bytes.now q.args.nodes.now q.args.edges.now q.args.step.node q.args.step.index q.args.step.share
  g = q.requires

  -- whether it is the lower one
  abbrev b : Bool
  b = by_rows o.of-end.result

  named : b ≡ eqb q.args.step.node (I.low q.args.step.index)
  named = o.of-end.ensures ∙ ap (eqb q.args.step.node) o.low-low.ensures.0

  end : o.either-w.result ≡ cond b (I.high q.args.step.index) (I.low q.args.step.index)
  end = o.either-w.ensures ∙ (λ j. cond b (o.high.ensures.0 j) (o.low-low.ensures.0 j))

  end_node : o.either-w.result < x.nodes
  end_node = subst (λ (w : ℕ). w < x.nodes) (sym o.either-w.ensures) (by_cond (λ (w : ℕ). w < x.nodes) b (λ _. o.high.ensures.1) (λ _. o.low-low.ensures.1))

-- the labels of both
module _ (p : After-labels_of-other) where
  abbrev o : After-either-w
  o = (goal.at.After-labels_of-other p).After-either-w

  abbrev own : List ℕ
  own = p.labels_of-own.result.now

  abbrev other : List ℕ
  other = p.labels_of-other.result.now

  found : Found (x o) (q o).args.limit.most (q o).args.nodes.now (q o).args.edges.now (q o).args.step.node (q o).args.step.index (q o).args.step.share (b o) own other
  found = record {
    legal = (q o).requires;
    named = named o;
    own_is = p.labels_of-own.ensures;
    other_is = p.labels_of-other.ensures ∙ ap (labels_of (x o).bytes.now) (end o);
  }

pub invariant_of-joint : goal.invariant_of-joint
invariant_of-joint c = let p = (goal.at.invariant_of-joint c).After-labels_of-other in record { joined = legal_joined (found p) }

pub weigh-requires : goal.weigh-requires
weigh-requires c = record { zeros = refl; within = legal_ranged (found (goal.at.weigh-requires c).After-labels_of-other) }

pub invariant_of-amounts : goal.invariant_of-amounts
invariant_of-amounts c =
    let p = (goal.at.invariant_of-amounts c).After-labels_of-other in let y = (q (o p)).args in
    record { small = subst (Within (2 ^ 41)) (sym c.weigh.ensures.given) (given_within (legal_joined (found p)) (to_node y.flow) y.step.share) }

pub returns-then-weigh : goal.returns-then-weigh
returns-then-weigh c =
    let p = (goal.at.returns-then-weigh c).After-labels_of-other in let y = (q (o p)).args in
    legal_written (found p) (to_node y.flow) c.weigh.ensures.given (sym c.weigh.ensures.fits ∙ c.if-weigh.true) c.take_line.ensures c.width-width.ensures c.move_cells.ensures

pub returns-else-weigh : goal.returns-else-weigh
returns-else-weigh c =
    let p = (goal.at.returns-else-weigh c).After-labels_of-other in let y = (q (o p)).args in
    legal_kept (found p) (to_node y.flow) c.weigh.ensures.given (sym c.weigh.ensures.fits ∙ c.if-weigh.false)

pub offset_bounds-sheet-u : goal.offset_bounds-sheet-u
offset_bounds-sheet-u c = omega (arith, legal_node (x (o c)) (g (o c)))

pub bounds-sheet-u : goal.bounds-sheet-u
bounds-sheet-u c = let p = (goal.at.bounds-sheet-u c).After-labels_of-other in legal_node (x (o p)) (g (o p))

pub overflow_add-b : goal.overflow_add-b
overflow_add-b c = let p = (goal.at.overflow_add-b c).After-labels_of-other in record { fits = omega (arith, row_room (found p)) }

pub offset_bounds-sheet-e : goal.offset_bounds-sheet-e
offset_bounds-sheet-e c = let p = (goal.at.offset_bounds-sheet-e c).After-labels_of-other in omega (arith, legal_edge_lem (x (o p)) (g (o p)))

pub bounds-sheet-e : goal.bounds-sheet-e
bounds-sheet-e c = let p = (goal.at.bounds-sheet-e c).After-labels_of-other in legal_edge_lem (x (o p)) (g (o p))

pub overflow_mul-d : goal.overflow_mul-d
overflow_mul-d c = let p = (goal.at.overflow_mul-d c).After-labels_of-other in record { fits = omega (arith, table_room (found p)) }

pub overflow_add-d : goal.overflow_add-d
overflow_add-d c = let p = (goal.at.overflow_add-d c).After-labels_of-other in record { fits = omega (arith, table_room (found p)) }

pub offset_bounds-nodes-a : goal.offset_bounds-nodes-a
offset_bounds-nodes-a c = let p = (goal.at.offset_bounds-nodes-a c).After-labels_of-other in omega (arith, row_room (found p))

pub slice_bounds-joint-end : goal.slice_bounds-joint-end
slice_bounds-joint-end c = let p = (goal.at.slice_bounds-joint-end c).After-labels_of-other in row_ends (found p)

pub offset_bounds-edges-c : goal.offset_bounds-edges-c
offset_bounds-edges-c c = let p = (goal.at.offset_bounds-edges-c c).After-labels_of-other in omega (arith, table_room (found p))

pub slice_bounds-joint-end-2 : goal.slice_bounds-joint-end-2
slice_bounds-joint-end-2 c = let p = (goal.at.slice_bounds-joint-end-2 c).After-labels_of-other in table_ends (found p)
