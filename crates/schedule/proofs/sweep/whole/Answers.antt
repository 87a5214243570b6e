-- `whole` meets its contract: the nodes' lists, or the labels' and the nodes', and then the rounding.
use mathlib.Core.Path.{◌≡◌, sym, ap, ◌∙◌}
use mathlib.Core.List.{List}
use Prim.Native.Nat.{◌+◌}
use native.Mathlib.Omega.{arith}
use lib.ListN.{length, length-append}
use Rattle.integers.specs.Places.{range}
use Rattle.instance.specs.Instance.{Instance}
use Rattle.instance.specs.Sheet.{instance_of}
use Rattle.index.specs.Index.{Indexed}
use Rattle.schedule.specs.declared.sweep.Direction.TheVariants.{Forward, Backward}
use Rattle.schedule.specs.declared.writer.Writer.{Writer}
use Rattle.schedule.specs.Sweep.{Entry, each, falling, label_at, backward_at, rounding, sweep}
use Rattle.schedule.specs.Writing.{Wrote, direction_number, forward_of, backward_by}
use Rattle.instance.proofs.Sheets.{nodes_few}
use Rattle.schedule.proofs.WritingLaws.{wrote_append, wrote_as, room_left, room_for}
use Rattle.schedule.proofs.IndexedSheet.{forward_nodes, backward_nodes}
use Rattle.schedule.proofs.Written.{body, sweep_is}
use Rattle.schedule.proofs.sweep.whole.Goals as goal
use Rattle.schedule.proofs.sweep.whole.Goals.{After-edges_by-higher, in-Forward, in-Backward}

-- the edges by their ends
module _ (p : After-edges_by-higher) where
  abbrev I : Instance
  I = instance_of p.args.sheet.now.bytes.now

  lower : Indexed I.high I.edge_count p.edges_by-lower.result
  lower = p.edges_by-lower.ensures.rows

  higher : Indexed I.low I.edge_count p.edges_by-higher.result
  higher = p.edges_by-higher.ensures.rows

  size : length (sweep I (direction_number p.args.direction)) ≡ length (body I p.args.direction) + 1
  unfolding rounding
  size = ap length (sweep_is I p.args.direction) ∙ length-append (body I p.args.direction) rounding

  -- the labels' lists, and the nodes'
  abbrev labels : List Entry
  labels = each (label_at I) (falling I.label_count)

  abbrev nodes : List Entry
  nodes = each (backward_at I) (falling I.node_count)

  long : p.args.direction ≡ Backward → length (body I p.args.direction) ≡ length labels + length nodes
  long e = ap (λ d. length (body I d)) e ∙ length-append labels nodes

pub forward-requires : goal.forward-requires
forward-requires c =
    let p = (goal.at.forward-requires c).After-edges_by-higher in
    let e = forward_nodes c.args.sheet.now (lower p) (higher p) in
    room_for _ c.requires (omega (arith, size p, ap length e, ap (λ d. length (body (I p) d)) c.in-Forward.is))

pub backward_labels-requires : goal.backward_labels-requires
backward_labels-requires c =
    let p = (goal.at.backward_labels-requires c).After-edges_by-higher in
    room_for _ c.requires (omega (arith, size p, long p c.in-Backward.is))

pub backward_nodes-requires-clause-n_bound : goal.backward_nodes-requires-clause-n_bound
backward_nodes-requires-clause-n_bound c = nodes_few c.args.sheet.now

pub backward_nodes-requires-clause-room : goal.backward_nodes-requires-clause-room
backward_nodes-requires-clause-room c =
    let p = (goal.at.backward_nodes-requires-clause-room c).After-edges_by-higher in
    let e = backward_nodes c.args.sheet.now (lower p) (higher p) in
    room_left c.backward_labels.ensures _ c.requires (omega (arith, size p, ap length e, long p c.in-Backward.is))

-- all but the rounding is written
filled_forward : (p : After-edges_by-higher) {v : Writer} → p.args.direction ≡ Forward
    → Wrote p.args.w.now (each (forward_of (I p) p.edges_by-lower.result p.edges_by-higher.result) (range 0 p.args.sheet.now.nodes)) v
    → Wrote p.args.w.now (body (I p) p.args.direction) v
filled_forward p e x = wrote_as x (forward_nodes p.args.sheet.now (lower p) (higher p) ∙ sym (ap (body (I p)) e))

filled_backward : (p : After-edges_by-higher) {u v : Writer} → p.args.direction ≡ Backward → Wrote p.args.w.now (labels p) u
    → Wrote u (each (backward_by p.edges_by-lower.result p.edges_by-higher.result) (falling p.args.sheet.now.nodes)) v → Wrote p.args.w.now (body (I p) p.args.direction) v
filled_backward p e x y = wrote_as (wrote_append x (wrote_as y (backward_nodes p.args.sheet.now (lower p) (higher p)))) (sym (ap (body (I p)) e))

pub put-requires : goal.put-requires
put-requires c =
    let p = (goal.at.put-requires c).After-edges_by-higher in
    let filled : Wrote c.args.w.now (body (I p) c.args.direction) c.match-direction.w =
    elim c.match-direction.branch [
      | in-Forward w ↦ rw w.w-is (filled_forward p w.in-Forward.is w.forward.ensures)
      | in-Backward w ↦ rw w.w-is (filled_backward p w.in-Backward.is w.backward_labels.ensures w.backward_nodes.ensures)
    ] in
    room_left filled 1 c.requires (omega (arith, size p))

pub returns : goal.returns
unfolding rounding
returns c =
    let p = (goal.at.returns c).After-edges_by-higher in
    let filled : Wrote c.args.w.now (body (I p) c.args.direction) c.match-direction.w =
    elim c.match-direction.branch [
      | in-Forward w ↦ rw w.w-is (filled_forward p w.in-Forward.is w.forward.ensures)
      | in-Backward w ↦ rw w.w-is (filled_backward p w.in-Backward.is w.backward_labels.ensures w.backward_nodes.ensures)
    ] in
    wrote_as (wrote_append filled c.put.ensures) (sym (sweep_is (I p) c.args.direction))
