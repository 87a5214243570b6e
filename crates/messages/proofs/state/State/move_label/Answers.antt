-- `move_label` meets its contract: what the cost gives is the rules' amount, and the two least are known after it has moved.
use Rattle.std.proofs.Common.{◌≡◌, ℕ, ◌+◌, ◌^◌, ◌<◌, ◌≤◌, true, cond, length, ℤ, ◌-ℤ◌, neg_ℤ, nat_abs, sym, ap, ◌∙◌, subst, ap₂, arith, to_z-of_z, w64, to_z, of_z, SFits}
use Rattle.integers.proofs.Parts.{linear, sub, abs}
use mathlib.Core.Path.{transport}
use Rattle.integers.specs.Rows.{add_at}
use Rattle.integers.proofs.Bits.{same}
use Rattle.instance.specs.Instance.{Instance, first, node_cells}
use Rattle.rules.specs.Calls.{cost_limit}
use Rattle.instance.specs.Refusal.{refused_in}
use Rattle.instance.specs.Sheet.{instance_of}
use Rattle.instance.proofs.LaidOut.{label_known_lem}
use Rattle.instance.proofs.Sheets as sheet
use Rattle.instance.proofs.Told.{handed}
use Rattle.rules.specs.Run.{message, legal_position}
use Rattle.messages.specs.declared.records.Flow.{Flow}
use Rattle.messages.specs.declared.records.Flow.TheVariants.{FromNode, ToNode}
use Rattle.messages.specs.declared.records.Record.{Record}
use Rattle.messages.specs.declared.state.State.{State}
use Rattle.messages.specs.LabelMessage.{label_move, label_moved, PlaceAsked, Asked}
use Rattle.messages.specs.Lows.{LowestFor, Knows, costs_for, low_beside, given_by, lows_moved}
use Rattle.messages.specs.Lent.{lent}
use Rattle.messages.specs.Step.{settle, settled_as}
use Rattle.messages.specs.Records.{to_node, label_message, label_taken}
use Rattle.messages.specs.State.{instance_in, limit_in, buffers_in, leaves}
use Rattle.messages.proofs.LabelMessageLaws.{place_in}
use Rattle.messages.proofs.LowTurns.{owner, costs_small, amount_for, moved_done, low_small, given_is, amount_small, amount_turned, turned_small, known_after}
use Rattle.messages.proofs.RecordLaws.{label_taken_lem, place_asked}
use Rattle.messages.proofs.StateLaws.{nodes_fit, labels_fit, label_left, good_after}
use Rattle.messages.proofs.state.State.move_label.Goals as goal
use Rattle.messages.proofs.state.State.move_label.Goals.{Start, After-place_of-place, After-either-of, After-lows-lows, After-cost_at-cost, After-given-amount, After-turn-p, After-shift_label, In_ok-shift_label}

-- at entry
module _ (q : Start) where
  abbrev s : State
  s = q.args.self.now

  place_asks : PlaceAsked (instance_in s) q.args.step.node q.args.step.index q.args.step.share
  place_asks = place_asked (instance_in s) q.args.step.node q.args.step.index q.args.step.share q.requires

  inside : first (instance_in s) q.args.step.node + q.args.step.index < s.run.now.sheet.positions
  inside = omega (arith, place_in (instance_in s) place_asks.node place_asks.position s.nodes.now (nodes_fit s).size, (nodes_fit s).size, sheet.positions_is s.run.now.sheet)

-- whose costs are asked for
asked : (I : Instance) (u place : ℕ) (f : Flow) → u < I.node_count → I.label place < 64 → Asked I f (owner I f u place)
asked I u place FromNode h g = h
asked I u place ToNode h g = g

pub place_of-place-requires : goal.place_of-place-requires
place_of-place-requires c = place_asks c

pub invariant_of-given : goal.invariant_of-given
invariant_of-given c = record { some = (place_asks (goal.at.invariant_of-given c).Start).some }

pub label-requires : goal.label-requires
label-requires c = rw c.place_of-place.ensures (inside (goal.at.label-requires c).Start)

pub lows-lows-requires : goal.lows-lows-requires
lows-lows-requires c =
    let q = (goal.at.lows-lows-requires c).Start in
    let I = instance_in (s q) in
    let u = q.args.step.node in
    let e = c.either-of.ensures ∙ ap (λ (l : ℕ). cond (to_node c.args.flow) l u) c.label.ensures.0 in
    let good = sheet.proper (s q).run.now.sheet in
    let k : I.label (first I u + q.args.step.index) < 64 = omega (arith, label_known_lem good (first I u + q.args.step.index) (omega (arith, inside q, sheet.positions_is (s q).run.now.sheet)) (place_asks q).exclusive, good.labels_few) in
    subst (Asked I c.args.flow) (sym e) (asked I u c.place_of-place.result c.args.flow (place_asks q).node (rw c.place_of-place.ensures k))

-- with the two least at hand; the State is that which looking for them left
module _ (p : After-lows-lows) where
  abbrev start : Start
  start = (goal.at.After-lows-lows p).Start

  abbrev now : State
  now = p.lows-lows.new.self

  abbrev I : Instance
  I = instance_in now

  abbrev r : Record
  r = start.args.step

  inst : I ≡ instance_in (s start)
  inst = λ j. instance_of (p.lows-lows.ensures.same.0.run j).now.sheet.bytes.now

  here : PlaceAsked I r.node r.index r.share
  here = subst (λ (J : Instance). PlaceAsked J r.node r.index r.share) (sym inst) (place_asks start)

  place_is : p.place_of-place.result ≡ first I r.node + r.index
  place_is = p.place_of-place.ensures ∙ ap (λ (J : Instance). first J r.node + r.index) (sym inst)

  owner_is : p.either-of.result ≡ owner I start.args.flow r.node (first I r.node + r.index)
  owner_is =
      p.either-of.ensures ∙ ap (λ (l : ℕ). cond (to_node start.args.flow) l r.node) p.label.ensures.0 ∙ ap₂ (λ (J : Instance) (k : ℕ). owner J start.args.flow r.node k) (sym inst) place_is

  low : LowestFor I now.nodes.now now.labels.now start.args.flow (owner I start.args.flow r.node (first I r.node + r.index)) p.lows-lows.result
  low = subst (λ (o : ℕ). LowestFor I now.nodes.now now.labels.now start.args.flow o p.lows-lows.result) owner_is p.lows-lows.ensures.lows

  sizes : (length now.nodes.now ≡ node_cells I) × (length now.labels.now ≡ node_cells I)
  sizes = ((nodes_fit now).size, (labels_fit now).size)

  in_range : first I r.node + r.index < node_cells I
  in_range = omega (arith, place_in I here.node here.position now.nodes.now sizes.0, sizes.0)

  abbrev cost : ℤ
  cost = costs_for start.args.flow now.nodes.now now.labels.now (first I r.node + r.index)

  cost_small : nat_abs cost ≤ cost_limit
  cost_small = costs_small start.args.flow now.nodes.now now.labels.now (first I r.node + r.index) (nodes_fit now).range (labels_fit now).range

  -- the amount, by the rules and as the two least give it
  abbrev amount : ℤ
  amount = amount_for I now.nodes.now now.labels.now start.args.flow r.node (first I r.node + r.index) r.share

  gives : given_by cost (low_beside p.lows-lows.result cost) r.share ≡ amount
  gives = given_is I now.nodes.now now.labels.now sizes (nodes_fit now).range (labels_fit now).range r.share here start.args.flow low

  small : nat_abs amount ≤ 2 ^ 41
  small = amount_small I now.nodes.now now.labels.now sizes (nodes_fit now).range (labels_fit now).range r.share here start.args.flow

pub cost_at-cost-requires : goal.cost_at-cost-requires
cost_at-cost-requires c = let p = (goal.at.cost_at-cost-requires c).After-lows-lows in rw (place_is p) (in_range p)

-- the cost was read
read : (p : After-cost_at-cost) → to_z w64 (of_z w64 p.cost_at-cost.result) ≡ cost (goal.at.After-cost_at-cost p).After-lows-lows
read p =
    let l = (goal.at.After-cost_at-cost p).After-lows-lows in
    same p.cost_at-cost.result p.cost_at-cost.type_inv ∙ p.cost_at-cost.ensures ∙ ap (costs_for p.args.flow (now l).nodes.now (now l).labels.now) (place_is l)

pub given-amount-requires : goal.given-amount-requires
given-amount-requires c =
    let p = (goal.at.given-amount-requires c).After-cost_at-cost in let l = (goal.at.After-cost_at-cost p).After-lows-lows in
    rw (read p) (cost_small l, low_small (I l) (now l).nodes.now (now l).labels.now (sizes l) (nodes_fit (now l)).range (labels_fit (now l)).range (r l).share (here l) c.args.flow (low l))

-- what it gives
module _ (p : After-given-amount) where
  abbrev old : After-lows-lows
  old = (goal.at.After-cost_at-cost (goal.at.After-given-amount p).After-cost_at-cost).After-lows-lows

  given : p.given-amount.result ≡ amount old
  given = p.given-amount.ensures ∙ ap (λ (z : ℤ). given_by z (low_beside p.lows-lows.result z) p.args.step.share) (read (goal.at.After-given-amount p).After-cost_at-cost) ∙ gives old

  told : to_z w64 (of_z w64 p.given-amount.result) ≡ amount old
  told = same p.given-amount.result p.given-amount.type_inv ∙ given

pub turn-p-requires : goal.turn-p-requires
turn-p-requires c = let p = (goal.at.turn-p-requires c).After-given-amount in rw (told p) (small (old p))

-- what goes from the node
module _ (p : After-turn-p) where
  abbrev by : After-given-amount
  by = (goal.at.After-turn-p p).After-given-amount

  turned : p.turn-p.result ≡ cond (to_node p.args.flow) (neg_ℤ (amount (old by))) (amount (old by))
  turned = p.turn-p.ensures ∙ ap (λ (z : ℤ). cond (to_node p.args.flow) (neg_ℤ z) z) (told by)

  told_turn : to_z w64 (of_z w64 p.turn-p.result) ≡ cond (to_node p.args.flow) (neg_ℤ (amount (old by))) (amount (old by))
  told_turn = same p.turn-p.result p.turn-p.type_inv ∙ turned

  asks : nat_abs (cond (to_node p.args.flow) (neg_ℤ (amount (old by))) (amount (old by))) ≤ 2 ^ 41
  asks = turned_small p.args.flow (amount (old by)) (small (old by))

pub shift_label-requires : goal.shift_label-requires
shift_label-requires c =
    let p = (goal.at.shift_label-requires c).After-turn-p in let l = old (by p) in
    record {
      i_in_bounds = rw (place_is l) (omega (arith, in_range l, (sizes l).0), omega (arith, in_range l, (sizes l).1));
      within = (nodes_fit (now l)).range;
      within_2 = (labels_fit (now l)).range;
      p_bound = rw (told_turn p) (asks p);
    }

-- the costs were moved, or not, by the rules
module _ (p : After-shift_label) where
  abbrev turn : After-turn-p
  turn = (goal.at.After-shift_label p).After-turn-p

  abbrev at : After-lows-lows
  at = old (by turn)

  moved : label_move (refused_in p.shift_label.result) p.shift_label.new.nodes p.shift_label.new.labels
      ≡ label_taken (I at) (limit_in (now at)) (now at).nodes.now (now at).labels.now (to_node p.args.flow) (r at).node (r at).index (r at).share
  moved =
      let l = now at in let f = p.args.flow in
      let place = first (I at) (r at).node + (r at).index in
      let legal = subst (λ (J : Instance). legal_position J (r at).node (r at).index (r at).share ≡ true) (sym (inst at)) (start at).requires in
      p.shift_label.ensures
      ∙ ap₂ (label_moved (limit_in l) l.nodes.now l.labels.now) (place_is at)
      (told_turn turn ∙ amount_turned (I at) l.nodes.now l.labels.now (sizes at) (nodes_fit l).range (labels_fit l).range (r at).share (here at) f)
      ∙ label_taken_lem (I at) (limit_in l) l.nodes.now l.labels.now (to_node f) (r at).node (r at).index (r at).share legal

  left : (let b = buffers_in (now at) in settle (lent p.shift_label.new.nodes p.shift_label.new.labels b.edges b.incumbent) 0 (refused_in p.shift_label.result) ≡ leaves (now at) (message (label_message p.args.flow)) (r at))
  left = label_left (now at) p.args.flow (r at) moved

  -- by the State at entry
  left_here : (let b = buffers_in (now at) in settle (lent p.shift_label.new.nodes p.shift_label.new.labels b.edges b.incumbent) 0 (refused_in p.shift_label.result) ≡ leaves (s (start at)) (message (label_message p.args.flow)) (r at))
  left_here =
      left ∙ (λ j. let run = p.lows-lows.ensures.same.0.run j in
      settled_as (instance_of run.now.sheet.bytes.now) run.now.limit.most (p.lows-lows.ensures.same.1 j) (message (label_message p.args.flow)) (r at).node (r at).index (r at).share)

pub invariant_of-self : goal.invariant_of-self
invariant_of-self c = let l = now (old (by c)) in record { held = l.held; lowered = l.lowered; knows = λ x e. cc e; good = l.good }

pub invariant_of-self-in-Break-1 : goal.invariant_of-self-in-Break-1
invariant_of-self-in-Break-1 c =
    let p = (goal.at.invariant_of-self-in-Break-1 c).After-shift_label in
    let l = now (at p) in record { held = l.held; lowered = l.lowered; knows = λ x e. cc e; good = good_after l (message (label_message c.args.flow)) (r (at p)) (left p) }

pub returns-in_err-shift_label-clause-left : goal.returns-in_err-shift_label-clause-left
returns-in_err-shift_label-clause-left c =
    let p = (goal.at.returns-in_err-shift_label-clause-left c).After-shift_label in
    let b = buffers_in (now (at p)) in
    ap (settle (lent p.shift_label.new.nodes p.shift_label.new.labels b.edges b.incumbent) 0) (handed _ c.from_residual.result c.from_residual.ensures.1 ∙ sym (ap refused_in c.in_err-shift_label.was)) ∙ left_here p

-- the costs were moved
module _ (o : In_ok-shift_label) where
  abbrev p : After-shift_label
  p = (goal.at.In_ok-shift_label o).After-shift_label

  abbrev a : After-given-amount
  a = by (turn p)

  abbrev l : After-lows-lows
  l = old a

  abbrev place : ℕ
  place = first (I l) (r l).node + (r l).index

  -- how far
  fits : SFits w64 (cost l -ℤ amount l)
  fits = omega (linear, sub (cost l) (amount l), abs (cost l), abs (amount l), cost_small l, small l)

  -- what is known of them
  abbrev out : ℤ
  out = to_z w64 (of_z w64 o.turn-p.result)

  done : (o.shift_label.new.nodes ≡ add_at (now l).nodes.now place (neg_ℤ out)) × (o.shift_label.new.labels ≡ add_at (now l).labels.now place out)
  done =
      let d = moved_done (limit_in (now l)) (now l).nodes.now (now l).labels.now o.place_of-place.result out o.in_ok-shift_label.ensures in
      (d.0 ∙ ap (λ (i : ℕ). add_at (now l).nodes.now i (neg_ℤ out)) (place_is l), d.1 ∙ ap (λ (i : ℕ). add_at (now l).labels.now i out) (place_is l))

  known : LowestFor (I l) o.shift_label.new.nodes o.shift_label.new.labels o.args.flow o.either-of.result (lows_moved o.lows-lows.result (cost l) (cost l -ℤ amount l))
  known =
      let k = known_after (I l) (now l).nodes.now (now l).labels.now (sizes l) (nodes_fit (now l)).range (labels_fit (now l)).range (r l).share (here l) o.args.flow (low l) out
      (told_turn (turn p) ∙ ap (λ (z : ℤ). cond (to_node o.args.flow) (neg_ℤ z) z) (sym (gives l))) in
      transport (λ j. LowestFor (I l) (sym done.0 j) (sym done.1 j) o.args.flow (sym (owner_is l) j) (lows_moved o.lows-lows.result (cost l) (cost l -ℤ gives l j))) k

pub overflow_sub-cost : goal.overflow_sub-cost
overflow_sub-cost c = rw (read (goal.at.After-given-amount (a c)).After-cost_at-cost, told (a c)) (fits c)

pub invariant_of-self-2 : goal.invariant_of-self-2
invariant_of-self-2 c =
    let o = (goal.at.invariant_of-self-2 c).In_ok-shift_label in
    let x = now (l o) in
    let read_cost = read (goal.at.After-given-amount (a o)).After-cost_at-cost in
    let apart : to_z w64 (of_z w64 (to_z w64 (of_z w64 c.cost_at-cost.result) -ℤ to_z w64 (of_z w64 c.given-amount.result))) ≡ cost (l o) -ℤ amount (l o) = rw (read_cost, told (a o)) (to_z-of_z (fits o)) in
    let found = c.moved-lows.ensures ∙ ap₂ (lows_moved c.lows-lows.result) read_cost apart in
    record {
      held = x.held;
      lowered = x.lowered;
      knows = λ k e. let q : record { flow = c.args.flow; of = c.either-of.result; lows = c.moved-lows.result } ≡ k = cc e in
          subst (Knows (I (l o)) c.shift_label.new.nodes c.shift_label.new.labels) q
          (subst (LowestFor (I (l o)) c.shift_label.new.nodes c.shift_label.new.labels c.args.flow c.either-of.result) (sym found) (known o));
      good = good_after x (message (label_message c.args.flow)) (r (l o)) (left (p o));
    }

pub returns-clause-left : goal.returns-clause-left
returns-clause-left c =
    let o = (goal.at.returns-clause-left c).In_ok-shift_label in
    let b = buffers_in (now (l o)) in
    ap (settle (lent o.shift_label.new.nodes o.shift_label.new.labels b.edges b.incumbent) 0) (sym (ap refused_in c.in_ok-shift_label.was)) ∙ left_here (p o)
