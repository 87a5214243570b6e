-- `round_record` meets its contract: a record that names something is refused, and any other rounds; what was found may replace the incumbent.
use Rattle.std.proofs.Common.{◌≡◌, ◌≤◌, Some, length, sym, ◌∙◌, arith, length-take-le}
use Rattle.instance.specs.Instance.{Instance}
use Rattle.instance.specs.Sheet.{instance_of}
use Rattle.instance.specs.declared.sheet.Sheet.{Sheet}
use Rattle.instance.proofs.Sheets as sheet
use Rattle.rules.specs.Costs.{Costs}
use Rattle.rules.specs.Assigned.{Way, candidate}
use Rattle.rules.specs.Run.{rounding}
use Rattle.messages.specs.RoundRecord.{round_move, round_left, round_taken}
use Rattle.messages.specs.Rounded.{costs_by}
use Rattle.messages.specs.Records.{way_of}
use Rattle.placing.specs.Assigning.{rounded_by}
use Rattle.messages.specs.State.{instance_in}
use Rattle.messages.proofs.RoundRecordLaws.{taken_rounds, taken_refused, places_long, stuck_left, found_labelling, found_left}
use Rattle.messages.proofs.StateLaws.{kept_fits, rounding_left, good_after}
use Rattle.messages.proofs.state.State.round_record.Goals as goal
use Rattle.messages.proofs.state.State.round_record.Goals.{After-adopt, Else-not-names_nothing, In-Some, Start}

-- a record that names nothing rounds
module _ (p : Else-not-names_nothing) where
  abbrev begin : Start
  begin = (goal.at.Else-not-names_nothing p).Start

  rounds : (let s = begin.args.self.now in let r = begin.args.step in
      round_left (instance_in s) (candidate (instance_in s) (costs_by s.nodes.now s.edges.now) (way_of begin.args.way)) s.incumbent.now ≡ round_taken (instance_in s) s.nodes.now s.edges.now s.incumbent.now (way_of begin.args.way) r.node r.index r.share)
  rounds =
      let s = begin.args.self.now in let r = begin.args.step in
      taken_rounds (instance_in s) s.nodes.now s.edges.now s.incumbent.now (way_of begin.args.way) r.node r.index r.share (sym p.names_nothing.ensures ∙ p.if-not-names_nothing.false)

-- where a rounding was made
module _ (p : In-Some) where
  abbrev start : Start
  start = (goal.at.In-Some p).Start

  abbrev x : Sheet
  x = start.args.self.now.run.now.sheet

  abbrev I : Instance
  I = instance_of x.bytes.now

  abbrev costs : Costs
  costs = costs_by start.args.self.now.nodes.now start.args.self.now.edges.now

  abbrev way : Way
  way = way_of start.args.way

  made : Some p.in-Some.x ≡ rounded_by (candidate I costs way)
  made = p.in-Some.ensures

  same : x.nodes ≡ I.node_count
  same = sheet.nodes_is x

  few : x.nodes ≤ 64
  few = sheet.nodes_few x

  room : x.nodes ≤ length p.in-Some.x
  room = omega (arith, few, places_long I costs way x.nodes same few p.in-Some.x made)

pub slice_bounds-x-end : goal.slice_bounds-x-end
slice_bounds-x-end c = room (goal.at.slice_bounds-x-end c).In-Some

pub slice_bounds-found-end : goal.slice_bounds-found-end
slice_bounds-found-end c =
    let p = (goal.at.slice_bounds-found-end c).In-Some in sym (length-take-le (x p).nodes c.in-Some.x (room p))

pub invariant_of-found : goal.invariant_of-found
invariant_of-found c =
    let p = (goal.at.invariant_of-found c).In-Some in record { labelling = found_labelling (I p) (costs p) (way p) (x p).nodes (same p) (few p) c.in-Some.x (made p) }

-- what was found is adopted
adopted : (a : After-adopt) → (let s = a.args.self.now in let r = a.args.step in
    round_move a.adopt.new.incumbent 0 0 ≡ round_taken (instance_in s) s.nodes.now s.edges.now s.incumbent.now (way_of a.args.way) r.node r.index r.share)
adopted a =
    let p = (goal.at.After-adopt a).In-Some in
    found_left (I p) (costs p) (way p) (x p).nodes (same p) (few p) a.in-Some.x (made p) a.args.self.now.incumbent.now _ a.adopt.ensures ∙ rounds (goal.at.After-adopt a).Else-not-names_nothing

pub adopt-requires : goal.adopt-requires
adopt-requires c = kept_fits c.args.self.now

pub invariant_of-self : goal.invariant_of-self
invariant_of-self c = record { held = c.args.self.now.held; lowered = c.args.self.now.lowered; knows = c.args.self.now.knows; good = good_after c.args.self.now (rounding (way_of c.args.way)) c.args.step (rounding_left c.args.self.now (way_of c.args.way) c.args.step (adopted (goal.at.invariant_of-self c).After-adopt)) }

pub returns-then-not-names_nothing-clause-left : goal.returns-then-not-names_nothing-clause-left
returns-then-not-names_nothing-clause-left c =
    let s = c.args.self.now in let r = c.args.step in
    rounding_left s (way_of c.args.way) r (taken_refused (instance_in s) s.nodes.now s.edges.now s.incumbent.now (way_of c.args.way) r.node r.index r.share (sym c.names_nothing.ensures ∙ c.if-not-names_nothing.true))

pub returns-in_default-clause-left : goal.returns-in_default-clause-left
returns-in_default-clause-left c =
    let s = c.args.self.now in
    rounding_left s (way_of c.args.way) c.args.step
    (stuck_left (instance_in s) (candidate (instance_in s) (costs_by s.nodes.now s.edges.now) (way_of c.args.way)) s.incumbent.now c.in_default.ensures ∙ rounds (goal.at.returns-in_default-clause-left c).Else-not-names_nothing)

pub returns-clause-left : goal.returns-clause-left
returns-clause-left c = rounding_left c.args.self.now (way_of c.args.way) c.args.step (adopted (goal.at.returns-clause-left c).After-adopt)
