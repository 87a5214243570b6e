-- `weigh` meets its contract: what falls toward its least needs no test.
use Rattle.std.proofs.Common.{◌≡◌, ℕ, ◌^◌, Bool, true, not, ◌&&◌, List, ℤ, sym, ap, ◌∙◌, subst}
use denote.Enum.Bare.{sameb}
use Rattle.integers.specs.Sum.{Within}
use Rattle.integers.specs.Places.{every}
use Rattle.integers.specs.Checks.{within}
use Rattle.messages.specs.declared.edge_message.Joint.{Joint}
use Rattle.messages.specs.contracts.records.Flow.{the_type as flow_type}
use Rattle.messages.specs.declared.records.Flow.{Flow}
use Rattle.messages.specs.declared.records.Flow.TheVariants.{FromNode, ToNode}
use Rattle.messages.specs.EdgeMessage.{by_rows, moved_row}
use Rattle.messages.specs.Joints.{given_in, cells_with, fit_in}
use Rattle.messages.proofs.EdgeLaws.{node_within, edge_within}
use Rattle.messages.proofs.FallLaws.{row_falls, cells_fall}
use Rattle.messages.proofs.edge_message.Joint.weigh.Goals as goal
use Rattle.messages.proofs.edge_message.Joint.weigh.Goals.{After-give-rises, then-eq, else-eq, Then-row_fits}

given_small : (j : Joint) (flow : Flow) (r : ℕ) → Within (2 ^ 41) (given_in j flow r)
given_small j FromNode r = node_within j.row.now r j.joined.row_range
given_small j ToNode r = edge_within (by_rows j.end) j.own.now j.other.now j.cells.now r j.joined.cell_range

small : (c : After-give-rises) → Within (2 ^ 41) c.give-rises.new.each
small c = subst (Within (2 ^ 41)) (sym c.give-rises.ensures.given) (given_small c.args.self.now c.args.flow c.args.share.parts)

pub invariant_of-amounts : goal.invariant_of-amounts
invariant_of-amounts c = record { small = small (goal.at.invariant_of-amounts c).After-give-rises }

pub invariant_of-amounts-else-not-rises : goal.invariant_of-amounts-else-not-rises
invariant_of-amounts-else-not-rises c = record { small = small (goal.at.invariant_of-amounts-else-not-rises c).After-give-rises }

-- a node that gives: its costs fall
falls : (j : Joint) (limit r : ℕ) (flow : Flow) → sameb flow_type flow FromNode ≡ true → Within limit j.row.now → every (within limit) (moved_row (given_in j flow r) j.row.now) ≡ true
falls j limit r FromNode e h = row_falls limit j.row.now r j.joined.few h
falls j limit r ToNode e h = cc e

-- the row's costs stay
module _ (p : Then-row_fits) where
  abbrev j : Joint
  j = p.args.self.now

  abbrev limit : ℕ
  limit = p.args.limit.most

  abbrev v : List ℤ
  v = given_in j p.args.flow p.args.share.parts

  row_stays : every (within limit) (moved_row v j.row.now) ≡ true
  row_stays = elim p.if-eq.branch [
    | then-eq w ↦ falls j limit p.args.share.parts p.args.flow (sym p.eq.ensures ∙ w.if-eq.true) p.requires.within.of_nodes
    | else-eq w ↦ ap (λ (l : List ℤ). every (within limit) (moved_row l j.row.now)) (sym p.give-rises.ensures.given) ∙ sym w.row_fits.ensures ∙ sym w.value-is ∙ p.if-row_fits.true
  ]

  -- so the cells decide
  cells_decide : {t : Bool} → t ≡ every (within limit) (cells_with j v) → t ≡ fit_in j limit v
  cells_decide e = e ∙ sym (ap (λ (t : Bool). t && every (within limit) (cells_with j v)) row_stays)

pub returns-then-not-rises-clause-fits : goal.returns-then-not-rises-clause-fits
returns-then-not-rises-clause-fits c =
    let p = (goal.at.returns-then-not-rises-clause-fits c).Then-row_fits in
    let a = c.give-rises.ensures.above c.if-not-rises.true in
    ap not c.if-not-rises.true
    ∙ cells_decide p (subst (λ (f : Flow). true ≡ every (within (limit p)) (cells_with (j p) (given_in (j p) f c.args.share.parts))) (sym a.0)
    (sym (cells_fall (j p) a.1 (limit p) c.requires.within.of_edges c.args.share.parts)))

pub returns-else-not-rises-clause-fits : goal.returns-else-not-rises-clause-fits
returns-else-not-rises-clause-fits c =
    let p = (goal.at.returns-else-not-rises-clause-fits c).Then-row_fits in
    cells_decide p (c.cells_fit.ensures ∙ ap (λ (l : List ℤ). every (within (limit p)) (cells_with (j p) l)) c.give-rises.ensures.given)
