-- `round_all` meets its contract, by the laws of its turns.
use Rattle.std.proofs.Common.{◌≡◌, ℕ, ◌+◌, ◌<◌, Some, get_or, take, sym, ap, ◌∙◌, arith}
use Rattle.instance.specs.Instance.{Instance, first}
use Rattle.instance.specs.Sheet.{instance_of}
use Rattle.instance.specs.declared.sheet.Sheet.{Sheet}
use Rattle.instance.proofs.Sheets as sheet
use Rattle.rules.specs.Rounding.{choice}
use Rattle.messages.specs.Rounded.{costs_by, or_none}
use Rattle.messages.proofs.RoundTurns.{round_start, round_done, choice_read, round_stop, position_inside, round_turn}
use Rattle.messages.proofs.state.State.round_all.Goals as goal
use Rattle.messages.proofs.state.State.round_all.Goals.{After-choose, In_ok-k, Start}

-- where the choice is made: the choice of the rules
module _ (p : After-choose) where
  abbrev q : Start
  q = (goal.at.After-choose p).Start

  abbrev s : Sheet
  s = q.args.self.now.run.now.sheet

  abbrev I : Instance
  I = instance_of s.bytes.now

  abbrev u : ℕ
  u = p.loop-u.u

  few : u < 64
  few = omega (arith, p.loop-u-test.true, sheet.nodes_few s)

  begins : get_or s.starts u 0 ≡ first I u
  begins = sheet.start_is s p.loop-u-test.true

  picked : p.choose.result ≡ or_none (choice I (costs_by q.args.self.now.nodes.now q.args.self.now.edges.now) (take u p.loop-u.x) u)
  picked = p.choose.ensures ∙ choice_read s q.args.self.now.nodes.now q.args.self.now.edges.now p.loop-u.invariant p.loop-u-test.true p.keys_of-keys.ensures

-- a choice
module _ (o : In_ok-k) where
  abbrev p : After-choose
  p = (goal.at.In_ok-k o).After-choose

  abbrev k : ℕ
  k = o.in_ok-k.k

  made : Some k ≡ or_none (choice (I p) (costs_by (q p).args.self.now.nodes.now (q p).args.self.now.edges.now) (take (u p) p.loop-u.x) (u p))
  made = sym o.in_ok-k.was ∙ picked p

  position : k < (I p).degree (u p)
  position = position_inside (s p) (q p).args.self.now.nodes.now (q p).args.self.now.edges.now p.loop-u.invariant p.loop-u-test.true made

  inside : get_or (s p).starts (u p) 0 + k < (s p).positions
  inside = omega (arith, position, begins p, sheet.row_here (s p) p.loop-u-test.true)

pub loop-u-init : goal.loop-u-init
loop-u-init c = round_start c.args.self.now.run.now.sheet.bytes.now c.args.self.now.run.now.sheet.nodes c.args.self.now.nodes.now c.args.self.now.edges.now

pub returns-in_err-k : goal.returns-in_err-k
returns-in_err-k c =
    let p = (goal.at.returns-in_err-k c).After-choose in
    c.from_residual.ensures
    ∙ round_stop (s p) (q p).args.self.now.nodes.now (q p).args.self.now.edges.now p.loop-u.invariant p.loop-u-test.true (sym c.in_err-k.was ∙ picked p)

pub overflow_cast-x : goal.overflow_cast-x
overflow_cast-x c =
    let o = (goal.at.overflow_cast-x c).In_ok-k in omega (arith, position o, sheet.degree_few (s (p o)) (p o).loop-u-test.true)

pub bounds-x-u : goal.bounds-x-u
bounds-x-u c = few (goal.at.bounds-x-u c).After-choose

pub offset_bounds-sheet-u : goal.offset_bounds-sheet-u
offset_bounds-sheet-u c = omega (arith, few (goal.at.offset_bounds-sheet-u c).After-choose)

pub bounds-sheet-u : goal.bounds-sheet-u
bounds-sheet-u c = few (goal.at.bounds-sheet-u c).After-choose

pub overflow_add-sheet : goal.overflow_add-sheet
overflow_add-sheet c =
    let o = (goal.at.overflow_add-sheet c).In_ok-k in omega (arith, inside o, sheet.positions_few (s (p o)))

pub label-label-requires : goal.label-label-requires
label-label-requires c = inside (goal.at.label-label-requires c).In_ok-k

pub loop-u-preserved : goal.loop-u-preserved
loop-u-preserved c =
    let o = (goal.at.loop-u-preserved c).In_ok-k in let t = p o in
    round_turn (s t) (q t).args.self.now.nodes.now (q t).args.self.now.edges.now t.loop-u.invariant t.loop-u-test.true (made o) (c.label-label.ensures.0 ∙ ap (λ (a : ℕ). (I t).label (a + k o)) (begins t)) c.exclusive.ensures

pub returns : goal.returns
returns c = round_done c.args.self.now.run.now.sheet c.args.self.now.nodes.now c.args.self.now.edges.now c.loop-u.invariant c.loop-u-test.false
