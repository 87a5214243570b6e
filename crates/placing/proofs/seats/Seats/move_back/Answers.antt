-- `move_back` meets its contract: each turn is a move of `Returning`.
use Prim.Native.Nat.{ℕ, ◌≤◌, ◌<◌}
use mathlib.Core.Path.{◌≡◌, refl, sym, ap, ap₂, ◌∙◌, subst}
use mathlib.Core.List.{List}
use native.Mathlib.Omega.{arith}
use lib.IntN.{ℤ}
use lib.ListN.{set}
use Rattle.placing.specs.declared.paths.Paths.{Paths}
use Rattle.placing.specs.declared.tables.Nodes.{Nodes}
use Rattle.integers.specs.Words.{bit}
use Rattle.placing.specs.Words.{entry, Linked, Joined}
use Rattle.placing.specs.Paths.{by_of, Trace, Opening}
use Rattle.placing.proofs.Reaching.{by_small}
use Rattle.placing.proofs.Returning.{move_node, move_has, move_step, move_small, move_away, move_free, moved, root_has, root_away, moved_done}
use Rattle.placing.proofs.seats.Seats.move_back.Goals as goal
use Rattle.placing.proofs.seats.Seats.move_back.Goals.{At-loop-step, In-loop-step, After-from-i, After-from-holder, After-leave, After-from-in-loop-step, After-loop-step}

-- the tables so far, by the nodes that were there at the start
module _ (c : At-loop-step) where
  abbrev N : Nodes
  N = c.args.self.now.nodes.now

  abbrev p : Paths
  p = c.args.paths.now

  abbrev cost : ℕ → ℕ → ℤ
  cost = c.requires.0

  abbrev out : ℕ
  out = c.requires.1

  trace : Trace N.sets N.own cost p
  trace = c.requires.2

  open_now : Opening N.count out N.sets N.own cost p c.loop-step.self.taken c.loop-step.self.free c.loop-step.l
  open_now = c.loop-step.invariant.2 cost out c.requires.2 c.requires.3

  linked : Linked N.sets c.loop-step.self.taken c.loop-step.self.holders c.loop-step.self.reach c.loop-step.self.free
  linked = subst (λ n. Linked n.sets c.loop-step.self.taken c.loop-step.self.holders c.loop-step.self.reach c.loop-step.self.free) c.loop-step.invariant.0 c.loop-step.self.linked

-- the step of a turn
module _ (c : In-loop-step) where
  abbrev h : At-loop-step
  h = (goal.at.In-loop-step c).At-loop-step

  some : 0 < c.loop-step.step
  some = omega (arith, c.loop-step-test.true)

  room : c.loop-step.step < 64
  room = move_step (trace h) (linked h) (open_now h) c.loop-step.invariant.1 some

holder : (c : After-from-holder) → c.from-holder.result ≡ entry c.args.paths.now.nodes c.loop-step.step
holder c = c.from-holder.ensures ∙ ap (entry c.args.paths.now.nodes) c.from-i.ensures

holder_few : (c : After-from-holder) → c.from-holder.result < 64
holder_few c =
    let t = (goal.at.After-from-holder c).In-loop-step in
    subst (λ (u : ℕ). u < 64) (sym (holder c)) (move_node (trace (h t)) (linked (h t)) (open_now (h t)) c.loop-step.invariant.1 (some t))

next : (c : After-from-i) → entry c.args.paths.now.labels c.from-i.result ≡ entry c.args.paths.now.labels c.loop-step.step
next c = ap (entry c.args.paths.now.labels) c.from-i.ensures

next_small : (c : After-from-i) → entry c.args.paths.now.labels c.from-i.result < 64
next_small c =
    let t = (goal.at.After-from-i c).In-loop-step in
    let e = next c in omega (arith, move_small (trace (h t)) (linked (h t)) (open_now (h t)) c.loop-step.invariant.1 (some t))

pub loop-step-init : goal.loop-step-init
loop-step-init c =
    let p = c.args.paths.now in
    (refl, ap (entry p.by) c.from.ensures ∙ sym (by_small p c.requires.3.small), λ cost out t v. v)

pub bounds-paths-from : goal.bounds-paths-from
bounds-paths-from c = let s = c.requires.3.small in omega (arith, c.from.ensures)

pub bounds-paths-i : goal.bounds-paths-i
bounds-paths-i c = let t = (goal.at.bounds-paths-i c).In-loop-step in omega (arith, c.from-i.ensures, room t)

pub bounds-paths-i-in-loop-step : goal.bounds-paths-i-in-loop-step
bounds-paths-i-in-loop-step c = let t = (goal.at.bounds-paths-i-in-loop-step c).In-loop-step in omega (arith, c.from-i.ensures, room t)

pub bounds-paths-from-in-loop-step : goal.bounds-paths-from-in-loop-step
bounds-paths-from-in-loop-step c = let s = next_small (goal.at.bounds-paths-from-in-loop-step c).After-from-i in omega (arith, c.from-in-loop-step.ensures)

pub leave-requires : goal.leave-requires
leave-requires c = holder_few (goal.at.leave-requires c).After-from-holder

-- what the holder leaves
left : (c : After-leave) → Joined c.loop-step.self.free (entry c.loop-step.self.taken (entry c.args.paths.now.nodes c.loop-step.step)) c.leave.new.self.free
left c = subst (λ u. Joined c.loop-step.self.free (entry c.loop-step.self.taken u) c.leave.new.self.free) (holder (goal.at.After-leave c).After-from-holder) c.leave.ensures.free

gone : (c : After-leave) → c.leave.new.self.taken ≡ set c.loop-step.self.taken (entry c.args.paths.now.nodes c.loop-step.step) 255
gone c = c.leave.ensures.taken ∙ ap (λ (u : ℕ). set c.loop-step.self.taken u 255) (holder (goal.at.After-leave c).After-from-holder)

pub give-requires : goal.give-requires
give-requires c =
    let x = (goal.at.give-requires c).After-leave in
    let e = holder (goal.at.give-requires c).After-from-holder in
    let t = (goal.at.give-requires c).In-loop-step in
    let b = c.loop-step.invariant.1 in (
      holder_few (goal.at.give-requires c).After-from-holder,
      (open_now (h t)).small,
      subst (λ u. 64 ≤ entry c.leave.new.self.taken u) (sym e) (move_away (trace (h t)) (linked (h t)) (open_now (h t)) b (some t) (gone x)),
      move_free (trace (h t)) (linked (h t)) (open_now (h t)) b (some t) (left x),
      ap₂ (λ (n : Nodes) (u : ℕ). bit (entry n.sets u) c.loop-step.l) (c.leave.ensures.same ∙ c.loop-step.invariant.0) e ∙ move_has (trace (h t)) (linked (h t)) (open_now (h t)) b (some t),
    )

-- the step from which the holder's label was found
earlier : (c : After-from-in-loop-step) → entry c.args.paths.now.by c.from-in-loop-step.result ≡ by_of c.args.paths.now (entry c.args.paths.now.labels c.from-i.result)
earlier c = ap (entry c.args.paths.now.by) c.from-in-loop-step.ensures ∙ sym (by_small c.args.paths.now (next_small (goal.at.After-from-in-loop-step c).After-from-i))

pub loop-step-smaller : goal.loop-step-smaller
loop-step-smaller c =
    let t = (goal.at.loop-step-smaller c).In-loop-step in
    let e = earlier (goal.at.loop-step-smaller c).After-from-in-loop-step in
    let n = ap (by_of c.args.paths.now) (next (goal.at.loop-step-smaller c).After-from-i) in
    omega (arith, (trace (h t)).after c.loop-step.step (some t) (let b = c.loop-step.invariant.1 in omega (arith, (open_now (h t)).link.0)))

pub loop-step-preserved : goal.loop-step-preserved
loop-step-preserved c =
    let x = (goal.at.loop-step-preserved c).After-leave in
    let y = (goal.at.loop-step-preserved c).After-from-holder in
    let t = (goal.at.loop-step-preserved c).In-loop-step in
    let N = c.args.self.now.nodes.now in
    let s = c.give.new.self in (
      c.give.ensures.same ∙ c.leave.ensures.same ∙ c.loop-step.invariant.0,
      earlier (goal.at.loop-step-preserved c).After-from-in-loop-step,
      λ cost out tr v. subst (Opening N.count out N.sets N.own cost c.args.paths.now s.taken s.free) (sym (next (goal.at.loop-step-preserved c).After-from-i))
          (moved tr (linked (h t)) (c.loop-step.invariant.2 cost out tr v) c.loop-step.invariant.1 (some t) (left x)
          (c.give.ensures.taken ∙ ap₂ (λ (t : List ℕ) (u : ℕ). set t u c.loop-step.l) (gone x) (holder y)) c.give.ensures.free),
    )

-- no step is left
ended : (c : After-loop-step) → by_of c.args.paths.now c.loop-step.l ≡ 0
ended c = sym c.loop-step.invariant.1 ∙ c.loop-step-test.false

pub give-requires-2 : goal.give-requires-2
give-requires-2 c =
    let t = (goal.at.give-requires-2 c).At-loop-step in
    let z = ended (goal.at.give-requires-2 c).After-loop-step in
    let e = c.from-root.ensures in (
      subst (λ (u : ℕ). u < 64) (sym e) (let v = open_now t in omega (arith, v.node, v.few)),
      (open_now t).small,
      subst (λ u. 64 ≤ entry c.loop-step.self.taken u) (sym e) (root_away (trace t) (linked t) (open_now t) z),
      (open_now t).here,
      ap₂ (λ (n : Nodes) (u : ℕ). bit (entry n.sets u) c.loop-step.l) c.loop-step.invariant.0 e ∙ root_has (trace t) (linked t) (open_now t) z,
    )

pub returns-clause-placed : goal.returns-clause-placed
returns-clause-placed c cost out tr v =
    let t = (goal.at.returns-clause-placed c).At-loop-step in
    moved_done tr (linked t) (c.loop-step.invariant.2 cost out tr v) (ended (goal.at.returns-clause-placed c).After-loop-step)
    (c.give-2.ensures.taken ∙ ap (λ (u : ℕ). set c.loop-step.self.taken u c.loop-step.l) c.from-root.ensures) c.give-2.ensures.free
