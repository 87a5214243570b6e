-- `shift` meets its contract: each turn is one of `Moving`.
use Prim.Native.Nat.{ℕ, ◌-◌}
use mathlib.Core.Path.{◌≡◌, sym, ap, ap₂, ◌∙◌, subst}
use mathlib.Core.List.{List}
use native.Mathlib.Omega.{arith}
use lib.ListN.{set}
use Rattle.placing.specs.Words.{entry, Linked}
use Rattle.placing.proofs.Moving.{moving_small, moving_past, moving_more, moving_done, from_small, holder_few, holder_has, still_free, left_unplaced, root_has}
use Rattle.placing.proofs.seats.Seats.shift.Goals as goal
use Rattle.placing.proofs.seats.Seats.shift.Goals.{After-from-holder}

-- who holds the label by way of which l was found
held : (t : After-from-holder) → t.from-holder.result ≡ entry t.loop-i.self.holders (entry t.args.steps.now.by (t.loop-i.i - 1))
held t = t.from-holder.ensures ∙ ap (entry t.loop-i.self.holders) t.from.ensures

pub bounds-self-from : goal.bounds-self-from
bounds-self-from c =
    let (start, before, a, m) = c.requires in
    rw c.from.ensures (from_small a m (c.loop-i.invariant.1 start before a m) c.loop-i-test.true (sym c.has.ensures ∙ c.if-has.true))

pub leave-requires : goal.leave-requires
leave-requires c =
    let (start, before, a, m) = c.requires in
    holder_few a m (c.loop-i.invariant.1 start before a m) c.loop-i-test.true (sym c.has.ensures ∙ c.if-has.true) (held (goal.at.leave-requires c).After-from-holder)

pub give-requires : goal.give-requires
give-requires c =
    let (start, before, a, m) = c.requires in
    let v = c.loop-i.invariant.1 start before a m in
    let h = c.loop-i-test.true in
    let e = sym c.has.ensures ∙ c.if-has.true in
    let g = held (goal.at.give-requires c).After-from-holder in (
      holder_few a m v h e g,
      moving_small a m v,
      left_unplaced a m v h e g c.leave.ensures.taken,
      still_free a m v h e g c.leave.ensures.free,
      rw (c.leave.ensures.same, c.loop-i.invariant.0) (holder_has a m v h e g),
    )

pub loop-i-preserved-then-has : goal.loop-i-preserved-then-has
loop-i-preserved-then-has c =
    let same = c.leave.ensures.same ∙ c.loop-i.invariant.0 in
    let new = c.give.new.self in (
      c.give.ensures.same ∙ same,
      λ start before a m. moving_more a m (c.loop-i.invariant.1 start before a m) c.loop-i-test.true (sym c.has.ensures ∙ c.if-has.true) (held (goal.at.loop-i-preserved-then-has c).After-from-holder) c.leave.ensures.free
          (c.give.ensures.taken ∙ ap (λ (t : List ℕ). set t c.from-holder.result c.loop-i.l) c.leave.ensures.taken)
          (c.give.ensures.reach ∙ ap₂ (λ (r s : List ℕ). set r c.loop-i.l (entry s c.from-holder.result)) c.leave.ensures.reach (ap (λ n. n.sets) same))
          c.give.ensures.free
          (subst (λ n. Linked n.sets new.taken new.holders new.reach new.free) (c.give.ensures.same ∙ same) new.linked),
    )

pub loop-i-preserved : goal.loop-i-preserved
loop-i-preserved c = (c.loop-i.invariant.0, λ start before a m. moving_past a m (c.loop-i.invariant.1 start before a m) c.loop-i-test.true (sym c.has.ensures ∙ c.if-has.false))

pub give-requires-2 : goal.give-requires-2
give-requires-2 c =
    let (start, before, a, m) = c.requires in
    let v = c.loop-i.invariant.1 start before a m in
    let z : c.loop-i.i ≡ 0 = omega (arith, c.loop-i-test.false) in
    (a.node, moving_small a m v, v.unplaced, v.here, rw (c.loop-i.invariant.0) (root_has a m v z))

pub returns-clause-placed : goal.returns-clause-placed
returns-clause-placed c start before a m = moving_done a m (c.loop-i.invariant.1 start before a m) (omega (arith, c.loop-i-test.false)) c.args.self.now.linked c.give-2.ensures.taken
