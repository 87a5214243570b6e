-- `lower` meets its contract: whether or not another node takes the label that u leaves, what the searches bar no placing gives u.
use Prim.Native.Nat.{ℕ, ◌≤◌, ◌<◌}
use mathlib.Core.Path.{◌≡◌, sym, ap, ◌∙◌, subst, transport}
use mathlib.Core.Bool.{true, false}
use mathlib.Core.List.{List}
use native.Mathlib.Omega.{arith}
use lib.Bits.{bit_or}
use Rattle.integers.specs.Words.{bit}
use Rattle.placing.specs.declared.seats.Seats.{Seats}
use Rattle.placing.specs.Words.{entry, flag, Below, Linked, Out, Spent, Tried}
use Rattle.placing.proofs.Linking.{linked_as}
use Rattle.placing.proofs.Settling.{lowest_stays, left_same, left_out, under_same, out_idle, aimed_open, lowest_open, lowest_owed}
use Rattle.placing.proofs.seats.Seats.lower.Goals as goal
use Rattle.placing.proofs.seats.Seats.lower.Goals.{After-loose-loose, then-owed+in_default, else-owed}

pub returns-then-not-has_below-clause-lowest : goal.returns-then-not-has_below-clause-lowest
returns-then-not-has_below-clause-lowest c = let (v, below) = c.requires in lowest_stays c.args.self.now.linked v below (c.has_below.ensures c.if-not-has_below.true)

pub fill-requires : goal.fill-requires
fill-requires c =
    let s = c.args.self.now in let u = c.args.u in let idle = c.args.terms.now.idle in let (v, below) = c.requires in
    let e = c.leave.ensures.same in let f = c.leave.ensures.taken in
    let (small, asked) = c.must_stay-owed.ensures.stays c.if-owed.true in
    transport (λ j. (u < (sym e j).count) × (entry s.taken u < 64) × (bit idle (entry s.taken u) ≡ false)
    × Out (sym e j).count (sym e j).own idle (entry s.taken u) u (sym f j) × Below c.args.terms.now.closed u (sym f j))
    (below, small, asked, left_out s.linked v below, under_same s.linked v below (linked_as (ap (λ n. n.sets) e) f c.leave.new.self.linked) (left_same s.linked v below))

pub returns-in-Err-clause-lowest : goal.returns-in-Err-clause-lowest
returns-in-Err-clause-lowest c =
    let s = c.args.self.now in let n = s.nodes.now in let u = c.args.u in let (v, below) = c.requires in
    let e = c.leave.ensures.same in let f = c.leave.ensures.taken in
    let (small, asked) = c.must_stay-owed.ensures.stays c.if-owed.true in
    let spent = c.in-Err.ensures.spent in
    let m = entry s.taken u in
    lowest_owed s.linked v below (linked_as (ap (λ n. n.sets) e) f c.leave.new.self.linked) (left_same s.linked v below) small asked (left_out s.linked v below)
    (transport (λ j. Spent (e j).sets (f j) c.args.terms.now.idle m u (e j).count c.args.terms.now.closed c.in-Err.seen) spent.2)
    (transport (λ j. Tried ((c.fill.ensures.same ∙ e) j).sets ((c.fill.ensures.same ∙ e) j).own ((spent.0 ∙ f) j) (c.bit_of-goals.ensures j) c.in-Err.seen u c.settle.new.self.taken) c.settle.ensures.tried)

-- u has left its label, and all that have to be taken are taken by others
record Freed (old : Seats) (idle u : ℕ) (s : Seats) : Type 0 where
  same : s.nodes.now ≡ old.nodes.now
  out : Out old.nodes.now.count old.nodes.now.own idle 255 u s.taken
  agree : (w : ℕ) → w < u → entry s.taken w ≡ entry old.taken w

-- whether or not another node took the label that u left
freed : (p : After-loose-loose) → Freed p.args.self.now p.args.terms.now.idle p.args.u p.if-owed.self
freed p =
    let s = p.args.self.now in let u = p.args.u in let idle = p.args.terms.now.idle in let (v, below) = p.requires in let e = p.leave.ensures.same in let f = p.leave.ensures.taken in
    let agree : (w : ℕ) → w < u → entry p.leave.new.self.taken w ≡ entry s.taken w = (λ w h. ap (λ (t : List ℕ). entry t w) f ∙ left_same s.linked v below w h) in
    elim p.if-owed.branch [
      | then-owed+in_default w ↦
          let (o, a) = w.in_default.ensures.placed in
          subst (Freed s idle u) (sym w.self-is) (record { same = w.fill.ensures.same ∙ e; out = subst (λ n. Out n.count n.own idle 255 u w.fill.new.self.taken) e o; agree = λ x h. a x h ∙ agree x h })
      | else-owed w ↦
          subst (Freed s idle u) (sym w.self-is)
          (record { same = e; out = subst (Out s.nodes.now.count s.nodes.now.own idle 255 u) (sym f) (out_idle (left_out s.linked v below) (p.must_stay-owed.ensures.leaves w.if-owed.false)); agree = agree })
    ]

-- the nodes below u are where they were
under : (p : After-loose-loose) → Below p.args.terms.now.closed p.args.u p.if-owed.self.taken
under p =
    let s = p.args.self.now in let (v, below) = p.requires in let r = freed p in let t = p.if-owed.self in
    under_same s.linked v below (subst (λ n. Linked n.sets t.taken t.holders t.reach t.free) r.same t.linked) r.agree

pub settle-requires-2 : goal.settle-requires-2
settle-requires-2 c =
    let p = (goal.at.settle-requires-2 c).After-loose-loose in
    let r = freed p in
    let none : 64 ≤ entry c.if-owed.self.taken c.args.u = omega (arith, r.out.none) in
    (omega (arith, c.requires.1, c.args.self.now.nodes.now.few), none, aimed_open c.loose-loose.result c.if-owed.self.linked (c.loose-loose.ensures.only c.args.u none (under p)))

pub returns-clause-lowest : goal.returns-clause-lowest
returns-clause-lowest c =
    let s = c.args.self.now in let (v, below) = c.requires in
    let p = (goal.at.returns-clause-lowest c).After-loose-loose in
    let r = freed p in
    lowest_open s.linked v below (subst (λ n. Linked n.sets c.if-owed.self.taken c.if-owed.self.holders c.if-owed.self.reach c.if-owed.self.free) r.same c.if-owed.self.linked) r.agree c.loose-loose.result r.out
    (subst (λ n. (w : ℕ) → c.args.u < w → w < n.count → flag n.own w ≡ true → entry c.if-owed.self.taken w < 64 → bit c.loose-loose.result (entry c.if-owed.self.taken w) ≡ true) r.same (c.loose-loose.ensures.all c.args.u (under p)))
    (subst (λ n. Tried n.sets n.own c.if-owed.self.taken (bit_or c.if-owed.self.free c.loose-loose.result) c.args.terms.now.closed c.args.u c.settle-2.new.self.taken) r.same c.settle-2.ensures.tried)
