-- `assign_all` meets its contract: the nodes that are not out are placed at least cost, and none below the root is out.
use Prim.Native.Nat.{ℕ, ◌+◌, ◌^◌, ◌<◌}
use mathlib.Core.Path.{◌≡◌, sym, ap, ◌∙◌, subst}
use mathlib.Core.Bool.{true, false}
use native.Mathlib.Omega.{arith}
use lib.Bits.{bit_xor}
use Rattle.integers.specs.Words.{bit}
use Rattle.integers.proofs.Words.{bit_dropped, bit_kept}
use Rattle.assignment.proofs.Counts.{by-same}
use Rattle.placing.specs.declared.tables.Nodes.{Nodes}
use Rattle.placing.specs.Words.{Linked, Stands, Standing}
use Rattle.placing.specs.Priced.{Priced}
use Rattle.placing.specs.Paths.{paid, Turn}
use Rattle.placing.proofs.Tracing.{standing_all, priced_all}
use Rattle.placing.proofs.seats.Seats.assign_all.Goals as goal
use Rattle.placing.proofs.seats.Seats.assign_all.Goals.{In-loop-root, After-has, then-has+in_ok-place_root, else-has}

pub bid_all-out-requires : goal.bid_all-out-requires
bid_all-out-requires c = (c.requires.0, c.requires.1, c.new-paths.ensures)

pub loop-root-init : goal.loop-root-init
loop-root-init c = let v = c.bid_all-out.ensures.placed in (c.bid_all-out.ensures.same, (λ u h. absurd (omega arith)), v.seated, v.priced)

inside : (c : In-loop-root) → c.loop-root.root < c.args.offers.now.nodes.now.count
inside c = subst (λ (n : Nodes). c.loop-root.root < n.count) (c.bid_all-out.ensures.same ∙ c.requires.0) c.loop-root-test.true

-- the turn of a node that is out
abbrev turn : (c : After-has) → c.has.result ≡ true → Turn c.args.offers.now c.loop-root.self c.loop-root.paths.prices c.loop-root.root
turn c f =
    let (e, _, seated, priced) = c.loop-root.invariant in
    let s = c.loop-root.self in
    record {
      out = c.loop-root.out;
      node = inside (goal.at.After-has c).In-loop-root;
      waits = sym c.has.ensures ∙ f;
      linked = subst (λ (n : Nodes). Linked n.sets s.taken s.holders s.reach s.free) (e ∙ c.requires.0) s.linked;
      seated = seated;
      priced = priced;
    }

pub place_root-requires : goal.place_root-requires
place_root-requires c = (c.loop-root.invariant.0 ∙ c.requires.0, turn (goal.at.place_root-requires c).After-has c.if-has.true)

-- it is placed then, and was if it was not out
pub loop-root-preserved : goal.loop-root-preserved
loop-root-preserved c =
    let x = (goal.at.loop-root-preserved c).After-has in
    let (e, low, seated, priced) = c.loop-root.invariant in
    let o = c.args.offers.now in
    let n = o.nodes.now.count in
    let r = c.loop-root.root in
    elim c.if-has.branch [
      | then-has+in_ok-place_root w ↦
          let out = bit_xor c.loop-root.out (2 ^ r) in
          let t = turn x w.if-has.true in
          let p = w.in_ok-place_root.ensures.placed t in
          let oe : c.if-has.out ≡ out = w.out-is ∙ ap (bit_xor c.loop-root.out) w.bit_of-out.ensures in
          subst (λ (k : ℕ). (c.if-has.self.nodes.now ≡ c.args.self.now.nodes.now) × ((u : ℕ) → u < r + 1 → bit k u ≡ false) × Standing (Stands n k) o.nodes.now.own c.if-has.self.taken
          × Priced (Stands n k) o.nodes.now.sets o.nodes.now.own (paid o) c.if-has.self.taken c.if-has.self.free c.if-has.paths.prices) (sym oe)
          (rw (w.self-is, w.paths-is) (
            w.place_root.ensures.same ∙ e,
            λ u h. by-same u r (λ q. ap (bit out) q ∙ bit_dropped c.loop-root.out r t.waits) (λ d. bit_kept c.loop-root.out r u d ∙ low u (omega arith)),
            p.0,
            p.1,
          ))
      | else-has w ↦
          rw (w.self-is, w.paths-is, w.out-is) (e, λ u h. by-same u r (λ q. ap (bit c.loop-root.out) q ∙ sym c.has.ensures ∙ w.if-has.false) (λ d. low u (omega arith)), seated, priced)
    ]

pub returns-clause-placed : goal.returns-clause-placed
returns-clause-placed c =
    let (e, low, seated, priced) = c.loop-root.invariant in
    let n = c.args.offers.now.nodes.now.count in
    let all = (λ (u : ℕ) (h : u < n). low u (omega (arith, c.loop-root.auto, c.loop-root-test.false, ap (λ (n : Nodes). n.count) (c.bid_all-out.ensures.same ∙ c.requires.0)))) in
    (standing_all n c.loop-root.out all seated, priced_all n c.loop-root.out all priced)
