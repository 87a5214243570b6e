-- `place_root` meets its contract: a search, its prices, and the moves back from where it ended.
use Prim.Native.Nat.{ℕ, ◌+◌, ◌^◌, ◌≤◌, ◌<◌}
use mathlib.Core.Path.{◌≡◌, refl, sym, ap, ◌∙◌, subst, transport}
use mathlib.Core.Bool.{true}
use mathlib.Core.List.{List}
use mathlib.Core.Logic.{inl, inr, ⊎_elim}
use native.Mathlib.Omega.{arith}
use lib.Bits.{bit_xor}
use lib.ListN.{set}
use Rattle.integers.specs.Words.{bit}
use Rattle.placing.specs.declared.offers.Offers.{Offers}
use Rattle.placing.specs.declared.paths.Paths.{Paths}
use Rattle.placing.specs.declared.seats.Seats.{Seats}
use Rattle.placing.specs.declared.tables.Nodes.{Nodes}
use Rattle.placing.specs.Words.{entry, Joined, Stands, Standing}
use Rattle.placing.specs.Priced.{Priced}
use Rattle.placing.specs.Paths.{paid, far_of, by_of, Turn, Searched, Ended, RaisedTo, Trace, Opening, Cheapest}
use Rattle.placing.proofs.Reaching.{by_home}
use Rattle.placing.proofs.Tracing.{raising, trace, opening, settled_home, leaver_few, leaver_step, opening_home, settled_priced}
use Rattle.placing.proofs.seats.Seats.place_root.Goals as goal
use Rattle.placing.proofs.seats.Seats.place_root.Goals.{In_ok-end, After-raise, After-from-step, After-from-holder, After-leave}

-- the search
module _ (c : In_ok-end) where
  abbrev o : Offers
  o = c.args.offers.now

  abbrev s : Seats
  s = c.args.self.now

  abbrev p : Paths
  p = c.find_end.new.self

  abbrev turn_at : Turn o s c.args.paths.now.prices c.args.root → Turn o s p.prices c.args.root
  turn_at t = record {
    out = t.out;
    node = t.node;
    waits = t.waits;
    linked = t.linked;
    seated = t.seated;
    priced = subst (Priced (Stands o.nodes.now.count t.out) o.nodes.now.sets o.nodes.now.own (paid o) s.taken s.free) (sym c.in_ok-end.ensures.same) t.priced;
  }

  turn : Turn o s p.prices c.args.root
  turn = turn_at c.requires.1

  searched : Searched o s p c.args.root (p.step + 1)
  searched = c.in_ok-end.ensures.answer.0

  ended : Ended s p c.in_ok-end.end
  ended = c.in_ok-end.ensures.answer.1

-- the prices, and what is left to do
module _ (c : After-raise) where
  abbrev h : In_ok-end
  h = (goal.at.After-raise c).In_ok-end

  abbrev q : Paths
  q = c.raise.new.self

  abbrev end : ℕ
  end = c.in_ok-end.end

  raised : RaisedTo (p h) q (far_of (p h) end) ((p h).step + 1)
  raised = c.raise.ensures

  -- of the nodes placed before
  module _ (w : Turn (o h) (s h) c.args.paths.now.prices c.args.root) where
    abbrev t : Turn (o h) (s h) (p h).prices c.args.root
    t = turn_at h w

    -- the same, by the nodes of the seats
    module _ {n : Nodes} (same : n ≡ (o h).nodes.now) where
      trace_here : Trace n.sets n.own (paid (o h)) q
      trace_here = subst (λ (n : Nodes). Trace n.sets n.own (paid (o h)) q) (sym same) (trace t (searched h) (ended h) raised)

      opening_here : {taken : List ℕ} {free l : ℕ} → Opening (o h).nodes.now.count w.out (o h).nodes.now.sets (o h).nodes.now.own (paid (o h)) q taken free l → Opening n.count w.out n.sets n.own (paid (o h)) q taken free l
      opening_here {taken} {free} {l} v = subst (λ (n : Nodes). Opening n.count w.out n.sets n.own (paid (o h)) q taken free l) (sym same) v

      done : {taken : List ℕ} {free : ℕ} → Cheapest n.count (bit_xor w.out (2 ^ entry q.nodes 0)) n.sets n.own (paid (o h)) taken free q.prices
          → Standing (Stands (o h).nodes.now.count (bit_xor w.out (2 ^ c.args.root))) (o h).nodes.now.own taken
          × Priced (Stands (o h).nodes.now.count (bit_xor w.out (2 ^ c.args.root))) (o h).nodes.now.sets (o h).nodes.now.own (paid (o h)) taken free q.prices
      done {taken} {free} m =
          let e = ap (λ (t : List ℕ). entry t 0) raised.stays.nodes ∙ (searched h).root_node in
          let m' = subst (λ (r : ℕ). Cheapest (o h).nodes.now.count (bit_xor w.out (2 ^ r)) (o h).nodes.now.sets (o h).nodes.now.own (paid (o h)) taken free q.prices) e
          (subst (λ (n : Nodes). Cheapest n.count (bit_xor w.out (2 ^ entry q.nodes 0)) n.sets n.own (paid (o h)) taken free q.prices) same m) in
          (m'.seated, settled_priced t (searched h) (ended h) raised m')

  free_end : end < 64 → bit (s h).free end ≡ true
  free_end g = ⊎_elim (λ (a, b). b) (λ e. absurd (omega arith)) (ended h).kind

  last : 64 ≤ end → end ≡ 255
  last g = ⊎_elim (λ (a, b). absurd (omega arith)) (λ e. e) (ended h).kind

  home_by : q.home_by ≡ by_of (p h) 255
  home_by = raised.stays.home_by ∙ sym (by_home (p h) refl)

pub raise-requires : goal.raise-requires
raise-requires c =
    let t = (goal.at.raise-requires c).In_ok-end in
    (⊎_elim (λ (a, b). inl a) (λ e. inr e) (ended t).kind, raising (turn t) (searched t) (ended t))

-- at a free label
opening_end : (c : After-raise) (w : Turn c.args.offers.now c.args.self.now c.args.paths.now.prices c.args.root) → c.in_ok-end.end < 64 → Opening c.args.self.now.nodes.now.count w.out c.args.self.now.nodes.now.sets c.args.self.now.nodes.now.own (paid c.args.offers.now) c.raise.new.self c.args.self.now.taken c.args.self.now.free c.in_ok-end.end
opening_end c w g = let t = h c in opening_here c w c.requires.0 (opening (turn_at t w) (searched t) (ended t) (raised c) g (free_end c g))

pub move_back-requires : goal.move_back-requires
move_back-requires c =
    let x = (goal.at.move_back-requires c).After-raise in
    let w = c.requires.1 in
    (paid c.args.offers.now, w.out, trace_here x w c.requires.0, opening_end x w c.if-end-lt64.true)

pub returns-then-end-lt64-clause-placed : goal.returns-then-end-lt64-clause-placed
returns-then-end-lt64-clause-placed c w =
    let x = (goal.at.returns-then-end-lt64-clause-placed c).After-raise in
    done x w c.requires.0 (c.move_back.ensures.placed (paid c.args.offers.now) w.out (trace_here x w c.requires.0) (opening_end x w c.if-end-lt64.true))

-- at 255, the root's own
pub returns-else-paths-ne0-clause-placed : goal.returns-else-paths-ne0-clause-placed
returns-else-paths-ne0-clause-placed c w =
    let x = (goal.at.returns-else-paths-ne0-clause-placed c).After-raise in
    let t = h x in
    let m = settled_home (turn_at t w) (searched t) (ended t) (raised x) (last x c.if-end-lt64.false) (sym c.if-paths-ne0.false ∙ home_by x) in
    (m.seated, settled_priced (turn_at t w) (searched t) (ended t) (raised x) m)

-- at another node's 255
module _ (c : After-from-step) where
  abbrev y : After-raise
  y = (goal.at.After-from-step c).After-raise

  abbrev k : In_ok-end
  k = h y

  by : c.from-step.result ≡ by_of (p k) 255
  by = c.from-step.ensures ∙ home_by y

  some : 0 < c.from-step.result
  some = omega (arith, c.from-step.ensures, c.if-paths-ne0.true)

  step_few : c.from-step.result < 64
  step_few = leaver_step (turn k) (searched k) (ended k) (raised y) (last y c.if-end-lt64.false) by some

node : (c : After-from-holder) → c.from-holder.result ≡ entry c.find_end.new.self.nodes c.from-step.result
node c = c.from-holder.ensures ∙ ap (λ (t : List ℕ). entry t c.from-step.result) c.raise.ensures.stays.nodes

pub bounds-paths-step : goal.bounds-paths-step
bounds-paths-step c = step_few (goal.at.bounds-paths-step c).After-from-step

pub bounds-paths-step-then-paths-ne0 : goal.bounds-paths-step-then-paths-ne0
bounds-paths-step-then-paths-ne0 c = step_few (goal.at.bounds-paths-step-then-paths-ne0 c).After-from-step

pub leave-requires : goal.leave-requires
leave-requires c =
    let x = (goal.at.leave-requires c).After-from-step in
    let t = k x in
    subst (λ (u : ℕ). u < 64) (sym (node (goal.at.leave-requires c).After-from-holder)) (leaver_few (turn t) (searched t) (ended t) (raised (y x)) (last (y x) c.if-end-lt64.false) (by x) (some x))

-- it left its label
module _ (c : After-leave) where
  abbrev f : After-from-step
  f = (goal.at.After-leave c).After-from-step

  abbrev g : After-from-holder
  g = (goal.at.After-leave c).After-from-holder

  nodes_same : c.leave.new.self.nodes.now ≡ c.args.offers.now.nodes.now
  nodes_same = c.leave.ensures.same ∙ c.requires.0

  opening_left : (w : Turn c.args.offers.now c.args.self.now c.args.paths.now.prices c.args.root) → Opening c.leave.new.self.nodes.now.count w.out c.leave.new.self.nodes.now.sets c.leave.new.self.nodes.now.own (paid c.args.offers.now) c.raise.new.self c.leave.new.self.taken c.leave.new.self.free (entry c.raise.new.self.labels c.from-step.result)
  opening_left w =
      let t = k f in
      let s = c.args.self.now in
      let o = c.args.offers.now in
      let u = entry c.find_end.new.self.nodes c.from-step.result in
      let joined = subst (λ w. Joined s.free (entry s.taken w) c.leave.new.self.free) (node g) c.leave.ensures.free in
      let taken = c.leave.ensures.taken ∙ ap (λ (w : ℕ). set s.taken w 255) (node g) in
      let label = ap (λ (t : List ℕ). entry t c.from-step.result) c.raise.ensures.stays.labels in
      opening_here (y f) w nodes_same (transport (λ j. Opening o.nodes.now.count w.out o.nodes.now.sets o.nodes.now.own (paid o) c.raise.new.self (sym taken j) c.leave.new.self.free (sym label j))
      (opening_home (turn_at t w) (searched t) (ended t) (raised (y f)) (last (y f) c.if-end-lt64.false) (by f) (some f) joined))

pub move_back-requires-then-paths-ne0 : goal.move_back-requires-then-paths-ne0
move_back-requires-then-paths-ne0 c =
    let x = (goal.at.move_back-requires-then-paths-ne0 c).After-leave in
    let w = c.requires.1 in
    (paid c.args.offers.now, w.out, trace_here (y (f x)) w (nodes_same x), opening_left x w)

pub returns-then-paths-ne0-clause-placed : goal.returns-then-paths-ne0-clause-placed
returns-then-paths-ne0-clause-placed c w =
    let x = (goal.at.returns-then-paths-ne0-clause-placed c).After-leave in
    done (y (f x)) w (nodes_same x) (c.move_back-then-paths-ne0.ensures.placed (paid c.args.offers.now) w.out (trace_here (y (f x)) w (nodes_same x)) (opening_left x w))
