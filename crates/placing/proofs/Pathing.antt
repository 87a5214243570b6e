-- A search for a label of least cost: its start, a step more, and a row gone through.
-- Assumes nothing.
use mathlib.Core.Path.{◌≡◌, refl, sym, ap, ◌∙◌, subst}
use mathlib.Core.Bool.{true, false, cond}
use mathlib.Core.List.{List}
use mathlib.Core.Logic.{◌⊎◌, inl, inr, ⊎_elim}
use Prim.Native.Nat.{ℕ, zero, suc, ◌+◌, ◌*◌, ◌^◌, ◌≤◌, ◌<◌}
use native.Mathlib.Omega.{arith}
use borrow.Author.Tests.{eq-eqb, ne_eqb, ltb-true, ltb-false}
use lib.Dec.{eqb, ltb}
use lib.Bits.{bit_xor}
use lib.IntN.{ℤ, pos, ◌+ℤ◌, ◌-ℤ◌, nat_abs}
use lib.Signed.{◌≤ℤ◌, ◌<ℤ◌, lt_z}
use lib.ListN.{length, get_or, set, replicate, get_or-replicate}
use lib.Seq.{get_or-set_same, get_or-set_other}
use Rattle.integers.specs.Words.{bit}
use Rattle.integers.proofs.Words.{bit_zero, some_bit, bit_dropped, bit_kept}
use Rattle.integers.proofs.Places.{by-test, if-true, if-false}
use Rattle.integers.proofs.Parts.{◌⁺, ◌⁻, linear, parts, add, sub, abs, apart}
use Rattle.integers.proofs.Order.{le_trans}
use Rattle.assignment.specs.Rows.{count}
use Rattle.assignment.proofs.Counts.{differ, by-same, pigeonhole}
use Rattle.placing.specs.declared.offers.Offers.{Offers}
use Rattle.placing.specs.declared.paths.Paths.{Paths}
use Rattle.placing.specs.declared.seats.Seats.{Seats}
use Rattle.placing.specs.Words.{entry, Stands}
use Rattle.placing.specs.Priced.{price}
use Rattle.placing.specs.Paths.{paid, may, way, unmet, far_of, by_of, Near, Bounded, Kept, Same, Scanned, Nearest, Turn, Gone, Step, Searched}
use Rattle.placing.proofs.Linking.{stands_taker}
use Rattle.placing.proofs.Offering.{paid_within}
use Rattle.placing.proofs.Reaching.{far_small, far_home, far_else}
use Rattle.placing.proofs.Slots.{opens-bit}

-- a sum of three
pub add3 : (a b c : ℤ) → ((a +ℤ b) +ℤ c) ⁺ + (a ⁻ + b ⁻ + c ⁻) ≡ (a ⁺ + b ⁺ + c ⁺) + ((a +ℤ b) +ℤ c) ⁻
add3 a b c = omega (arith, add a b, add (a +ℤ b) c)

pub count_all : (n : ℕ) → count n (λ _. true) ≡ n
unfolding count
count_all zero = refl
count_all (suc n) = let e = count_all n in omega arith

-- ---- who holds a label

module _ {o : Offers} {s : Seats} {prices : List ℤ} {root : ℕ} (t : Turn o s prices root) where
  pub root_few : root < 64
  root_few = omega (arith, t.node, o.nodes.now.few)

  -- the nodes that are placed
  abbrev pub Placed : ℕ → Type 0
  Placed u = Stands o.nodes.now.count t.out u

  pub placed_few : (u : ℕ) → Placed u → u < 64
  placed_few u d = omega (arith, d.0, o.nodes.now.few)

  -- the root is none of them
  pub root_apart : (u : ℕ) → Placed u → u ≡ root → ⊥
  root_apart u d e = differ t.waits (ap (bit t.out) (sym e) ∙ d.1)

  -- the holder of a label that is not free: a node that is placed
  pub holder_at : (l : ℕ) → l < 64 → bit s.free l ≡ false → Placed (entry s.holders l) × (entry s.taken (entry s.holders l) ≡ l)
  holder_at l h f = let (a, b, _) = t.linked.held l h f in (stands_taker o.nodes.now.count t.out t.seated (entry s.holders l) a (omega arith), b)

  -- it pays least there
  pub pays_least : (u l k : ℕ) → Placed u → entry s.taken u ≡ l → may o u k → (paid o u l +ℤ price prices l) ≤ℤ (paid o u k +ℤ price prices k)
  pays_least u l k h e a = subst (λ i. (paid o u i +ℤ price prices i) ≤ℤ (paid o u k +ℤ price prices k)) e (t.priced.least u k h a)

  pub way_small : (u l : ℕ) (b : ℤ) → nat_abs b ≤ 2 ^ 48 → way o prices u b l <ℤ unmet
  way_small u l b h =
      let c = paid o u l in
      let w = price prices l in
      omega (linear, add3 b c w, abs b, abs c, abs w, paid_within o u l, t.priced.top l)

-- ---- a search

-- p with the ways of w
abbrev pub after : Paths → Paths → Paths
after p w = record { prices = p.prices; far = w.far; by = w.by; labels = p.labels; nodes = p.nodes; step = p.step; waiting = w.waiting; home = w.home; home_by = w.home_by; bound = w.bound; goal = w.goal }

pub after_is : {p w : Paths} → Kept p w → after p w ≡ w
after_is {p} {w} k = λ j. record { prices = sym k.prices j; far = w.far; by = w.by; labels = sym k.labels j; nodes = sym k.nodes j; step = sym k.step j; waiting = w.waiting; home = w.home; home_by = w.home_by; bound = w.bound; goal = w.goal }

module _ {o : Offers} {s : Seats} {p : Paths} {root : ℕ} (t : Turn o s p.prices root) where
  module _ {m : ℕ} (v : Searched o s p root m) where
    -- the node of a step
    pub step_node : (i : ℕ) → 0 < i → i ≤ p.step → Placed t (entry p.nodes i) × (entry s.taken (entry p.nodes i) ≡ entry p.labels i)
    step_node i h g =
        let e = v.steps i h g in
        subst (λ u. Placed t u × (entry s.taken u ≡ entry p.labels i)) (sym e.node) (holder_at t (entry p.labels i) e.small e.held)

    pub node_few : (i : ℕ) → i ≤ p.step → entry p.nodes i < o.nodes.now.count
    node_few i g = by-same i 0
        (λ e. rw (e, v.root_node) t.node)
        (λ d. (step_node i (omega arith) g).0.0)

    -- no two steps have one label, nor one node
    pub labels_once : (i j : ℕ) → 0 < i → i ≤ p.step → 0 < j → j ≤ p.step → entry p.labels i ≡ entry p.labels j → i ≡ j
    labels_once i j h g h' g' e = by-same i j (λ z. z) (λ z. by-test (ltb i j)
        (λ w. absurd ((v.steps j h' g').once i h (ltb-true i j w) e))
        (λ w. absurd ((v.steps i h g).once j h' (let r = ltb-false i j w in omega arith) (sym e))))

    pub nodes_once : (i j : ℕ) → i ≤ p.step → j ≤ p.step → entry p.nodes i ≡ entry p.nodes j → i ≡ j
    nodes_once i j g k e = by-same i 0
        (λ x. by-same j 0 (λ y. x ∙ sym y) (λ y. absurd (root_apart t (entry p.nodes j) (step_node j (omega arith) k).0 (sym e ∙ ap (entry p.nodes) x ∙ v.root_node))))
        (λ x. by-same j 0 (λ y. absurd (root_apart t (entry p.nodes i) (step_node i (omega arith) g).0 (e ∙ ap (entry p.nodes) y ∙ v.root_node)))
        (λ y. labels_once i j (omega arith) g (omega arith) k (sym (step_node i (omega arith) g).1 ∙ ap (entry s.taken) e ∙ (step_node j (omega arith) k).1)))

    -- a label that is none of a step's and is held: so far there are fewer steps than nodes but for the root
    pub steps_few : (l : ℕ) → l < 64 → bit s.free l ≡ false → (Gone p l → ⊥) → suc p.step < o.nodes.now.count
    steps_few l h f d =
        let b = pigeonhole (λ i u. (i < suc (suc p.step)) × (at i ≡ u))
        (λ i j u x y. once i j x.0 y.0 (x.1 ∙ sym y.1))
        (suc (suc p.step)) o.nodes.now.count (λ _. true) (λ _. true)
        (λ i g _. (at i, few i g, refl, (g, refl))) in
        let e = count_all (suc (suc p.step)) in
        let e' = count_all o.nodes.now.count in
        omega arith
      where
        -- the nodes of the steps, and the holder of l
        at : ℕ → ℕ
        at i = cond (eqb i (suc p.step)) (entry s.holders l) (entry p.nodes i)

        at_last : (i : ℕ) → i ≡ suc p.step → at i ≡ entry s.holders l
        at_last i e = if-true (entry s.holders l) (entry p.nodes i) (eq-eqb i (suc p.step) e)

        at_step : (i : ℕ) → (i ≡ suc p.step → ⊥) → at i ≡ entry p.nodes i
        at_step i e = if-false (entry s.holders l) (entry p.nodes i) (ne_eqb i (suc p.step) e)

        few : (i : ℕ) → i < suc (suc p.step) → at i < o.nodes.now.count
        few i g = by-same i (suc p.step)
            (λ e. rw (at_last i e) (holder_at t l h f).0.0)
            (λ e. rw (at_step i e) (node_few i (omega arith)))

        -- the holder's node is that of no step
        apart : (i : ℕ) → i ≤ p.step → entry p.nodes i ≡ entry s.holders l → ⊥
        apart i g e = by-same i 0
            (λ x. root_apart t (entry s.holders l) (holder_at t l h f).0 (sym e ∙ ap (entry p.nodes) x ∙ v.root_node))
            (λ x. d (i, omega arith, g, sym (step_node i (omega arith) g).1 ∙ ap (entry s.taken) e ∙ (holder_at t l h f).1))

        once : (i j : ℕ) → i < suc (suc p.step) → j < suc (suc p.step) → at i ≡ at j → i ≡ j
        once i j g k e = by-same i (suc p.step)
            (λ x. by-same j (suc p.step) (λ y. x ∙ sym y) (λ y. absurd (apart j (omega arith) (sym (at_step j y) ∙ sym e ∙ at_last i x))))
            (λ x. by-same j (suc p.step)
            (λ y. absurd (apart i (omega arith) (sym (at_step i x) ∙ e ∙ at_last j y)))
            (λ y. nodes_once i j (omega arith) (omega arith) (sym (at_step i x) ∙ e ∙ at_step j y)))

    -- the nearest label that waits is as near as any from which no step went
    pub nearest_all : {l : ℕ} → Nearest p l → far_of p l <ℤ p.bound → (k : ℕ) → (Gone p k → ⊥) → far_of p l ≤ℤ far_of p k
    nearest_all {l} n h k d = by-test (lt_z (far_of p k) unmet)
        (λ z. let met : far_of p k <ℤ unmet = omega linear in
        ⊎_elim (λ w. n.least k w) (λ s. ⊎_elim (λ g. absurd (d g)) (λ y. omega linear) s) (v.met k met))
        (λ z. let y = (v.waits l n.small n.waits).0 in omega linear)

    -- a way but for the label's price is not long
    pub length_fits : (k : ℕ) → far_of p k <ℤ unmet → m ≤ p.step + 1 → nat_abs (far_of p k -ℤ price p.prices k) + 2 ^ 40 ≤ m * 2 ^ 41
    length_fits k h g =
        let (a, _, y) = v.found k h in
        let i = by_of p k in
        let x = entry p.nodes i in
        let z = v.bases i (omega arith) in
        let c = paid o x k in
        let w = price p.prices k in
        omega (linear, y, add3 (v.base i) c w, sub (far_of p k) w, abs (far_of p k -ℤ w), apart (far_of p k -ℤ w), abs (v.base i), abs c, paid_within o x k, a)

    -- ---- the row of the last step

    module _ (full : m ≡ p.step) where
      abbrev u : ℕ
      u = entry p.nodes p.step

      abbrev b : ℤ
      b = v.base p.step

      -- over it there is no way to a label shorter than to the labels of the steps
      beyond : (i k : ℕ) → 0 < i → i ≤ p.step → may o u k → far_of p (entry p.labels i) ≤ℤ way o p.prices u b k
      beyond i k h g a =
          let x = entry p.labels p.step in
          let e = v.steps p.step (omega arith) (omega arith) in
          let near : far_of p (entry p.labels i) ≤ℤ far_of p x = (v.steps i h g).nearest x (λ j y z q. e.once j y (omega arith) q) in
          let (n, y) = step_node p.step (omega arith) (omega arith) in
          let least = pays_least t u x k n y a in
          omega (
            linear,
            e.base_is,
            add3 b (paid o u k) (price p.prices k),
            add (paid o u k) (price p.prices k),
            add (paid o u x) (price p.prices x),
            sub (far_of p x -ℤ price p.prices x) (paid o u x),
            sub (far_of p x) (price p.prices x),
          )

      module _ (w : Paths) (r : Scanned o p (after p w) u b) where
        abbrev q : Paths
        q = after p w

        small : (k : ℕ) → way o p.prices u b k <ℤ unmet
        small k = way_small t u k b (let y = v.bases p.step (omega arith) in omega (arith, v.few))

        closer : (k : ℕ) → far_of q k ≤ℤ far_of p k
        closer k = ⊎_elim (λ e. omega (linear, e.far)) (λ (a, n). omega (linear, n.far, n.less)) (r.each k)

        -- a step's label is as it was
        settled : (k : ℕ) → Gone p k → Same p q k
        settled k (i, h, g, e) = ⊎_elim (λ y. y)
            (λ (a, n). absurd (let y = beyond i k h g a in let z = n.less in let w = ap (far_of p) e in omega (linear, w)))
            (r.each k)

        row_step : (i : ℕ) → 0 < i → i ≤ p.step → Step o s q v.base i
        row_step i h g =
            let e = v.steps i h g in
            let x = entry p.labels i in
            let y = settled x (i, h, g, refl) in
            record {
              small = e.small;
              held = e.held;
              node = e.node;
              met = rw y.far e.met;
              after = rw y.by e.after;
              base_is = rw y.far e.base_is;
              once = e.once;
              nearest = λ k d. rw y.far (⊎_elim (λ z. rw z.far (e.nearest k d)) (λ (a, n). rw n.far (beyond i k h g a)) (r.each k));
            }

        row_found : (k : ℕ) → far_of q k <ℤ unmet → (by_of q k < p.step + 1) × may o (entry p.nodes (by_of q k)) k × (far_of q k ≡ way o p.prices (entry p.nodes (by_of q k)) (v.base (by_of q k)) k)
        row_found k z = ⊎_elim
            (λ e. let y = rw e.far at z in let (x, y', w) = v.found k y in rw (e.far, e.by) (omega arith, y', w))
            (λ (a, n). rw (n.far, n.by) (omega arith, a, refl))
            (r.each k)

        row_met : (k : ℕ) → far_of q k <ℤ unmet → (bit q.waiting k ≡ true) ⊎ Gone q k ⊎ (q.bound ≤ℤ far_of q k)
        row_met k z = ⊎_elim
            (λ e. ⊎_elim (λ w. inl (e.waits ∙ w)) (λ c. inr (⊎_elim inl (λ y. inr (rw e.far (le_trans r.falls y))) c)) (v.met k (rw e.far at z)))
            (λ (a, n). ⊎_elim inl (λ y. inr (inr (rw n.far y))) n.waits)
            (r.each k)

        row_after : Bounded s.free q → Searched o s q root (p.step + 1)
        row_after y = record {
          base = v.base;
          few = v.few;
          root_base = v.root_base;
          root_node = v.root_node;
          bases = v.bases;
          steps = row_step;
          covered = λ i k h a. by-same i p.step
              (λ e. subst (λ j. may o (entry p.nodes j) k → Near q k (way o p.prices (entry p.nodes j) (v.base j) k)) (sym e) (r.covered k) a)
              (λ d. ⊎_elim (λ y. inl (le_trans (closer k) y)) (λ y. inr (le_trans r.falls y)) (v.covered i k (omega arith) a));
          found = row_found;
          waits = λ k h w. ⊎_elim
              (λ e. let (x, y) = v.waits k h (sym e.waits ∙ w) in (rw e.far x, y))
              (λ (a, n). (rw n.far (small k), λ (i, h, g, e). let y = beyond i k h g a in let z = n.less in let w = ap (far_of p) e in omega (linear, w)))
              (r.each k);
          met = row_met;
          bounded = y;
        }

      pub row_more : {w : Paths} → Scanned o p w u b → Bounded s.free w → Searched o s w root (w.step + 1)
      row_more {w} r y =
          let e = after_is r.kept in
          subst (λ q. Searched o s q root (q.step + 1)) e (row_after w (subst (λ q. Scanned o p q u b) (sym e) r) (subst (Bounded s.free) (sym e) y))

-- ---- the start: at the root, nothing is met

module _ (o : Offers) (s : Seats) (p : Paths) (root : ℕ) (ef : p.far ≡ replicate 64 unmet) (eh : p.home ≡ unmet) (eb : p.bound ≡ unmet) (eg : p.goal ≡ 255) (ew : p.waiting ≡ 0) (es : p.step ≡ 0) (en : entry p.nodes 0 ≡ root) where
  none_met : (l : ℕ) → far_of p l <ℤ unmet → ⊥
  none_met l h = ⊎_elim
      (λ z. let y = far_small p z ∙ ap (λ (t : List ℤ). get_or t l (pos 0)) ef ∙ get_or-replicate 64 l unmet (pos 0) z in omega (linear, parts y))
      (λ e. let y = far_home p e ∙ eh in omega (linear, parts y))
      (far_else p l h)

  far_none : (l : ℕ) → unmet ≤ℤ far_of p l
  far_none l = by-test (lt_z (far_of p l) unmet) (λ z. absurd (none_met l (omega linear))) (λ z. omega linear)

  pub begun_bounded : Bounded s.free p
  begun_bounded = record {
    kind = inr eg;
    goal = eb ∙ sym (far_home p eg ∙ eh);
    ends = λ l x. let y = far_none l in omega (linear, parts eb);
    held = λ l b. absurd (some_bit p.waiting l b ew);
  }

  pub begun : Searched o s p root 0
  begun = record {
    base = λ i. pos 0;
    few = omega (arith, es);
    root_base = refl;
    root_node = en;
    bases = λ i h. omega arith;
    steps = λ i h g. absurd (omega arith);
    covered = λ i l h. absurd (omega arith);
    found = λ l h. absurd (none_met l h);
    waits = λ l h b. absurd (differ b (ap (λ (w : ℕ). bit w l) ew ∙ bit_zero l));
    met = λ l z. absurd (none_met l z);
    bounded = begun_bounded;
  }

  -- and the root's row
  pub begun_row : Turn o s p.prices root → {w : Paths} → Scanned o p w root (pos 0) → Bounded s.free w → Searched o s w root (w.step + 1)
  unfolding begun
  begun_row t {w} r y = row_more t begun (sym es) (subst (λ u. Scanned o p w u (pos 0)) (sym (ap (entry p.nodes) es ∙ en)) r) y

-- ---- a step more

module _ {o : Offers} {s : Seats} {p : Paths} {root : ℕ} (t : Turn o s p.prices root) (v : Searched o s p root (p.step + 1))
    {l : ℕ} (n : Nearest p l) (near : far_of p l <ℤ p.bound) where
  held : bit s.free l ≡ false
  held = v.bounded.held l n.waits

  abbrev S : ℕ
  S = p.step + 1

  abbrev holder : ℕ
  holder = entry s.holders l

  -- how far off the holder is
  abbrev onward : ℤ
  onward = (far_of p l -ℤ price p.prices l) -ℤ paid o holder l

  pub met_here : far_of p l <ℤ unmet
  met_here = (v.waits l n.small n.waits).0

  new : Gone p l → ⊥
  new = (v.waits l n.small n.waits).1

  pub step_room : S < 64
  step_room = let z = steps_few t v l n.small held new in omega (arith, o.nodes.now.few)

  pub holder_few : holder < o.nodes.now.count
  holder_few = (holder_at t l n.small held).0.0

  pub holder_has : may o holder l
  holder_has =
      let (h, e) = holder_at t l n.small held in
      let g : entry s.taken holder < 64 = omega (arith, n.small) in
      opens-bit o.nodes.now.sets o.nodes.now.own holder l n.small ∙ ap (bit (entry o.nodes.now.sets holder)) (sym e) ∙ t.linked.inside holder (placed_few t holder h) g

  found_here : (by_of p l < S) × may o (entry p.nodes (by_of p l)) l × (far_of p l ≡ way o p.prices (entry p.nodes (by_of p l)) (v.base (by_of p l)) l)
  found_here = v.found l met_here

  pub onward_fits : nat_abs onward ≤ S * 2 ^ 41
  onward_fits =
      let d = far_of p l -ℤ price p.prices l in
      let c = paid o holder l in
      omega (linear, sub d c, abs onward, apart onward, abs d, abs c, length_fits t v l met_here (omega arith), paid_within o holder l)

  -- the tables then
  abbrev next : Paths
  next = record { prices = p.prices; far = p.far; by = p.by; labels = set p.labels S l; nodes = set p.nodes S holder; step = S; waiting = bit_xor p.waiting (2 ^ l); home = p.home; home_by = p.home_by; bound = p.bound; goal = p.goal }

  far_next : (k : ℕ) → far_of next k ≡ far_of p k
  unfolding far_of
  far_next k = refl

  by_next : (k : ℕ) → by_of next k ≡ by_of p k
  unfolding by_of
  by_next k = refl

  pub bounded_next : Bounded s.free next
  bounded_next = let b = v.bounded in record {
    kind = b.kind;
    goal = b.goal ∙ sym (far_next p.goal);
    ends = λ k x. rw (far_next k) (b.ends k x);
    held = λ k w. by-same k l (λ e. ap (bit s.free) e ∙ held) (λ d. b.held k (sym (bit_kept p.waiting l k d) ∙ w));
  }

  module _ (sl : length p.labels ≡ 64) (sn : length p.nodes ≡ 64) where
    room : S < 64
    room = step_room

    label_here : entry next.labels S ≡ l
    label_here = get_or-set_same p.labels S l 0 (omega (arith, room))

    node_here : entry next.nodes S ≡ holder
    node_here = get_or-set_same p.nodes S holder 0 (omega (arith, room))

    label_before : (i : ℕ) → i < S → entry next.labels i ≡ entry p.labels i
    label_before i h = get_or-set_other p.labels S i l 0 (λ e. omega arith)

    node_before : (i : ℕ) → i < S → entry next.nodes i ≡ entry p.nodes i
    node_before i h = get_or-set_other p.nodes S i holder 0 (λ e. omega arith)

    base' : ℕ → ℤ
    base' i = cond (eqb i S) onward (v.base i)

    base_here : base' S ≡ onward
    unfolding base'
    base_here = if-true onward (v.base S) (eq-eqb S S refl)

    base_before : (i : ℕ) → i < S → base' i ≡ v.base i
    unfolding base'
    base_before i h = if-false onward (v.base i) (ne_eqb i S (λ e. omega arith))

    gone_more : (k : ℕ) → Gone p k → Gone next k
    gone_more k (i, h, g, e) = (i, h, omega arith, label_before i (omega arith) ∙ e)

    gone_back : (k : ℕ) → (k ≡ l → ⊥) → Gone next k → Gone p k
    gone_back k d (i, h, g, e) = by-same i S
        (λ q. absurd (d (sym e ∙ ap (entry next.labels) q ∙ label_here)))
        (λ q. (i, h, omega arith, sym (label_before i (omega arith)) ∙ e))

    step_before : (i : ℕ) → 0 < i → i < S → Step o s next base' i
    step_before i h g =
        let e = v.steps i h (omega arith) in
        let a = label_before i g in
        record {
          small = rw a e.small;
          held = rw a e.held;
          node = rw (a, node_before i g) e.node;
          met = rw (a, far_next (entry p.labels i)) e.met;
          after = rw (a, by_next (entry p.labels i)) e.after;
          base_is = rw (base_before i g, a, node_before i g, far_next (entry p.labels i)) e.base_is;
          once = λ j y z q. e.once j y z (sym (label_before j (omega arith)) ∙ q ∙ a);
          nearest = λ k d. rw (a, far_next (entry p.labels i), far_next k) (e.nearest k (λ j y z q. d j y z (label_before j (omega arith) ∙ q)));
        }

    step_here : Step o s next base' S
    step_here = record {
      small = rw label_here n.small;
      held = rw label_here held;
      node = node_here ∙ ap (entry s.holders) (sym label_here);
      met = rw (label_here, far_next l) met_here;
      after = rw (label_here, by_next l) found_here.0;
      base_is = base_here ∙ rw (label_here, node_here, far_next l);
      once = λ j y z q. new (j, y, omega arith, sym (label_before j z) ∙ q ∙ label_here);
      nearest = λ k d. rw (label_here, far_next l, far_next k) (nearest_all t v n near k (λ (j, y, z, q). d j y (omega arith) (label_before j (omega arith) ∙ q)));
    }

    pub stepped : Searched o s next root S
    stepped = record {
      base = base';
      few = room;
      root_base = base_before 0 (omega arith) ∙ v.root_base;
      root_node = node_before 0 (omega arith) ∙ v.root_node;
      bases = λ i h. by-same i S
          (λ e. subst (λ j. nat_abs (base' j) ≤ j * 2 ^ 41) (sym e) (rw base_here onward_fits))
          (λ d. rw (base_before i (omega arith)) (v.bases i (omega arith)));
      steps = λ i h g. by-same i S (λ e. subst (Step o s next base') (sym e) step_here) (λ d. step_before i h (omega arith));
      covered = λ i k h. rw (far_next k, node_before i h, base_before i h) (v.covered i k h);
      found = λ k h.
          let (x, y, z) = v.found k (rw (far_next k) at h) in
          rw (far_next k, by_next k) (x, rw (node_before (by_of p k) x) y, rw (node_before (by_of p k) x, base_before (by_of p k) x) z);
      waits = λ k h w. by-same k l
          (λ e. absurd (differ w (ap (bit (bit_xor p.waiting (2 ^ l))) e ∙ bit_dropped p.waiting l n.waits)))
          (λ d. let (x, y) = v.waits k h (sym (bit_kept p.waiting l k d) ∙ w) in (rw (far_next k) x, λ g. y (gone_back k d g)));
      met = λ k z. by-same k l
          (λ e. inr (inl (S, omega arith, omega arith, label_here ∙ sym e)))
          (λ d. ⊎_elim (λ w. inl (bit_kept p.waiting l k d ∙ w)) (λ c. inr (⊎_elim (λ g. inl (gone_more k g)) (λ y. inr (rw (far_next k) y)) c)) (v.met k (rw (far_next k) at z)));
      bounded = bounded_next;
    }

    -- and the holder's row
    pub stepped_row : {w : Paths} → Scanned o next w holder onward → Bounded s.free w → Searched o s w root (w.step + 1)
    unfolding stepped
    stepped_row {w} r y = row_more {p = next} t stepped refl (rw (node_here, base_here) r) y
