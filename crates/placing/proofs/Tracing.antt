-- After a search, with the prices raised: each node of a step costs least at its label and at those found by it, and the others cost least where they are.
-- Assumes nothing.
use mathlib.Core.Path.{◌≡◌, refl, sym, ap, ◌∙◌, subst}
use mathlib.Core.Bool.{Bool, true, false}
use mathlib.Core.List.{List}
use mathlib.Core.Logic.{◌⊎◌, inl, inr, ⊎_elim}
use Prim.Native.Nat.{ℕ, zero, suc, ◌+◌, ◌-◌, ◌^◌, ◌≤◌, ◌<◌}
use native.Mathlib.Omega.{arith}
use lib.IntN.{ℤ, pos, ◌+ℤ◌, ◌-ℤ◌, nat_abs}
use lib.Signed.{◌≤ℤ◌, ◌<ℤ◌}
use borrow.Author.Tests.{ltb-true, ltb-false}
use lib.Bits.{bit_xor}
use lib.Dec.{ltb}
use lib.ListN.{set, replicate, get_or-replicate}
use Rattle.integers.specs.Words.{bit}
use Rattle.integers.proofs.Words.{bit_full, bit_kept}
use Rattle.integers.proofs.Places.{by-test}
use Rattle.integers.proofs.Parts.{linear, add, sub, abs, apart}
use Rattle.integers.proofs.Order.{le_refl}
use Rattle.assignment.proofs.Counts.{differ, by-same}
use Rattle.placing.specs.declared.offers.Offers.{Offers}
use Rattle.placing.specs.declared.paths.Paths.{Paths}
use Rattle.placing.specs.declared.seats.Seats.{Seats}
use Rattle.placing.specs.Words.{entry, flag, opens, Joined, Seated, Stands, Standing}
use Rattle.placing.specs.Priced.{price, net, Priced}
use Rattle.placing.specs.Paths.{paid, may, way, unmet, far_of, by_of, Turn, Gone, Searched, Ended, Raising, RaisedTo, Best, Link, Trace, Opening, Cheapest}
use Rattle.placing.proofs.Reaching.{price_beyond}
use Rattle.placing.proofs.Slots.{opens-own}
use Rattle.placing.proofs.Pathing.{add3, root_few, Placed, placed_few, length_fits, labels_once, step_node}
use Rattle.placing.proofs.Returning.{from_free, left_back, opened}

-- whether a step went from a label
gone_below : (p : Paths) (k n : ℕ) → n ≤ p.step → Gone p k ⊎ ((i : ℕ) → 0 < i → i ≤ n → entry p.labels i ≡ k → ⊥)
gone_below p k zero h = inr (λ i a b. absurd (omega arith))
gone_below p k (suc n) h = by-same (entry p.labels (suc n)) k
    (λ e. inl (suc n, omega arith, h, e))
    (λ d. ⊎_elim (λ g. inl g) (λ f. inr (λ i a b. by-same i (suc n) (λ e x. d (ap (entry p.labels) (sym e) ∙ x)) (λ q. f i a (omega arith)))) (gone_below p k n (omega arith)))

by_gone : {P : Type 0} (p : Paths) (k : ℕ) → (Gone p k → P) → ((Gone p k → ⊥) → P) → P
by_gone p k f g = ⊎_elim f (λ h. g (λ (i, a, b, e). h i a b e)) (gone_below p k p.step (omega arith))

module _ {o : Offers} {s : Seats} {p : Paths} {root : ℕ} (t : Turn o s p.prices root) (v : Searched o s p root (p.step + 1)) {end : ℕ} (e : Ended s p end) where
  abbrev z : ℤ
  z = far_of p end

  end_new : Gone p end → ⊥
  end_new (i, h, g, q) = let y = v.steps i h g in
      ⊎_elim (λ (a, b). differ b (ap (bit s.free) (sym q) ∙ y.held)) (λ a. let x = y.small in omega arith) e.kind

  gone_near : (i : ℕ) → 0 < i → i ≤ p.step → far_of p (entry p.labels i) ≤ℤ z
  gone_near i h g = (v.steps i h g).nearest end (λ j a b x. end_new (j, a, omega arith, x))

  no_price : price p.prices end ≡ pos 0
  no_price = ⊎_elim (λ (a, b). t.priced.idle end a b) (λ a. price_beyond p.prices end t.priced.size (omega arith)) e.kind

  end_fits : nat_abs z ≤ 2 ^ 47
  end_fits =
      let w = price p.prices end in
      omega (linear, no_price, sub z w, abs z, apart z, abs (z -ℤ w), length_fits t v end e.met (omega arith), v.few)

  -- a step's label, its way and its price
  module _ (i : ℕ) (h : 0 < i) (g : i ≤ p.step) where
    abbrev F : ℤ
    F = far_of p (entry p.labels i)

    abbrev W : ℤ
    W = price p.prices (entry p.labels i)

    step_fits : nat_abs (F -ℤ W) ≤ 2 ^ 47
    step_fits = omega (arith, length_fits t v (entry p.labels i) (v.steps i h g).met (omega arith), v.few)

    step_apart : nat_abs (z -ℤ F) ≤ 2 ^ 50
    step_apart = omega (linear, gone_near i h g, end_fits, step_fits, t.priced.floor (entry p.labels i), sub z F, sub F W, abs z, abs (F -ℤ W), abs (z -ℤ F), apart (z -ℤ F))

    step_price : nat_abs (W +ℤ (z -ℤ F)) ≤ 2 ^ 50
    step_price = omega (linear, gone_near i h g, end_fits, step_fits, sub z F, sub F W, add W (z -ℤ F), abs z, abs (F -ℤ W), abs (W +ℤ (z -ℤ F)), apart (W +ℤ (z -ℤ F)))

  pub raising : Raising p z
  raising = record {
    few = v.few;
    small = λ i h g. (v.steps i h g).small;
    once = λ i j h k g q. let y = labels_once t v i j h (omega arith) (omega arith) g q in omega arith;
    apart = step_apart;
    fits = step_price;
  }

  -- ---- the prices q

  module _ {q : Paths} (r : RaisedTo p q z (p.step + 1)) where
    price_gone : (k : ℕ) → Gone p k → price q.prices k ≡ price p.prices k +ℤ (z -ℤ far_of p k)
    price_gone k (i, h, g, x) = subst (λ l. price q.prices l ≡ price p.prices l +ℤ (z -ℤ far_of p l)) x (r.raised i h (omega arith))

    price_new : (k : ℕ) → (Gone p k → ⊥) → price q.prices k ≡ price p.prices k
    price_new k d = r.others k (λ i h g x. d (i, h, omega arith, x))

    near : (k : ℕ) → Gone p k → far_of p k ≤ℤ z
    near k (i, h, g, x) = subst (λ l. far_of p l ≤ℤ z) x (gone_near i h g)

    price_rises : (k : ℕ) → price p.prices k ≤ℤ price q.prices k
    price_rises k = by_gone p k
        (λ g. omega (linear, price_gone k g, near k g, add (price p.prices k) (z -ℤ far_of p k), sub z (far_of p k)))
        (λ d. omega (linear, price_new k d))

    pub prices_floor : (k : ℕ) → pos 0 ≤ℤ price q.prices k
    prices_floor k = omega (linear, t.priced.floor k, price_rises k)

    pub prices_top : (k : ℕ) → nat_abs (price q.prices k) ≤ 2 ^ 50
    prices_top k = by_gone p k
        (λ (i, h, g, x). subst (λ l. nat_abs (price q.prices l) ≤ 2 ^ 50) x (rw (r.raised i h (omega arith)) (step_price i h g)))
        (λ d. rw (price_new k d) (t.priced.top k))

    -- a label that is free has no price
    idle : (x : ℕ) → x < 64 → bit s.free x ≡ true → price q.prices x ≡ pos 0
    idle x h f = price_new x (λ (i, a, b, y). differ f (ap (bit s.free) (sym y) ∙ (v.steps i a b).held)) ∙ t.priced.idle x h f

    -- of a node of a step: its labels cost at least what is left of the way to the end, and no more where a way over it is as long as to the end
    over : (i k : ℕ) → i ≤ p.step → may o (entry p.nodes i) k → z ≤ℤ way o q.prices (entry p.nodes i) (v.base i) k
    over i k h a =
        let b = v.base i in
        let c = paid o (entry p.nodes i) k in
        let y = v.covered i k (omega arith) a in
        by_gone p k
        (λ g. ⊎_elim
        (λ y. omega (linear, price_gone k g, add3 b c (price p.prices k), add3 b c (price q.prices k), add (price p.prices k) (z -ℤ far_of p k), sub z (far_of p k)))
        (λ y. omega (linear, e.bound, price_rises k, add3 b c (price p.prices k), add3 b c (price q.prices k)))
        y)
        (λ d. ⊎_elim
        (λ y. omega (linear, e.least k d, price_new k d, add3 b c (price p.prices k), add3 b c (price q.prices k)))
        (λ y. omega (linear, e.bound, price_new k d, add3 b c (price p.prices k), add3 b c (price q.prices k)))
        y)

    under : (i l : ℕ) → far_of p l ≡ way o p.prices (entry p.nodes i) (v.base i) l → far_of p l ≤ℤ z → way o q.prices (entry p.nodes i) (v.base i) l ≤ℤ z
    under i l y n =
        let b = v.base i in
        let c = paid o (entry p.nodes i) l in
        by_gone p l
        (λ g. omega (linear, y, price_gone l g, add3 b c (price p.prices l), add3 b c (price q.prices l), add (price p.prices l) (z -ℤ far_of p l), sub z (far_of p l)))
        (λ d. omega (linear, y, n, price_new l d, add3 b c (price p.prices l), add3 b c (price q.prices l)))

    between : (i l j : ℕ) → i ≤ p.step → far_of p l ≡ way o p.prices (entry p.nodes i) (v.base i) l → far_of p l ≤ℤ z → may o (entry p.nodes i) j
        → net (paid o) q.prices (entry p.nodes i) l ≤ℤ net (paid o) q.prices (entry p.nodes i) j
    between i l j h y n a =
        let b = v.base i in
        let c = paid o (entry p.nodes i) l in
        let c' = paid o (entry p.nodes i) j in
        omega (linear, over i j h a, under i l y n, add3 b c (price q.prices l), add3 b c' (price q.prices j), add c (price q.prices l), add c' (price q.prices j))

    -- the node by which a label was found may take it
    link_at : (l : ℕ) → far_of p l <ℤ unmet → far_of p l ≤ℤ z → (by_of p l ≤ p.step) × Best o.nodes.now.sets o.nodes.now.own (paid o) q.prices (entry p.nodes (by_of p l)) l
    link_at l m n =
        let (h, a, y) = v.found l m in
        let g : by_of p l ≤ p.step = omega arith in
        (g, record { may = a; least = λ j b. between (by_of p l) l j g y n b })

    -- a node that is placed costs least where it is
    least : (u k : ℕ) → Placed t u → may o u k → net (paid o) q.prices u (entry s.taken u) ≤ℤ net (paid o) q.prices u k
    least u k h a = by_gone p (entry s.taken u)
        (λ (i, x, g, y).
        let y' = v.steps i x g in
        let l = entry p.labels i in
        let w = price p.prices l in
        let c = paid o (entry p.nodes i) l in
        let small : entry s.taken u < 64 = (let n = y'.small in omega arith) in
        let node : entry p.nodes i ≡ u = y'.node ∙ ap (entry s.holders) y ∙ (t.linked.taker u (placed_few t u h) small).1 in
        let far : far_of p l ≡ way o p.prices (entry p.nodes i) (v.base i) l = omega (linear, y'.base_is, add3 (v.base i) c w, sub (far_of p l -ℤ w) c, sub (far_of p l) w) in
        let m = between i l k g far (gone_near i x g) (ap (λ (j : ℕ). opens o.nodes.now.sets o.nodes.now.own j k) node ∙ a) in
        subst (λ j. net (paid o) q.prices u j ≤ℤ net (paid o) q.prices u k) y (subst (λ j. net (paid o) q.prices j l ≤ℤ net (paid o) q.prices j k) node m))
        (λ d.
        let x = entry s.taken u in
        omega (linear, price_new x d, price_rises k, t.priced.least u k h a, add (paid o u x) (price p.prices x), add (paid o u x) (price q.prices x), add (paid o u k) (price p.prices k), add (paid o u k) (price q.prices k)))

    -- ---- p with these prices

    abbrev raised : Paths
    raised = record { prices = q.prices; far = p.far; by = p.by; labels = p.labels; nodes = p.nodes; step = p.step; waiting = q.waiting; home = p.home; home_by = p.home_by; bound = q.bound; goal = q.goal }

    raised_is : raised ≡ q
    raised_is = let y = r.stays in λ j. record { prices = q.prices; far = sym y.far j; by = sym y.by j; labels = sym y.labels j; nodes = sym y.nodes j; step = sym y.step j; waiting = q.waiting; home = sym y.home j; home_by = sym y.home_by j; bound = q.bound; goal = q.goal }

    link_raised : (l : ℕ) → far_of p l <ℤ unmet → far_of p l ≤ℤ z → Link o.nodes.now.sets o.nodes.now.own (paid o) raised l
    unfolding by_of
    link_raised l m n = link_at l m n

    after_raised : (i : ℕ) → 0 < i → i ≤ p.step → by_of raised (entry p.labels i) < i
    unfolding by_of
    after_raised i h g = (v.steps i h g).after

    trace_raised : Trace o.nodes.now.sets o.nodes.now.own (paid o) raised
    trace_raised = record {
      few = v.few;
      small = λ i h g. (v.steps i h g).small;
      after = after_raised;
      once = raising.once;
      links = λ i h g. link_raised (entry p.labels i) (v.steps i h g).met (gone_near i h g);
    }

    pub trace : Trace o.nodes.now.sets o.nodes.now.own (paid o) q
    trace = subst (Trace o.nodes.now.sets o.nodes.now.own (paid o)) raised_is trace_raised

    still : (i j : ℕ) → i ≤ p.step → 0 < j → j ≤ i → Placed t (entry p.nodes j) × (entry s.taken (entry p.nodes j) ≡ entry p.labels j)
    still i j h a b = step_node t v j a (omega arith)

    root_node : entry p.nodes 0 < o.nodes.now.count
    root_node = rw v.root_node t.node

    root_waits : bit t.out (entry p.nodes 0) ≡ true
    root_waits = rw v.root_node t.waits

    -- it ended at a free label
    opening_raised : end < 64 → bit s.free end ≡ true → Opening o.nodes.now.count t.out o.nodes.now.sets o.nodes.now.own (paid o) raised s.taken s.free end
    unfolding by_of
    opening_raised h f =
        let l = link_raised end e.met (le_refl z) in
        record {
          few = o.nodes.now.few;
          node = root_node;
          waits = root_waits;
          seated = t.seated;
          least = least;
          idle = λ x a b _. idle x a b;
          small = h;
          here = f;
          link = l;
          still = λ j a b. still (by_of p end) j l.0 a b;
        }

    pub opening : end < 64 → bit s.free end ≡ true → Opening o.nodes.now.count t.out o.nodes.now.sets o.nodes.now.own (paid o) q s.taken s.free end
    opening h f = subst (λ w. Opening o.nodes.now.count t.out o.nodes.now.sets o.nodes.now.own (paid o) w s.taken s.free end) raised_is (opening_raised h f)

    -- it ended at 255
    module _ (last : end ≡ 255) where
      best_home : {i : ℕ} → i ≡ by_of p 255 → (i ≤ p.step) × Best o.nodes.now.sets o.nodes.now.own (paid o) q.prices (entry p.nodes i) 255
      best_home {i} b = subst (λ j. (j ≤ p.step) × Best o.nodes.now.sets o.nodes.now.own (paid o) q.prices (entry p.nodes j) 255) (sym b)
          (subst (λ l. (by_of p l ≤ p.step) × Best o.nodes.now.sets o.nodes.now.own (paid o) q.prices (entry p.nodes (by_of p l)) l) last (link_at end e.met (le_refl z)))

      -- over no other node: the root has it, and takes no label
      pub settled_home : 0 ≡ by_of p 255 → Cheapest o.nodes.now.count (bit_xor t.out (2 ^ root)) o.nodes.now.sets o.nodes.now.own (paid o) s.taken s.free q.prices
      settled_home b =
          let best = rw v.root_node at (best_home b).1 in
          let at = t.seated.later root (root_few t) (λ d. differ t.waits d.1) in
          record {
            seated = record {
              seat = λ u h g. by-same u root
                  (λ x. (ap (entry s.taken) x ∙ at, ap (flag o.nodes.now.own) x ∙ sym (opens-own o.nodes.now.sets o.nodes.now.own root) ∙ best.may))
                  (λ d. t.seated.seat u (before u d h) g);
              later = λ u h g. by-same u root (λ x. ap (entry s.taken) x ∙ at) (λ d. t.seated.later u h (λ y. g (y.0, bit_kept t.out root u d ∙ y.1)));
            };
            least = λ u k h a. by-same u root
                (λ x. subst (λ y. net (paid o) q.prices y (entry s.taken y) ≤ℤ net (paid o) q.prices y k) (sym x) (rw at (best.least k (ap (λ (y : ℕ). opens o.nodes.now.sets o.nodes.now.own y k) (sym x) ∙ a))))
                (λ d. least u k (before u d h) a);
            idle = idle;
          }
        where
          before : (u : ℕ) → (u ≡ root → ⊥) → Stands o.nodes.now.count (bit_xor t.out (2 ^ root)) u → Placed t u
          before u d (x, y) = (x, sym (bit_kept t.out root u d) ∙ y)

      -- over another node: it leaves its label
      module _ {i : ℕ} (b : i ≡ by_of p 255) (some : 0 < i) where
        pub leaver_few : entry p.nodes i < 64
        leaver_few = placed_few t (entry p.nodes i) (step_node t v i some (best_home b).0).0

        pub leaver_step : i < 64
        leaver_step = omega (arith, (best_home b).0, v.few)

        home_raised : {left : ℕ} → Joined s.free (entry s.taken (entry p.nodes i)) left
            → Opening o.nodes.now.count t.out o.nodes.now.sets o.nodes.now.own (paid o) raised (set s.taken (entry p.nodes i) 255) left (entry p.labels i)
        home_raised {left} joined =
            let g = (best_home b).0 in
            opened trace_raised t.linked o.nodes.now.count t.out o.nodes.now.few root_node root_waits t.seated least some g (λ j x y. still i j g x y) joined (best_home b).1 (λ _. refl) refl
            (from_free trace_raised t.linked o.nodes.now.count t.out o.nodes.now.few root_node root_waits t.seated least some g (λ j x y. still i j g x y) joined)
            (λ x h f d. idle x h (left_back trace_raised t.linked o.nodes.now.count t.out o.nodes.now.few root_node root_waits t.seated least some g (λ j x y. still i j g x y) joined x h d f))

        pub opening_home : {left : ℕ} → Joined s.free (entry s.taken (entry p.nodes i)) left
            → Opening o.nodes.now.count t.out o.nodes.now.sets o.nodes.now.own (paid o) q (set s.taken (entry p.nodes i) 255) left (entry p.labels i)
        opening_home {left} joined = subst (λ w. Opening o.nodes.now.count t.out o.nodes.now.sets o.nodes.now.own (paid o) w (set s.taken (entry p.nodes i) 255) left (entry p.labels i)) raised_is (home_raised joined)

    -- the nodes placed then, with the prices
    pub settled_priced : {taken : List ℕ} {free : ℕ} → Cheapest o.nodes.now.count (bit_xor t.out (2 ^ root)) o.nodes.now.sets o.nodes.now.own (paid o) taken free q.prices → Priced (Stands o.nodes.now.count (bit_xor t.out (2 ^ root))) o.nodes.now.sets o.nodes.now.own (paid o) taken free q.prices
    settled_priced m = record { size = r.size; floor = prices_floor; top = prices_top; least = m.least; idle = m.idle }

-- ---- no node is placed

pub no_prices : (l : ℕ) → price (replicate 64 (pos 0)) l ≡ pos 0
no_prices l = by-test (ltb l 64)
    (λ h. get_or-replicate 64 l (pos 0) (pos 0) (ltb-true l 64 h))
    (λ h. price_beyond (replicate 64 (pos 0)) l refl (ltb-false l 64 h))

-- no node stands
pub none_stands : {n : ℕ} → n ≤ 64 → (u : ℕ) → Stands n (2 ^ 64 - 1) u → ⊥
none_stands h u (a, b) = differ (bit_full u (omega arith)) b

pub standing_none : {n : ℕ} → n ≤ 64 → (own : List Bool) {taken : List ℕ} → ((u : ℕ) → u < 64 → entry taken u ≡ 255) → Standing (Stands n (2 ^ 64 - 1)) own taken
standing_none few own f = record { seat = λ u h g. absurd (none_stands few u h); later = λ u h g. f u h }

pub priced_none : {D : ℕ → Type 0} → ((u : ℕ) → D u → ⊥) → (sets : List ℕ) (own : List Bool) (c : ℕ → ℕ → ℤ) (taken : List ℕ) (free : ℕ) → Priced D sets own c taken free (replicate 64 (pos 0))
priced_none none sets own c taken free = record {
  size = refl;
  floor = λ l. let e = no_prices l in omega (linear, e);
  top = λ l. rw (no_prices l) (omega arith);
  least = λ u k h. absurd (none u h);
  idle = λ l h f. no_prices l;
}

-- all stand
module _ (n out : ℕ) (all : (u : ℕ) → u < n → bit out u ≡ false) where
  pub standing_all : {own : List Bool} {taken : List ℕ} → Standing (Stands n out) own taken → Seated own 64 n taken
  standing_all s = record {
    seat = λ u h g. s.seat u (h, all u h) g;
    later = λ u h g. s.later u g (λ d. omega (arith, d.0));
    vacant = λ u h g. absurd (omega arith);
  }

  pub priced_all : {sets : List ℕ} {own : List Bool} {c : ℕ → ℕ → ℤ} {taken : List ℕ} {free : ℕ} {prices : List ℤ} → Priced (Stands n out) sets own c taken free prices → Priced (λ u. u < n) sets own c taken free prices
  priced_all p = record { size = p.size; floor = p.floor; top = p.top; least = λ u k h a. p.least u k (h, all u h) a; idle = p.idle }
