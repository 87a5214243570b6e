-- Bids: what a node bids, and that the nodes placed stay where they cost least.
-- Assumes nothing.
use mathlib.Core.Path.{◌≡◌, refl, sym, ap, ◌∙◌, subst}
use mathlib.Core.Bool.{Bool, true, cond}
use mathlib.Core.List.{List}
use mathlib.Core.Logic.{◌⊎◌, inl, inr, ⊎_elim}
use Prim.Native.Nat.{ℕ, ◌+◌, ◌-◌, ◌*◌, ◌^◌, ◌≤◌, ◌<◌}
use native.Mathlib.Omega.{arith}
use borrow.Author.Tests.{ne_eqb, eqb-false, ltb-true, ltb-false}
use lib.Bits.{bit_xor}
use lib.Dec.{eqb, ltb}
use lib.IntN.{ℤ, pos, ◌+ℤ◌, ◌-ℤ◌, nat_abs}
use lib.Signed.{◌≤ℤ◌, ◌<ℤ◌, lt_z}
use lib.ListN.{length, get_or, set, replicate, length-set}
use lib.Seq.{get_or-set_same, get_or-set_other}
use Rattle.integers.specs.Words.{bit}
use Rattle.integers.proofs.Words.{bit_dropped, bit_kept}
use Rattle.integers.proofs.Places.{by-test, if-true, if-false}
use Rattle.integers.proofs.Parts.{linear, parts, add, sub, abs, apart}
use Rattle.integers.proofs.Order.{le_refl, le_trans}
use Rattle.assignment.proofs.Counts.{differ, by-same}
use Rattle.placing.specs.declared.offers.Offers.{Offers}
use Rattle.placing.specs.Words.{entry, flag, opens, Linked, Joined, Stands, Standing}
use Rattle.placing.specs.Priced.{price, net, Priced}
use Rattle.placing.specs.Paths.{paid, may, unmet}
use Rattle.placing.specs.Choices.{Lesser, Greater}
use Rattle.placing.specs.Bids.{Choice, Displaced, UpTo, Others, Aloft, Landed}
use Rattle.placing.proofs.Searching.{or_fails}
use Rattle.placing.proofs.Offering.{paid_within}
use Rattle.placing.proofs.Slots.{opens_kinds, opens-bit, opens-own}
use Rattle.placing.proofs.Tracing.{no_prices, none_stands, standing_none, priced_none}

-- ---- the two least of a row: the first k of its labels f

pub record Two (o : Offers) (prices : List ℤ) (u : ℕ) (f : ℕ → ℕ) (k label : ℕ) (least second : ℤ) : Type 0 where
  pub best : ℕ
  pub inside : best < k
  pub label_is : label ≡ f best
  pub least_is : least ≡ net (paid o) prices u (f best)
  pub order : least ≤ℤ second
  pub others : (j : ℕ) → j < k → (j ≡ best → ⊥) → second ≤ℤ net (paid o) prices u (f j)
  pub met : second <ℤ unmet → (j : ℕ) × (j < k) × (j ≡ best → ⊥) × (second ≡ net (paid o) prices u (f j))

pub two_one : {o : Offers} {prices : List ℤ} {u : ℕ} (f : ℕ → ℕ) {least : ℤ} → least ≡ net (paid o) prices u (f 0) → least <ℤ unmet → Two o prices u f 1 (f 0) least unmet
two_one f e h = record {
  best = 0;
  inside = omega arith;
  label_is = refl;
  least_is = e;
  order = omega linear;
  others = λ j g d. absurd (d (omega arith));
  met = λ z. absurd (omega linear);
}

module _ {o : Offers} {prices : List ℤ} {u : ℕ} {f : ℕ → ℕ} {k label : ℕ} {least second : ℤ} (t : Two o prices u f k label least second) {n : ℤ} (here : n ≡ net (paid o) prices u (f k)) where
  -- the next costs less than all before
  two_nearer : {z : ℤ} → n <ℤ least → z ≡ least → Two o prices u f (k + 1) (f k) n z
  two_nearer {z} less ez = record {
    best = k;
    inside = omega arith;
    label_is = refl;
    least_is = here;
    order = omega (linear, parts ez);
    others = λ j g d. by-same j t.best
        (λ q. subst (λ i. z ≤ℤ net (paid o) prices u (f i)) (sym q) (omega (linear, parts ez, parts t.least_is)))
        (λ q. let y = t.others j (omega arith) q in let w = t.order in omega (linear, parts ez));
    met = λ h. (t.best, omega (arith, t.inside), (λ q. omega (arith, t.inside)), ez ∙ t.least_is);
  }

  -- it does not
  two_other : {z : ℤ} → least ≤ℤ n → Lesser second n z → Two o prices u f (k + 1) label least z
  two_other {z} more (a, b, e) = record {
    best = t.best;
    inside = omega (arith, t.inside);
    label_is = t.label_is;
    least_is = t.least_is;
    order = let w = t.order in ⊎_elim (λ q. omega (linear, parts q)) (λ q. omega (linear, parts q)) e;
    others = λ j g d. by-same j k
        (λ q. subst (λ i. z ≤ℤ net (paid o) prices u (f i)) (sym q) (omega (linear, parts here)))
        (λ q. le_trans a (t.others j (omega arith) d));
    met = λ h. ⊎_elim
        (λ q. let (j, g, d, y) = t.met (omega (linear, parts q)) in (j, omega arith, d, q ∙ y))
        (λ q. (k, omega arith, (λ y. omega (arith, t.inside)), q ∙ here))
        e;
  }

  pub two_more : {x y z : ℤ} {test : Bool} {l : ℕ} → test ≡ lt_z n least → l ≡ cond test (f k) label → Lesser least n x → Greater least n y → Lesser second y z → Two o prices u f (k + 1) l x z
  two_more {x} {y} {z} {test} {l} et el lx gy lz = by-test test
      (λ q.
      let less : n <ℤ least = (let w = sym et ∙ q in omega linear) in
      let ex : x ≡ n = (⊎_elim (λ r. absurd (let w = lx.1 in omega (linear, parts r))) (λ r. r) lx.2) in
      let ey : y ≡ least = (⊎_elim (λ r. r) (λ r. absurd (let w = gy.0 in omega (linear, parts r))) gy.2) in
      let ez : z ≡ least = (⊎_elim (λ r. omega (linear, parts r, parts ey, t.order, lz.1)) (λ r. r ∙ ey) lz.2) in
      subst (λ i. Two o prices u f (k + 1) i x z) (sym (el ∙ if-true (f k) label q)) (subst (λ i. Two o prices u f (k + 1) (f k) i z) (sym ex) (two_nearer less ez)))
      (λ q.
      let more : least ≤ℤ n = (let w = sym et ∙ q in omega linear) in
      let ex : x ≡ least = (⊎_elim (λ r. r) (λ r. omega (linear, parts r, lx.0)) lx.2) in
      let ey : y ≡ n = (⊎_elim (λ r. omega (linear, parts r, gy.1)) (λ r. r) gy.2) in
      subst (λ i. Two o prices u f (k + 1) i x z) (sym (el ∙ if-false (f k) label q)) (subst (λ i. Two o prices u f (k + 1) label i z) (sym ex) (two_other more (subst (λ i. Lesser second i z) ey lz))))

-- all of them: labels that are all of u's, none twice
pub two_done : {o : Offers} {prices : List ℤ} {u : ℕ} {f : ℕ → ℕ} {k label : ℕ} {least second : ℤ} → Two o prices u f k label least second
    → ((j : ℕ) → j < k → may o u (f j)) → ((l : ℕ) → may o u l → (j : ℕ) × (j < k) × (f j ≡ l)) → ((i j : ℕ) → i < k → j < k → f i ≡ f j → i ≡ j)
    → {raise : ℤ} → (second <ℤ unmet → raise ≡ second -ℤ least) → (unmet ≤ℤ second → raise ≡ pos 0)
    → ((k : ℕ) → net (paid o) prices u k <ℤ unmet) → Choice o prices u label raise
two_done {o} {prices} {u} {f} {k} {label} {least} {second} t has all once {raise} low high small = record {
  has = subst (may o u) (sym t.label_is) (has t.best t.inside);
  floor = by-test (lt_z second unmet) (λ z. let y = low (omega linear) in omega (linear, parts y, sub second least, t.order)) (λ z. let y = high (omega linear) in omega (linear, parts y));
  others = λ l m d.
      let (j, h, e) = all l m in
      let y = other l j h e d in
      let w = met l y in omega (linear, sum w, y);
  exact = by-test (lt_z second unmet)
      (λ z. let met' : second <ℤ unmet = omega linear in
      let (j, h, d, e) = t.met met' in
      inl (f j, has j h, (λ q. d (once j t.best h t.inside (q ∙ t.label_is))), omega (linear, sum met', e)))
      (λ z. inr (
        (λ l m. let (j, h, e) = all l m in
            by-same l label (λ q. q) (λ d. let y = other l j h e d in let w = met l y in absurd (omega linear))),
        high (omega linear),
      ));
}
  where
    other : (l j : ℕ) → j < k → f j ≡ l → (l ≡ label → ⊥) → second ≤ℤ net (paid o) prices u l
    other l j h e d = subst (λ i. second ≤ℤ net (paid o) prices u i) e (t.others j h (λ q. d (sym e ∙ ap f q ∙ sym t.label_is)))

    met : (l : ℕ) → second ≤ℤ net (paid o) prices u l → second <ℤ unmet
    met l y = let s = small l in omega (linear, y, s)

    least_net : least ≡ net (paid o) prices u label
    least_net = t.least_is ∙ ap (net (paid o) prices u) (sym t.label_is)

    sum : second <ℤ unmet → (net (paid o) prices u label +ℤ raise) ≡ second
    sum z = let y = low z in omega (linear, parts y, parts least_net, sub second least, add (net (paid o) prices u label) raise)

-- the rise is no large number
pub raise_small : {o : Offers} {prices : List ℤ} {u : ℕ} {f : ℕ → ℕ} {k label : ℕ} {least second : ℤ} → Two o prices u f k label least second → second <ℤ unmet
    → ((l : ℕ) → nat_abs (price prices l) ≤ 2 ^ 50) → nat_abs (second -ℤ least) ≤ 2 ^ 53
raise_small {o} {prices} {u} {f} {least = least} {second} t h few =
    let (j, _, _, e) = t.met h in
    let b = f t.best in
    let s = f j in
    omega (
      linear,
      e,
      t.least_is,
      sub second least,
      abs (second -ℤ least),
      apart (second -ℤ least),
      add (paid o u b) (price prices b),
      add (paid o u s) (price prices s),
      abs (paid o u b),
      abs (paid o u s),
      abs (price prices b),
      abs (price prices s),
      paid_within o u b,
      paid_within o u s,
      few b,
      few s,
    )

-- ---- a bid: the nodes placed stay where they cost least

-- the same nodes, said otherwise
pub standing_as : (D E : ℕ → Type 0) → ((x : ℕ) → D x → E x) → ((x : ℕ) → E x → D x) → {own : List Bool} {taken : List ℕ} → Standing D own taken → Standing E own taken
standing_as D E f g s = record { seat = λ u h. s.seat u (g u h); later = λ u h d. s.later u h (λ x. d (f u x)) }

pub priced_as : (D E : ℕ → Type 0) → ((x : ℕ) → E x → D x) → {sets : List ℕ} {own : List Bool} {c : ℕ → ℕ → ℤ} {taken : List ℕ} {free : ℕ} {prices : List ℤ} → Priced D sets own c taken free prices → Priced E sets own c taken free prices
priced_as D E g p = record { size = p.size; floor = p.floor; top = p.top; least = λ u k h. p.least u k (g u h); idle = p.idle }

upto_more : (prices : List ℤ) {m m' : ℕ} → m ≤ m' → UpTo m prices → UpTo m' prices
upto_more prices h b l = let y = b l in omega arith

-- more bids are allowed for
pub aloft_more : {o : Offers} {taken : List ℕ} {free : ℕ} {prices : List ℤ} {out m a : ℕ} (m' : ℕ) → m ≤ m' → Aloft o taken free prices out m a → Aloft o taken free prices out m' a
aloft_more {prices = prices} m' h v = record { kind = v.kind; seated = v.seated; priced = v.priced; bound = upto_more prices h v.bound }

module _ {o : Offers} {taken : List ℕ} {free : ℕ} {prices : List ℤ} {out m u : ℕ} (v : Aloft o taken free prices out m u) (small : u < 64) where
  abbrev n : ℕ
  n = o.nodes.now.count

  pub bidder : Stands n out u
  bidder = ⊎_elim (λ e. absurd (omega arith)) (λ s. s) v.kind

  pub bidder_none : entry taken u ≡ 255
  bidder_none = v.seated.later u small (λ d. d.1 refl)

  module _ {label : ℕ} {raise : ℤ} (ch : Choice o prices u label raise) where
    -- 255: u has it, and takes no label
    pub bid_home : 64 ≤ label → Aloft o taken free prices out (m + 1) 255
    bid_home h = record {
      kind = inl refl;
      seated = record {
        seat = λ x d g. by-same x u
            (λ e. (ap (entry taken) e ∙ bidder_none, ap (flag o.nodes.now.own) e ∙ sym (opens-own o.nodes.now.sets o.nodes.now.own u) ∙ sym (ap (opens o.nodes.now.sets o.nodes.now.own u) last) ∙ ch.has))
            (λ e. v.seated.seat x (d.0, e) g);
        later = λ x l d. v.seated.later x l (λ y. d (y.0, λ e. omega arith));
      };
      priced = record {
        size = v.priced.size;
        floor = v.priced.floor;
        top = v.priced.top;
        least = λ x k d a. by-same x u
            (λ e. subst (λ y. net (paid o) prices y (entry taken y) ≤ℤ net (paid o) prices y k) (sym e) (home k (ap (λ (y : ℕ). opens o.nodes.now.sets o.nodes.now.own y k) (sym e) ∙ a)))
            (λ e. v.priced.least x k (d.0, e) a);
        idle = v.priced.idle;
      };
      bound = upto_more prices {m = m} {m' = m + 1} (omega arith) v.bound;
    }
      where
        last : label ≡ 255
        last = ⊎_elim (λ l. absurd (omega arith)) (λ e. e) (opens_kinds o.nodes.now.sets o.nodes.now.own u label ch.has)

        home : (k : ℕ) → may o u k → net (paid o) prices u (entry taken u) ≤ℤ net (paid o) prices u k
        home k a = subst (λ i. net (paid o) prices u i ≤ℤ net (paid o) prices u k) (last ∙ sym bidder_none)
            (by-same k label
            (λ e. subst (λ i. net (paid o) prices u label ≤ℤ net (paid o) prices u i) (sym e) (le_refl (net (paid o) prices u label)))
            (λ d. omega (linear, ch.others k a d, ch.floor, add (net (paid o) prices u label) raise)))

    -- a label below 64: the node a that had it is not placed, and u is
    module _ (few : m < 512) (inside : label < 64) {holders reach : List ℕ} (k : Linked o.nodes.now.sets taken holders reach free)
        {left : List ℕ} {room a : ℕ} (d : Displaced taken free label left room a) (size : length left ≡ 64) where
      bidder_apart : u ≡ a → ⊥
      bidder_apart e = ⊎_elim (λ y. omega arith) (λ (_, y, _). omega (arith, bidder_none, ap (entry taken) e)) d.kind

      pub give_none : 64 ≤ entry left u
      give_none = omega (arith, d.others u bidder_apart, bidder_none)

      pub give_has : bit (entry o.nodes.now.sets u) label ≡ true
      give_has = sym (opens-bit o.nodes.now.sets o.nodes.now.own u label inside) ∙ ch.has

      abbrev raised : ℤ
      raised = price prices label +ℤ raise

      -- the label costs no more than the dearest second does
      raised_bound : nat_abs raised ≤ (m + 1) * 2 ^ 41
      raised_bound = ⊎_elim
          (λ (j, _, _, e). omega (
            linear,
            e,
            add (net (paid o) prices u label) raise,
            add (paid o u label) (price prices label),
            add (paid o u j) (price prices j),
            add (price prices label) raise,
            abs raised,
            apart raised,
            abs (paid o u label),
            abs (paid o u j),
            abs (price prices j),
            paid_within o u label,
            paid_within o u j,
            v.bound j,
            v.priced.floor label,
            ch.floor,
          ))
          (λ (_, e). omega (linear, parts e, add (price prices label) raise, abs raised, apart raised, abs (price prices label), v.bound label))
          ch.exact

      pub raised_small : nat_abs raised ≤ 2 ^ 50
      raised_small = omega (arith, raised_bound, few)

      module _ {taken' : List ℕ} {free' : ℕ} {prices' : List ℤ} (et : taken' ≡ set left u label) (ef : free' ≡ bit_xor room (2 ^ label)) (ep : prices' ≡ set prices label raised) where
        at : entry taken' u ≡ label
        at = ap (λ (t : List ℕ). entry t u) et ∙ get_or-set_same left u label 0 (omega (arith, size))

        elsewhere : (x : ℕ) → (x ≡ u → ⊥) → (x ≡ a → ⊥) → entry taken' x ≡ entry taken x
        elsewhere x e f = ap (λ (t : List ℕ). entry t x) et ∙ get_or-set_other left u x label 0 e ∙ d.others x f

        price_here : price prices' label ≡ raised
        price_here = ap (λ (t : List ℤ). get_or t label (pos 0)) ep ∙ get_or-set_same prices label raised (pos 0) (omega (arith, inside, v.priced.size))

        price_other : (l : ℕ) → (l ≡ label → ⊥) → price prices' l ≡ price prices l
        price_other l e = ap (λ (t : List ℤ). get_or t l (pos 0)) ep ∙ get_or-set_other prices label l raised (pos 0) e

        rises : (l : ℕ) → price prices l ≤ℤ price prices' l
        rises l = by-same l label
            (λ e. subst (λ i. price prices i ≤ℤ price prices' i) (sym e) (omega (linear, parts price_here, add (price prices label) raise, ch.floor)))
            (λ e. omega (linear, parts (price_other l e)))

        -- by a rise that is none, or the label's price is higher
        pub bid_dearer : (raise ≡ pos 0 → ⊥) → price prices label <ℤ price prices' label
        bid_dearer f = by-test (lt_z (pos 0) raise)
            (λ e. omega (linear, parts price_here, add (price prices label) raise))
            (λ e. absurd (f (omega (linear, ch.floor))))

        bound' : UpTo (m + 1) prices'
        bound' l = by-same l label
            (λ e. subst (λ i. nat_abs (price prices' i) ≤ (m + 1) * 2 ^ 41) (sym e) (rw price_here raised_bound))
            (λ e. rw (price_other l e) (upto_more prices {m = m} {m' = m + 1} (omega arith) v.bound l))

        -- u costs least at the label
        here : (j : ℕ) → may o u j → net (paid o) prices' u label ≤ℤ net (paid o) prices' u j
        here j b = by-same j label
            (λ e. subst (λ i. net (paid o) prices' u label ≤ℤ net (paid o) prices' u i) (sym e) (le_refl (net (paid o) prices' u label)))
            (λ e. omega (
              linear,
              ch.others j b e,
              parts price_here,
              parts (price_other j e),
              add (net (paid o) prices u label) raise,
              add (paid o u label) (price prices label),
              add (paid o u label) (price prices' label),
              add (paid o u j) (price prices j),
              add (paid o u j) (price prices' j),
              add (price prices label) raise,
            ))

        -- another node where it was
        there : (x j : ℕ) → Stands n out x → (x ≡ u → ⊥) → (x ≡ a → ⊥) → may o x j → net (paid o) prices' x (entry taken x) ≤ℤ net (paid o) prices' x j
        there x j s e f b =
            let l = entry taken x in
            let away : l ≡ label → ⊥ = (λ q. f (d.only x (omega (arith, s.0, o.nodes.now.few)) q)) in
            omega (
              linear,
              v.priced.least x j (s, e) b,
              parts (price_other l away),
              rises j,
              add (paid o x l) (price prices l),
              add (paid o x l) (price prices' l),
              add (paid o x j) (price prices j),
              add (paid o x j) (price prices' j),
            )

        -- the node that is left was placed
        left_stands : (a ≡ 255) ⊎ Stands n out a
        left_stands = ⊎_elim (λ e. inl e) (λ (h, e, _). inr (placed h (λ q. omega (arith, v.seated.later a h q)))) d.kind
          where
            placed : a < 64 → ((Others n out u a → ⊥) → ⊥) → Stands n out a
            placed h f = by-test (ltb a n)
                (λ x. by-test (bit out a) (λ y. absurd (f (λ z. differ y z.0.1))) (λ y. (ltb-true a n x, y)))
                (λ x. absurd (f (λ z. let g = ltb-false a n x in omega (arith, z.0.0))))

        pub bid_taken : Aloft o taken' free' prices' out (m + 1) a
        bid_taken = record {
          kind = left_stands;
          seated = record {
            seat = λ x s g. by-same x u
                (λ e. absurd (omega (arith, inside, at, ap (entry taken') e)))
                (λ e. rw (elsewhere x e s.1) (v.seated.seat x (s.0, e) (rw (elsewhere x e s.1) at g)));
            later = λ x l s. by-same x u
                (λ e. absurd (s (subst (Stands n out) (sym e) bidder, λ q. bidder_apart (sym e ∙ q))))
                (λ e. by-same x a
                (λ q. ap (λ (t : List ℕ). entry t x) et ∙ get_or-set_other left u x label 0 e ∙ ap (entry left) q ∙ ⊎_elim (λ y. absurd (omega arith)) (λ (_, _, y). y) d.kind)
                (λ q. elsewhere x e q ∙ v.seated.later x l (λ y. s (y.0, q))));
          };
          priced = record {
            size = ap length ep ∙ length-set prices label raised ∙ v.priced.size;
            floor = λ l. le_trans (v.priced.floor l) (rises l);
            top = λ l. let b = bound' l in omega (arith, few);
            least = λ x j s b. by-same x u
                (λ e. subst (λ y. net (paid o) prices' y (entry taken' y) ≤ℤ net (paid o) prices' y j) (sym e) (rw at (here j (ap (λ (y : ℕ). opens o.nodes.now.sets o.nodes.now.own y j) (sym e) ∙ b))))
                (λ e. rw (elsewhere x e s.1) (there x j s.0 e s.1 b));
            idle = λ l h b. by-same l label
                (λ e. absurd (differ b (ap (λ (w : ℕ). bit w l) ef ∙ ap (bit (bit_xor room (2 ^ label))) e ∙ bit_dropped room label d.vacant)))
                (λ e. price_other l e ∙ v.priced.idle l h (sym (d.back l h e) ∙ sym (bit_kept room label l e) ∙ ap (λ (w : ℕ). bit w l) (sym ef) ∙ b));
          };
          bound = bound';
        }

-- ---- a chain of bids

module _ {o : Offers} {taken : List ℕ} {free : ℕ} {prices : List ℤ} where
  -- a node bids that is not placed
  pub aloft_begins : {out m u : ℕ} → Landed o taken free prices out m → u < o.nodes.now.count → bit out u ≡ true → Aloft o taken free prices (bit_xor out (2 ^ u)) m u
  aloft_begins {out} {m} {u} v h b = record {
    kind = inr (h, bit_dropped out u b);
    seated = standing_as (Stands o.nodes.now.count out) (Others o.nodes.now.count (bit_xor out (2 ^ u)) u) into back v.seated;
    priced = priced_as (Stands o.nodes.now.count out) (Others o.nodes.now.count (bit_xor out (2 ^ u)) u) back v.priced;
    bound = v.bound;
  }
    where
      apart' : (x : ℕ) → Stands o.nodes.now.count out x → x ≡ u → ⊥
      apart' x s e = differ b (ap (bit out) (sym e) ∙ s.1)

      into : (x : ℕ) → Stands o.nodes.now.count out x → Others o.nodes.now.count (bit_xor out (2 ^ u)) u x
      into x s = ((s.0, bit_kept out u x (apart' x s) ∙ s.1), apart' x s)

      back : (x : ℕ) → Others o.nodes.now.count (bit_xor out (2 ^ u)) u x → Stands o.nodes.now.count out x
      back x ((l, e), d) = (l, sym (bit_kept out u x d) ∙ e)

  -- the one that is not placed in the end is of the word then
  pub aloft_ends : {out m a out' : ℕ} → Aloft o taken free prices out m a → Joined out a out' → Landed o taken free prices out' m
  aloft_ends {out} {m} {a} {out'} v j = record {
    seated = standing_as (Others o.nodes.now.count out a) (Stands o.nodes.now.count out') into back v.seated;
    priced = priced_as (Others o.nodes.now.count out a) (Stands o.nodes.now.count out') back v.priced;
    bound = v.bound;
  }
    where
      into : (x : ℕ) → Others o.nodes.now.count out a x → Stands o.nodes.now.count out' x
      into x ((l, e), d) = (l, j.1 x (omega (arith, l, o.nodes.now.few)) ∙ rw (e, ne_eqb x a d))

      back : (x : ℕ) → Stands o.nodes.now.count out' x → Others o.nodes.now.count out a x
      back x (l, e) =
          let (f, g) = or_fails (bit out x) (eqb x a) (sym (j.1 x (omega (arith, l, o.nodes.now.few))) ∙ e) in
          ((l, f), eqb-false x a g)

  -- more bids are allowed for
  pub landed_more : {out m : ℕ} (m' : ℕ) → m ≤ m' → Landed o taken free prices out m → Landed o taken free prices out m'
  landed_more m' h v = record { seated = v.seated; priced = v.priced; bound = upto_more prices h v.bound }

-- no node has bidden
pub landed_none : (o : Offers) (taken : List ℕ) (free : ℕ) → ((u : ℕ) → u < 64 → entry taken u ≡ 255) → Landed o taken free (replicate 64 (pos 0)) (2 ^ 64 - 1) 0
landed_none o taken free f = record {
  seated = standing_none o.nodes.now.few o.nodes.now.own f;
  priced = priced_none (none_stands o.nodes.now.few) o.nodes.now.sets o.nodes.now.own (paid o) taken free;
  bound = λ l. rw (no_prices l) (omega arith);
}
