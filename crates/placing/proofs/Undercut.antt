-- Of the placings on tight cells that take all labels with a price, the smallest is the assignment: it costs least, and is the first of those that do.
-- Assumes nothing.
use mathlib.Core.Path.{◌≡◌, sym, ap, ◌∙◌}
use mathlib.Core.Bool.{Bool, true, false}
use mathlib.Core.List.{List}
use mathlib.Core.Logic.{⊎_elim}
use mathlib.Core.Option.{none, some}
use Prim.Native.Nat.{ℕ, ◌+◌, ◌≤◌, ◌<◌}
use native.Mathlib.Omega.{arith}
use borrow.Author.Tests.{eqb-true, eqb-false, ltb-true, ltb-false}
use lib.Dec.{eqb, ltb}
use lib.ListN.{length, get_or-eq_default}
use lib.IntN.{ℤ, pos, ◌+ℤ◌}
use Rattle.integers.specs.Words.{bit}
use Rattle.integers.proofs.Order.{le_refl, le_trans}
use Rattle.integers.proofs.Places.{by-test}
use Rattle.integers.proofs.Totals.{total_ext}
use Rattle.instance.specs.Instance.{Instance, first}
use Rattle.instance.specs.Readable.{Proper}
use Rattle.rules.specs.Costs.{Costs, chosen, node_sum, Matching}
use Rattle.rules.specs.Assigned.{assignment}
use Rattle.rules.proofs.Assigned.{Assigns, assignment_none, assignment_is}
use Rattle.assignment.specs.Rows.{Rows}
use Rattle.assignment.specs.First.{First}
use Rattle.assignment.specs.Prices.{cost_of, Balanced}
use Rattle.assignment.proofs.Counts.{differ, find}
use Rattle.assignment.proofs.Duality.{cheapest, cheapest_balanced}
use Rattle.placing.specs.Words.{entry, opens, slot_of, rows_of, All, Full, rank, Laid, Linked, Holds, Seated}
use Rattle.placing.specs.Priced.{cost_at, price, net, Priced, Tight, Unpriced}
use Rattle.placing.specs.Assigning.{node_costs, Seatable}
use Rattle.placing.proofs.Slots.{opens_kinds, opens-bit, opens-own, slot_label, slot_own}
use Rattle.placing.proofs.Linking.{linked_distinct}
use Rattle.placing.proofs.Holding.{linked_all}
use Rattle.placing.proofs.Answers.{ranks, position_is, rank_within, placed_matching, matching_placed, matching_rank, comes_before, rank_few}

-- ---- slots and their prices

module _ (n : ℕ) (sets : List ℕ) (own : List Bool) (c : ℕ → ℕ → ℤ) (prices : List ℤ) (size : length prices ≡ 64) where
  abbrev rows : Rows
  rows = rows_of n sets own

  none_past : (l : ℕ) → 64 ≤ l → price prices l ≡ pos 0
  none_past l h = get_or-eq_default prices (pos 0) {n = l} (omega (arith, size))

  -- the price of a label's slot is the label's
  slot_price : (u k : ℕ) → opens sets own u k ≡ true → price prices (slot_of k u) ≡ price prices k
  slot_price u k a = ⊎_elim
      (λ h. ap (price prices) (slot_label u h))
      (λ e. none_past (slot_of k u) (omega (arith, slot_own u e)) ∙ sym (none_past k (omega arith)))
      (opens_kinds sets own u k a)

  slot_inside : n ≤ 64 → (u k : ℕ) → u < n → opens sets own u k ≡ true → slot_of k u < 128
  slot_inside few u k h a = ⊎_elim (λ l. omega (arith, slot_label u l)) (λ e. omega (arith, slot_own u e)) (opens_kinds sets own u k a)

-- ---- prices that balance a placing, in words: the placings that they balance are those on tight cells that take all labels with a price

module _ {n : ℕ} {sets : List ℕ} {own : List Bool} {c : ℕ → ℕ → ℤ} {taken : List ℕ} {free : ℕ} {prices : List ℤ} (few : n ≤ 64) (p : Priced (λ u. u < n) sets own c taken free prices)
    {holders reach : List ℕ} (k : Linked sets taken holders reach free) {since : ℕ} (s : Seated own since n taken) where
  abbrev I' : Rows
  I' = rows_of n sets own

  abbrev Even : (ℕ → ℕ) → Type 0
  Even = Balanced I' c (price prices)

  placed : All n sets own (entry taken)
  placed = linked_all own k few s

  -- the net cost by the slot's price is that by the label's
  slot_net : (u l : ℕ) → opens sets own u l ≡ true → c u l +ℤ price prices (slot_of l u) ≡ net c prices u l
  slot_net u l a = ap (λ (z : ℤ). c u l +ℤ z) (slot_price n sets own c prices p.size u l a)

  own_net : (u : ℕ) → u < n → c u (entry taken u) +ℤ price prices (slot_of (entry taken u) u) ≡ net c prices u (entry taken u)
  own_net u h = slot_net u (entry taken u) (placed.allowed u h)

  module _ {sets' : List ℕ} {own' : List Bool} {idle : ℕ} (t : Tight n sets own c taken prices sets' own') (z : Unpriced prices idle) where
    pub full_balanced : {q : ℕ → ℕ} → Full n sets' own' idle q → Even q
    full_balanced {q} (m, filled) = record {
      placed = record { allowed = λ u h. (t.is u (q u) h (m.allowed u h)).0; distinct = m.distinct };
      least = λ u l h a. let (b, e) = t.is u (q u) h (m.allowed u h) in rw (slot_net u l a, slot_net u (q u) b) (le_trans e (p.least u l h a));
      floor = p.floor;
      idle = λ l h f. by-test (ltb l 64)
          (λ y. let g = ltb-true l 64 y in by-test (bit idle l) (z.is l g) (λ e. let (u, hu, q') = filled l g e in absurd (f u hu (slot_label u (omega arith) ∙ q'))))
          (λ y. none_past n sets own c prices p.size l (ltb-false l 64 y));
    }

    pub balanced_full : {q : ℕ → ℕ} → Even q → Full n sets' own' idle q
    balanced_full {q} b = (record { allowed = tight; distinct = b.placed.distinct }, filled)
      where
        tight : (u : ℕ) → u < n → opens sets' own' u (q u) ≡ true
        tight u h =
            let a = b.placed.allowed u h in
            t.has u (q u) h a (rw (slot_net u (q u) a, own_net u h) at (b.least u (entry taken u) h (placed.allowed u h)))

        filled : (l : ℕ) → l < 64 → bit idle l ≡ false → (u : ℕ) × (u < n) × (q u ≡ l)
        filled l h e = ⊎_elim
            (λ (u, g, y, _). (u, g, eqb-true (q u) l y))
            (λ f. absurd (differ (z.has l h (b.idle l (omega arith) (λ u g y. eqb-false (q u) l (f u g) (at u g y)))) e))
            (find n (λ u. eqb (q u) l))
          where
            at : (u : ℕ) → u < n → slot_of (q u) u ≡ l → q u ≡ l
            at u g y = ⊎_elim (λ i. sym (slot_label u i) ∙ y) (λ i. absurd (omega (arith, slot_own u i))) (opens_kinds sets own u (q u) (b.placed.allowed u g))

    -- what no placing undercuts, and before which none comes of those that cost as much
    pub first_balanced : {q : ℕ → ℕ} → First (Full n sets' own' idle) n q → First Even n q
    first_balanced f = record { one = full_balanced f.one; first = λ y b. f.first y (balanced_full b) }

-- ---- the same tables, for the search on tight cells

module _ {n : ℕ} {sets : List ℕ} {own : List Bool} {c : ℕ → ℕ → ℤ} {taken : List ℕ} {free : ℕ} {prices : List ℤ} (few : n ≤ 64) (p : Priced (λ u. u < n) sets own c taken free prices)
    {holders reach : List ℕ} (k : Linked sets taken holders reach free) {since : ℕ} (s : Seated own since n taken) where
  pub takes_own : (u : ℕ) → u < n → opens sets own u (entry taken u) ≡ true
  takes_own u h = (placed few p k s).allowed u h

  module _ {sets' : List ℕ} {own' : List Bool} (t : Tight n sets own c taken prices sets' own') where
    tight_own : (u : ℕ) → u < n → opens sets' own' u (entry taken u) ≡ true
    tight_own u h = t.has u (entry taken u) h (takes_own u h) (le_refl (net c prices u (entry taken u)))

    below_n : (u : ℕ) → u < 64 → entry taken u < 64 → u < n
    below_n u h l = by-test (ltb u n) (ltb-true u n) (λ y. let e = s.later u (ltb-false u n y) h in absurd (omega arith))

    pub tight_seatable : Seatable n sets' taken
    tight_seatable = record {
      few = few;
      inside = λ u h l. sym (opens-bit sets' own' u (entry taken u) l) ∙ tight_own u (below_n u h l);
      once = λ u w h h' l e. linked_distinct k u w h h' l e;
      none = λ u h l. by-test (ltb u n) (λ y. (s.seat u (ltb-true u n y) l).0) (λ y. s.later u (ltb-false u n y) h);
      later = s.later;
    }

    pub tight_seated : Seated own' 64 n taken
    tight_seated = record {
      seat = λ u h l. let e = (s.seat u h l).0 in (e, sym (opens-own sets' own' u) ∙ ap (opens sets' own' u) (sym e) ∙ tight_own u h);
      later = s.later;
      vacant = λ u h l. absurd (omega arith);
    }

  pub priced_filled : {idle : ℕ} → Unpriced prices idle → (l : ℕ) → l < 64 → bit idle l ≡ false → Holds taken l
  priced_filled z l h e = by-test (bit free l)
      (λ f. absurd (differ (z.has l h (p.idle l h f)) e))
      (λ f. let (a, b, _) = k.held l h f in (entry holders l, a, b))

-- ---- from labels to positions

module _ {I : Instance} (proper : Proper I) (few : I.node_count ≤ 64) {sets : List ℕ} {own : List Bool} (laid : Laid I I.node_count sets own) (c : Costs) (w : ℕ → ℤ)
    (size : (l : ℕ) → 64 ≤ l → w l ≡ pos 0) where
  -- what node u pays for its label l
  abbrev pays : ℕ → ℕ → ℤ
  pays u l = c.node (first I u + rank (entry sets u) l)

  abbrev J : Rows
  J = rows_of I.node_count sets own

  inside : (u l : ℕ) → u < I.node_count → opens sets own u l ≡ true → slot_of l u < 128
  inside u l h a = ⊎_elim (λ g. omega (arith, slot_label u g)) (λ e. omega (arith, slot_own u e)) (opens_kinds sets own u l a)

  module _ {q : ℕ → ℕ} (f : First (Balanced J pays w) I.node_count q) where
    m : All I.node_count sets own q
    m = f.one.placed

    sum_here : node_sum I c (ranks I.node_count sets q) ≡ cost_of J pays q
    unfolding cost_of chosen
    sum_here = total_ext I.node_count _ (λ u. pays u (q u)) (λ u h. ap (λ (i : ℕ). c.node (first I u + i)) (position_is I (rank_within proper laid m) u h))

    sum_there : {y : List ℕ} → Matching I y → node_sum I c y ≡ cost_of J pays (λ u. I.label (chosen I y u))
    unfolding cost_of chosen
    sum_there {y} n = total_ext I.node_count _ (λ u. pays u (I.label (chosen I y u))) (λ u h. ap (λ (i : ℕ). c.node (first I u + i)) (sym (matching_rank proper laid n u h)))

    pub first_assigns : Assigns I c (ranks I.node_count sets q)
    first_assigns = record {
      matching = placed_matching proper laid m;
      least = λ y n. rw (sum_here, sum_there n) (cheapest J inside pays w f.one (matching_placed proper laid n));
      first = λ y n h. comes_before proper laid m n (f.first (λ u. I.label (chosen I y u))
          (cheapest_balanced J inside pays w f.one (matching_placed proper laid n) (rw (sum_here, sum_there n) at h)));
    }

-- ---- what the code answers

-- no node's costs count where not all nodes can be placed
pub none_assigned : {I : Instance} → Proper I → {sets : List ℕ} {own : List Bool} → Laid I I.node_count sets own → (c : Costs) → ((q : ℕ → ℕ) → All I.node_count sets own q → ⊥) → assignment I c ≡ none
none_assigned {I} proper laid c f = assignment_none I c (λ x m. f (λ u. I.label (chosen I x u)) (matching_placed proper laid m))

module _ {I : Instance} (proper : Proper I) (few : I.node_count ≤ 64) {sets : List ℕ} {own : List Bool} (laid : Laid I I.node_count sets own) (costs : List ℤ)
    {taken : List ℕ} {free : ℕ} {prices : List ℤ} (p : Priced (λ u. u < I.node_count) sets own (cost_at I sets costs) taken free prices)
    {holders reach : List ℕ} (k : Linked sets taken holders reach free) {since : ℕ} (s : Seated own since I.node_count taken)
    {sets' : List ℕ} {own' : List Bool} (t : Tight I.node_count sets own (cost_at I sets costs) taken prices sets' own') {idle : ℕ} (z : Unpriced prices idle) where
  pub found_assigned : {q : ℕ → ℕ} → First (Full I.node_count sets' own' idle) I.node_count q → assignment I (node_costs costs) ≡ some (ranks I.node_count sets q)
  unfolding cost_at
  found_assigned f = assignment_is I (node_costs costs) (first_assigns proper few laid (node_costs costs) (price prices) (none_past I.node_count sets own (cost_at I sets costs) prices p.size) (first_balanced few p k s t z f))

  pub found_few : {q : ℕ → ℕ} → First (Full I.node_count sets' own' idle) I.node_count q → (u : ℕ) → u < I.node_count → rank (entry sets u) (q u) < 16
  found_few {q} f u h = rank_few proper laid u (q u) h (t.is u (q u) h (f.one.0.allowed u h)).0
