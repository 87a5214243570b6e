-- From the words to the sheet: a placing is a matching, the smallest of them the first that is listed, and nodes that cannot all be placed are an obstruction.
-- Assumes nothing.
use mathlib.Core.Path.{◌≡◌, refl, sym, ap, ◌∙◌, subst}
use mathlib.Core.Bool.{Bool, true, cond}
use mathlib.Core.List.{List, [], ◌∷◌}
use mathlib.Core.Logic.{◌⊎◌, inl, inr, ⊎_elim}
use Prim.Native.Nat.{ℕ, ◌+◌, ◌≤◌, ◌<◌}
use native.Mathlib.Omega.{arith}
use borrow.Author.Tests.{eq-eqb, eqb-true, ltb-true, ltb-false}
use lib.Dec.{ltb}
use lib.ListN.{length, get_or, get_or-eq_default}
use lib.Seq.{ext_get_or}
use Rattle.integers.specs.Places.{tabulate}
use Rattle.integers.proofs.Places.{by-test, by_cond, both_ways, if-true, and_true, and_both, length-tabulate, get_d_tabulate}
use Rattle.integers.proofs.Counting.{climbs}
use Rattle.instance.specs.Instance.{Instance, exclusive, first}
use Rattle.instance.specs.Readable.{Proper}
use Rattle.instance.proofs.RisingLabels.{exclusive_is, shared_not}
use Rattle.instance.proofs.LaidOut.{row_inside, label_known_lem}
use Rattle.rules.specs.Costs.{position, chosen, Labelling, Matching}
use Rattle.rules.specs.Matchings.{matchings, Before}
use Rattle.rules.proofs.Matchings.{first_is, none_is}
use Rattle.assignment.specs.Rows.{Rows, In, but, count}
use Rattle.assignment.specs.First.{Agree, Smaller, First}
use Rattle.assignment.proofs.Counts.{differ, by-same, some_at, at_some, true_but, pigeonhole}
use Rattle.placing.specs.Placing.{member, labelled, Places, Obstruction}
use Rattle.placing.specs.Words.{entry, opens, rows_of, All, rank, Laid, Blocked}
use Rattle.placing.proofs.Listing.{laid_listed}
use Rattle.placing.proofs.Slots.{Kinds, opens_kinds, slot_label, same_slot, same_label}

-- ---- the labels of a set of nodes

module _ (I : Instance) (S : ℕ → Bool) where
  labelled_at : (l : ℕ) → In (labelled I S) l → (u : ℕ) × (k : ℕ) × (u < I.node_count) × (k < I.degree u) × In S u × (l ≡ I.label (first I u + k))
  unfolding labelled
  labelled_at l e =
      let (u, h, b) = some_at I.node_count _ e in
      let (s, o) = and_true (S u) _ b in
      let (k, j, t) = some_at (I.degree u) _ o in
      (u, k, h, j, s, sym (eqb-true (I.label (first I u + k)) l t))

  at_labelled : (u k : ℕ) → u < I.node_count → k < I.degree u → In S u → In (labelled I S) (I.label (first I u + k))
  unfolding labelled
  at_labelled u k h j s =
      let l = I.label (first I u + k) in
      at_some I.node_count _ u h (and_both s (at_some (I.degree u) _ k j (eq-eqb l l refl)))

-- ---- sets of nodes as bytes

member_below : {n : ℕ} (x : List ℕ) (u : ℕ) → length x ≡ n → In (member x) u → u < n
member_below {n} x u z e = by-test (ltb u n) (ltb-true u n) (λ t. let q = get_or-eq_default x 0 {n = u} (omega (arith, ltb-false)) in let y = eqb-true (get_or x u 0) 1 e in absurd (omega arith))

abbrev bytes : ℕ → (ℕ → Bool) → List ℕ
bytes n S = tabulate n (λ u. cond (S u) 1 0)

byte_at : (n : ℕ) (S : ℕ → Bool) (u : ℕ) → u < n → get_or (bytes n S) u 0 ≡ cond (S u) 1 0
byte_at n S u h = get_d_tabulate n (λ u. cond (S u) 1 0) u 0 h

member-bytes : (n : ℕ) (S : ℕ → Bool) → ((u : ℕ) → In S u → u < n) → member (bytes n S) ≡ S
member-bytes n S h = λ j u. at u j
  where
    at : (u : ℕ) → member (bytes n S) u ≡ S u
    at u = both_ways (member (bytes n S) u) (S u)
        (λ e. let k = member_below (bytes n S) u (length-tabulate n (λ u. cond (S u) 1 0)) e in by-test (S u) (λ t. t) (λ t. absurd (differ e (rw (byte_at n S u k, t)))))
        (λ e. rw (byte_at n S u (h u e), e))

-- members have fewer labels than they are
pub obstruction_none : {I : Instance} → Proper I → {x y : List ℕ} → Obstruction I x → Matching I y → ⊥
unfolding chosen
obstruction_none {I} proper {x} {y} o m =
    let at : (u : ℕ) → In (member x) u → (u < I.node_count) × (exclusive (I.label (chosen I y u)) ≡ true) =
    (λ u e. let h = member_below x u o.size e in (h, o.solid u (position y u) e (m.labelling.within u h))) in
    let a = pigeonhole (λ u l. In (member x) u × (I.label (chosen I y u) ≡ l))
    (λ u w l f g. m.distinct u w (at u f.0).0 (at w g.0).0 (at u f.0).1 (f.1 ∙ sym g.1))
    I.node_count I.label_count (member x) (labelled I (member x))
    (λ u h e. let k = m.labelling.within u h in let r = row_inside I h in
    (I.label (chosen I y u), label_known_lem proper (chosen I y u) (omega arith) (at u e).1, at_labelled I (member x) u (position y u) h k e, (e, refl))) in
    omega (arith, o.few)

-- ---- labels that one node takes

small_exclusive : {l : ℕ} → l < 64 → exclusive l ≡ true
small_exclusive {l} h = exclusive_is l (λ e. omega arith)

exclusive_small : {l : ℕ} → Kinds l → exclusive l ≡ true → l < 64
exclusive_small {l} (inl h) x = h
exclusive_small {l} (inr e) x = absurd (shared_not l e x)

-- ---- a position for each node

module _ (I : Instance) {f : ℕ → ℕ} (within : (u : ℕ) → u < I.node_count → f u < I.degree u) where
  pub position_is : (u : ℕ) → u < I.node_count → position (tabulate I.node_count f) u ≡ f u
  position_is u h = get_d_tabulate I.node_count f u 0 h

  positions_labelling : Labelling I (tabulate I.node_count f)
  positions_labelling = record { size = length-tabulate I.node_count f; within = λ u h. omega (arith, position_is u h, within u h) }

  positions_label : (u : ℕ) → u < I.node_count → I.label (chosen I (tabulate I.node_count f) u) ≡ I.label (first I u + f u)
  unfolding chosen
  positions_label u h = ap (λ (k : ℕ). I.label (first I u + k)) (position_is u h)

-- the positions of labels: their ranks
abbrev pub ranks : ℕ → List ℕ → (ℕ → ℕ) → List ℕ
ranks n sets p = tabulate n (λ u. rank (entry sets u) (p u))

module _ {I : Instance} (proper : Proper I) {sets : List ℕ} {own : List Bool} (laid : Laid I I.node_count sets own) where
  abbrev rows : Rows
  rows = rows_of I.node_count sets own

  -- a label of u stands at its rank
  at_rank : (u l : ℕ) → u < I.node_count → opens sets own u l ≡ true → (rank (entry sets u) l < I.degree u) × (I.label (first I u + rank (entry sets u) l) ≡ l)
  at_rank = (laid_listed laid).stands

  pub rank_few : (u l : ℕ) → u < I.node_count → opens sets own u l ≡ true → rank (entry sets u) l < 16
  rank_few u l h a = let (j, _) = at_rank u l h a in omega (arith, proper.few u h)

  -- of two labels of u the lower stands first: they rise
  lower_first : (u j k : ℕ) → u < I.node_count → j < I.degree u → I.label (first I u + j) < I.label (first I u + k) → j < k
  lower_first u j k h d l = by-test (ltb j k) (ltb-true j k) (λ t. let g = ltb-false j k t in by-same j k
      (λ e. let q = ap (λ (i : ℕ). I.label (first I u + i)) e in absurd (omega arith))
      (λ e. let q = climbs (λ i. I.label (first I u + i)) (I.degree u) (λ i. proper.rising u i h) k j (omega arith) d in absurd (omega arith)))

  -- ---- all nodes placed

  -- a placing as a matching
  module _ {p : ℕ → ℕ} (m : All I.node_count sets own p) where
    pub rank_within : (u : ℕ) → u < I.node_count → rank (entry sets u) (p u) < I.degree u
    rank_within u h = (at_rank u (p u) h (m.allowed u h)).0

    ranks_labelling : Labelling I (ranks I.node_count sets p)
    ranks_labelling = positions_labelling I rank_within

    ranks-label : (u : ℕ) → u < I.node_count → I.label (chosen I (ranks I.node_count sets p) u) ≡ p u
    ranks-label u h = positions_label I rank_within u h ∙ (at_rank u (p u) h (m.allowed u h)).1

    pub placed_matching : Matching I (ranks I.node_count sets p)
    placed_matching = record {
      labelling = ranks_labelling;
      distinct = λ u w h h'. rw (ranks-label u h, ranks-label w h') (λ x e. m.distinct u w h h' (same_slot u w (exclusive_small (opens_kinds sets own u (p u) (m.allowed u h)) x) e));
    }

  -- a matching as a placing
  module _ {y : List ℕ} (m : Matching I y) where
    pub matching_placed : All I.node_count sets own (λ u. I.label (chosen I y u))
    unfolding chosen
    matching_placed =
        let may : (u : ℕ) → u < I.node_count → opens sets own u (I.label (chosen I y u)) ≡ true = (λ u h. laid.has u (position y u) h (m.labelling.within u h)) in
        record {
          allowed = may;
          distinct = λ u w h h' e. ⊎_elim (λ (x, q). m.distinct u w h h' (small_exclusive x) q) (λ (q : u ≡ w). q)
              (same_label (opens_kinds sets own u _ (may u h)) (opens_kinds sets own w _ (may w h')) e);
        }

    pub matching_rank : (u : ℕ) → u < I.node_count → rank (entry sets u) (I.label (chosen I y u)) ≡ position y u
    unfolding chosen
    matching_rank u h = laid.ranks u (position y u) h (m.labelling.within u h)

  -- where the labels agree the positions do, and where a label is lower the position is
  pub comes_before : {p : ℕ → ℕ} → All I.node_count sets own p → {y : List ℕ} → Matching I y
      → Smaller I.node_count p (λ u. I.label (chosen I y u)) ⊎ Agree I.node_count p (λ u. I.label (chosen I y u)) → Before I (ranks I.node_count sets p) y ⊎ (ranks I.node_count sets p ≡ y)
  unfolding chosen
  comes_before {p} m {y} n =
      let x = ranks I.node_count sets p in
      let same : (w : ℕ) → w < I.node_count → p w ≡ I.label (chosen I y w) → position x w ≡ position y w =
      (λ w h e. position_is I (rank_within m) w h ∙ ap (rank (entry sets w)) e ∙ matching_rank n w h) in
      ⊎_elim
      (λ (u, h, a, l). inl (record {
        node = u;
        inside = h;
        same = λ w k. same w (omega arith) (a w k);
        smaller = lower_first u (position x u) (position y u) h ((ranks_labelling m).within u h) (omega (arith, ranks-label m u h));
      }))
      (λ a. inr (ext_get_or 0 x y ((ranks_labelling m).size ∙ sym n.labelling.size) (λ w k. let h : w < I.node_count = omega (arith, (ranks_labelling m).size) in same w h (a w h))))

  pub smallest_first : {p : ℕ → ℕ} → First (All I.node_count sets own) I.node_count p
      → (rest : List (List ℕ)) × (matchings I ≡ tabulate I.node_count (λ u. rank (entry sets u) (p u)) ∷ rest)
  smallest_first {p} f = first_is I (placed_matching f.one) (λ y n. comes_before f.one n (f.first (λ u. I.label (chosen I y u)) (matching_placed n)))

  -- ---- some nodes not placed

  module _ {R : ℕ → Bool} (b : Blocked rows R) where
    label_below_lem : (u k : ℕ) → In R u → k < I.degree u → I.label (first I u + k) < 64
    label_below_lem u k r h = (b.exits u _ r (laid.has u k (b.inside u r) h)).0

    -- a label of theirs is a slot of theirs
    labels_few_lem : count I.label_count (labelled I R) < count I.node_count R
    labels_few_lem =
        let a = pigeonhole (λ i j. i ≡ j) (λ i j k e f. e ∙ sym f) I.label_count 128 (labelled I R) b.T
        (λ l h e. let (u, k, hu, hk, r, q) = labelled_at I R l e in
        let (s, t) = b.exits u (I.label (first I u + k)) r (laid.has u k hu hk) in
        (l, omega (arith, proper.labels_few), subst (In b.T) (slot_label u s ∙ sym q) t, refl)) in
        omega (arith, b.few)

    -- those that are not placed, w among them, take their first position
    rest_places : (w : ℕ) → In R w → (y : List ℕ) × Places I (but R w) y
    rest_places w r =
        let (q, m) = b.rest w r in
        let S = but R w in
        let in-S = true_but R w in
        let f : ℕ → ℕ = (λ u. cond (S u) (rank (entry sets u) (q u)) 0) in
        let may : (u : ℕ) → In S u → opens sets own u (q u) ≡ true = (λ u e. m.allowed u (in-S u e)) in
        let inside : (u : ℕ) → In S u → u < I.node_count = (λ u e. b.inside u (in-S u e).0) in
        let within : (u : ℕ) → u < I.node_count → f u < I.degree u = (λ u h. by_cond (λ k. k < I.degree u) (S u) (λ e. (at_rank u (q u) h (may u e)).0) (λ e. proper.labelled u h)) in
        let at : (u : ℕ) → In S u → I.label (chosen I (tabulate I.node_count f) u) ≡ q u =
        (λ u e. positions_label I within u (inside u e) ∙ ap (λ (k : ℕ). I.label (first I u + k)) (if-true (rank (entry sets u) (q u)) 0 e) ∙ (at_rank u (q u) (inside u e) (may u e)).1) in (
          tabulate I.node_count f,
          record {
            labelling = positions_labelling I within;
            distinct = λ u v e e'. rw (at u e, at v e') (λ l. m.distinct u v (in-S u e) (in-S v e') (same_slot u v (b.exits u (q u) (in-S u e).0 (may u e)).0 l));
          },
        )

    pub blocked_obstruction : Obstruction I (tabulate I.node_count (λ u. cond (R u) 1 0))
    blocked_obstruction =
        let same = sym (member-bytes I.node_count R b.inside) in
        record {
          size = length-tabulate I.node_count (λ u. cond (R u) 1 0);
          flags = λ u h. rw (byte_at I.node_count R u h) (by_cond (λ k. k ≤ 1) (R u) (λ e. omega arith) (λ e. omega arith));
          solid = subst (λ (S : ℕ → Bool). (u k : ℕ) → In S u → k < I.degree u → exclusive (I.label (first I u + k)) ≡ true) same (λ u k r h. small_exclusive (label_below_lem u k r h));
          few = subst (λ (S : ℕ → Bool). count I.label_count (labelled I S) < count I.node_count S) same labels_few_lem;
          small = subst (λ (S : ℕ → Bool). (w : ℕ) → In S w → (y : List ℕ) × Places I (but S w) y) same rest_places;
        }

    pub blocked_none : matchings I ≡ []
    blocked_none = none_is I (λ x m. obstruction_none proper blocked_obstruction m)
