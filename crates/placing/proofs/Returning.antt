-- Moves back over the steps of a search, from the free label to the root: each goes to a label that costs the mover least.
-- Assumes nothing.
use mathlib.Core.Path.{◌≡◌, refl, sym, ap, ◌∙◌, subst}
use mathlib.Core.Bool.{Bool, true, false, ◌||◌}
use mathlib.Core.List.{List}
use mathlib.Core.Logic.{⊎_elim}
use Prim.Native.Nat.{ℕ, ◌^◌, ◌≤◌, ◌<◌}
use native.Mathlib.Omega.{arith}
use borrow.Author.Tests.{eq-eqb, eqb-true}
use lib.Bits.{bit_xor}
use lib.Dec.{eqb}
use lib.IntN.{ℤ, pos}
use lib.Signed.{◌≤ℤ◌}
use lib.ListN.{set}
use lib.Seq.{get_or-set_same, get_or-set_other}
use Rattle.std.proofs.lemmas.List.{set-set}
use Rattle.integers.specs.Words.{bit}
use Rattle.integers.proofs.Words.{bit_dropped, bit_kept}
use Rattle.integers.proofs.Places.{or_split, left_true, right_true}
use Rattle.assignment.proofs.Counts.{differ, by-same}
use Rattle.placing.specs.declared.paths.Paths.{Paths}
use Rattle.placing.specs.Words.{entry, flag, opens, Linked, Joined, Stands, Standing}
use Rattle.placing.specs.Priced.{price, net}
use Rattle.placing.specs.Paths.{by_of, Best, Trace, Opening, Cheapest}
use Rattle.placing.proofs.Slots.{opens-bit, opens-own}

-- ---- a node leaves its label for another one that costs it least, or for 255: the label of its step is free now

module _ {sets : List ℕ} {own : List Bool} {c : ℕ → ℕ → ℤ} {p : Paths} (tr : Trace sets own c p) {taken holders reach : List ℕ} {free : ℕ} (k : Linked sets taken holders reach free)
    (n out : ℕ) (few : n ≤ 64) (root : entry p.nodes 0 < n) (waits : bit out (entry p.nodes 0) ≡ true) (seated : Standing (Stands n out) own taken)
    (least : (u j : ℕ) → Stands n out u → opens sets own u j ≡ true → net c p.prices u (entry taken u) ≤ℤ net c p.prices u j)
    {i : ℕ} (some : 0 < i) (inside : i ≤ p.step)
    (still : (j : ℕ) → 0 < j → j ≤ i → Stands n out (entry p.nodes j) × (entry taken (entry p.nodes j) ≡ entry p.labels j)) where
  abbrev u : ℕ
  u = entry p.nodes i

  abbrev from : ℕ
  from = entry p.labels i

  pub mover_few : u < 64
  mover_few = omega (arith, (still i some (omega arith)).0.0, few)

  from_small : from < 64
  from_small = tr.small i some inside

  pub from_held : bit free from ≡ false
  from_held = let e = (still i some (omega arith)).1 in ap (bit free) (sym e) ∙ (k.taker u mover_few (let y = from_small in omega arith)).0

  module _ {left : ℕ} (joined : Joined free (entry taken u) left) where
    left_is : (x : ℕ) → x < 64 → bit left x ≡ (bit free x || eqb x from)
    left_is x g = joined.1 x g ∙ ap (λ (y : ℕ). bit free x || eqb x y) (still i some (omega arith)).1

    pub from_free : bit left from ≡ true
    from_free = left_is from from_small ∙ right_true (bit free from) (eq-eqb from from refl)

    pub still_left : (x : ℕ) → x < 64 → bit free x ≡ true → bit left x ≡ true
    still_left x g e = left_is x g ∙ left_true (eqb x from) e

    pub left_back : (x : ℕ) → x < 64 → (x ≡ from → ⊥) → bit left x ≡ true → bit free x ≡ true
    left_back x g d e = ⊎_elim (λ y. y) (λ y. absurd (d (eqb-true x from y))) (or_split (bit free x) (eqb x from) (sym (left_is x g) ∙ e))

    -- it takes l
    module _ {l : ℕ} (best : Best sets own c p.prices u l) (kind : 64 ≤ l → l ≡ 255) {taken' : List ℕ} (et : taken' ≡ set taken u l) where
      at : entry taken' u ≡ l
      at = ap (λ (t : List ℕ). entry t u) et ∙ get_or-set_same taken u l 0 (omega (arith, mover_few, k.size_taken))

      elsewhere : (w : ℕ) → (w ≡ u → ⊥) → entry taken' w ≡ entry taken w
      elsewhere w d = ap (λ (t : List ℕ). entry t w) et ∙ get_or-set_other taken u w l 0 d

      shared : l ≡ 255 → flag own u ≡ true
      shared e = sym (opens-own sets own u) ∙ ap (opens sets own u) (sym e) ∙ best.may

      pub opened : {free' : ℕ} → bit free' from ≡ true → ((x : ℕ) → x < 64 → bit free' x ≡ true → (x ≡ from → ⊥) → price p.prices x ≡ pos 0) → Opening n out sets own c p taken' free' from
      opened freed idle = record {
        few = few;
        node = root;
        waits = waits;
        seated = record {
          seat = λ w h g. by-same w u
              (λ e. let y = kind (omega (arith, at, ap (entry taken') e)) in (ap (entry taken') e ∙ at ∙ y, ap (flag own) e ∙ shared y))
              (λ d. rw (elsewhere w d) (seated.seat w h (rw (elsewhere w d) at g)));
          later = λ w h g. elsewhere w (λ e. g (subst (Stands n out) (sym e) (still i some (omega arith)).0)) ∙ seated.later w h g;
        };
        least = λ w j h a. by-same w u
            (λ e. subst (λ x. net c p.prices x (entry taken' x) ≤ℤ net c p.prices x j) (sym e) (rw at (best.least j (ap (λ (x : ℕ). opens sets own x j) (sym e) ∙ a))))
            (λ d. rw (elsewhere w d) (least w j h a));
        idle = idle;
        small = from_small;
        here = freed;
        link = tr.links i some inside;
        still = λ j h g.
            let b = tr.after i some inside in
            let (y, z) = still j h (omega arith) in
            (y, elsewhere (entry p.nodes j) (λ e. tr.once j i h (omega arith) inside (sym z ∙ ap (entry taken) e ∙ (still i some (omega arith)).1)) ∙ z);
      }

-- ---- one move after another

module _ {sets : List ℕ} {own : List Bool} {c : ℕ → ℕ → ℤ} {p : Paths} (tr : Trace sets own c p) {taken holders reach : List ℕ} {free l : ℕ}
    (k : Linked sets taken holders reach free) {n out : ℕ} (v : Opening n out sets own c p taken free l) where
  has_lem : (u : ℕ) → opens sets own u l ≡ true → bit (entry sets u) l ≡ true
  has_lem u e = sym (opens-bit sets own u l v.small) ∙ e

  -- the node of the step by which the label was found takes it
  module _ {i : ℕ} (by : i ≡ by_of p l) (some : 0 < i) where
    abbrev from' : ℕ
    from' = entry p.labels i

    inside : i ≤ p.step
    inside = omega (arith, v.link.0)

    still : (j : ℕ) → 0 < j → j ≤ i → Stands n out (entry p.nodes j) × (entry taken (entry p.nodes j) ≡ entry p.labels j)
    still j h g = v.still j h (omega arith)

    best : Best sets own c p.prices (entry p.nodes i) l
    best = subst (λ (j : ℕ). Best sets own c p.prices (entry p.nodes j) l) (sym by) v.link.1

    pub move_node : entry p.nodes i < 64
    move_node = mover_few tr k n out v.few v.node v.waits v.seated v.least some inside still

    pub move_has : bit (entry sets (entry p.nodes i)) l ≡ true
    move_has = has_lem (entry p.nodes i) best.may

    pub move_step : i < 64
    move_step = omega (arith, inside, tr.few)

    pub move_small : entry p.labels i < 64
    move_small = tr.small i some inside

    pub move_away : {t : List ℕ} → t ≡ set taken (entry p.nodes i) 255 → 64 ≤ entry t (entry p.nodes i)
    move_away {t} q = let z = get_or-set_same taken (entry p.nodes i) 255 0 (omega (arith, move_node, k.size_taken)) in omega (arith, ap (λ (x : List ℕ). entry x (entry p.nodes i)) q)

    module _ {left : ℕ} (joined : Joined free (entry taken (entry p.nodes i)) left) where
      pub move_free : bit left l ≡ true
      move_free = still_left tr k n out v.few v.node v.waits v.seated v.least some inside still joined l v.small v.here

      pub moved : {taken' : List ℕ} {free' : ℕ} → taken' ≡ set (set taken (entry p.nodes i) 255) (entry p.nodes i) l → free' ≡ bit_xor left (2 ^ l) → Opening n out sets own c p taken' free' (entry p.labels i)
      moved {taken'} {free'} et ef =
          opened tr k n out v.few v.node v.waits v.seated v.least some inside still joined best (λ h. absurd (let s = v.small in omega arith)) (et ∙ set-set taken (entry p.nodes i) 255 l)
          (ap (λ (w : ℕ). bit w from') ef ∙ bit_kept left l from' (λ e. differ v.here (ap (bit free) (sym e) ∙ held)) ∙ from_free tr k n out v.few v.node v.waits v.seated v.least some inside still joined)
          (λ x h b d. by-same x l
          (λ e. absurd (differ b (ap (λ (w : ℕ). bit w x) ef ∙ ap (bit (bit_xor left (2 ^ l))) e ∙ bit_dropped left l move_free)))
          (λ q. v.idle x h (left_back tr k n out v.few v.node v.waits v.seated v.least some inside still joined x h d (sym (bit_kept left l x q) ∙ ap (λ (w : ℕ). bit w x) (sym ef) ∙ b)) q))
        where
          held : bit free from' ≡ false
          held = from_held tr k n out v.few v.node v.waits v.seated v.least some inside still

  -- no step is left: the root takes it
  module _ (z : by_of p l ≡ 0) where
    abbrev root : ℕ
    root = entry p.nodes 0

    best_root : Best sets own c p.prices root l
    best_root = subst (λ (j : ℕ). Best sets own c p.prices (entry p.nodes j) l) z v.link.1

    root_few : root < 64
    root_few = omega (arith, v.node, v.few)

    pub root_has : bit (entry sets root) l ≡ true
    root_has = has_lem root best_root.may

    pub root_away : 64 ≤ entry taken root
    root_away = let e = v.seated.later root root_few (λ d. differ v.waits d.1) in omega arith

    pub moved_done : {taken' : List ℕ} {free' : ℕ} → taken' ≡ set taken root l → free' ≡ bit_xor free (2 ^ l) → Cheapest n (bit_xor out (2 ^ root)) sets own c taken' free' p.prices
    moved_done {taken'} {free'} et ef = record {
      seated = record {
        seat = λ w h g. by-same w root
            (λ e. absurd (omega (arith, v.small, root_at, ap (entry taken') e)))
            (λ d. rw (elsewhere_root w d) (v.seated.seat w (before w d h) (rw (elsewhere_root w d) at g)));
        later = λ w h g. by-same w root
            (λ e. absurd (g (subst (Stands n (bit_xor out (2 ^ root))) (sym e) (v.node, bit_dropped out root v.waits))))
            (λ d. elsewhere_root w d ∙ v.seated.later w h (λ y. g (y.0, bit_kept out root w d ∙ y.1)));
      };
      least = λ w j h a. by-same w root
          (λ e. subst (λ x. net c p.prices x (entry taken' x) ≤ℤ net c p.prices x j) (sym e) (rw root_at (best_root.least j (ap (λ (x : ℕ). opens sets own x j) (sym e) ∙ a))))
          (λ d. rw (elsewhere_root w d) (v.least w j (before w d h) a));
      idle = λ x h b. by-same x l
          (λ e. absurd (differ b (ap (λ (w : ℕ). bit w x) ef ∙ ap (bit (bit_xor free (2 ^ l))) e ∙ bit_dropped free l v.here)))
          (λ d. v.idle x h (sym (bit_kept free l x d) ∙ ap (λ (w : ℕ). bit w x) (sym ef) ∙ b) d);
    }
      where
        root_at : entry taken' root ≡ l
        root_at = ap (λ (t : List ℕ). entry t root) et ∙ get_or-set_same taken root l 0 (omega (arith, root_few, k.size_taken))

        before : (w : ℕ) → (w ≡ root → ⊥) → Stands n (bit_xor out (2 ^ root)) w → Stands n out w
        before w d (a, b) = (a, sym (bit_kept out root w d) ∙ b)

        elsewhere_root : (w : ℕ) → (w ≡ root → ⊥) → entry taken' w ≡ entry taken w
        elsewhere_root w d = ap (λ (t : List ℕ). entry t w) et ∙ get_or-set_other taken root w l 0 d
