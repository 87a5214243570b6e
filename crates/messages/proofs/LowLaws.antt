-- The two least of some costs stay the two least with one cost more, and once one of the costs has moved toward the least beside it.
-- Assumes nothing.
use Rattle.std.proofs.Common.{◌≡◌, ℕ, suc, length, get_or, take, ◌+◌, ◌-◌, ◌≤◌, ◌<◌, not, List, [], ◌∷◌, ◌++◌, map, ℤ, ◌-ℤ◌, ◌≤ℤ◌, ◌<ℤ◌, int_lt, sym, refl, ap, ◌∙◌, subst, arith, eqb, eqb-true, eq-eqb, ne_eqb}
use Rattle.std.proofs.lemmas.Bool.{eqb-false}
use mathlib.Core.List.{map-append, append-nil}
use mathlib.Core.List.{Memᴰ as Mem}
use mathlib.Core.List.Memᴰ.{head as here}
use mathlib.Core.List.Memᴰ.{tail as there}
use mathlib.Core.List.Memᴰ.{not-nil}
use mathlib.Core.Logic.{◌⊎◌, inl, inr}
use Rattle.integers.specs.Least.{min_ℤ, least_from}
use Rattle.integers.specs.Places.{range, select, others}
use Rattle.integers.proofs.Order.{min_ind, le_min, min_le, min_eq_left, min_eq_right}
use Rattle.integers.proofs.Least.{least_min, least_swap, least_append}
use Rattle.integers.proofs.Places.{by-test, by_cond, map-ext, range_mem, mem_others, others_mem, least_mem, least_apart}
use Rattle.integers.proofs.Ranges.{range_last, select_append, select_all, select_comm}
use Rattle.integers.proofs.Share.{Toward}
use Rattle.integers.proofs.Parts.{linear, sub, parts, apart}
use Rattle.messages.specs.declared.lows.Lows.{Lows}
use Rattle.messages.specs.Lows.{lows, lows_with, low_beside, lows_moved, Lowest, Apart}
use Rattle.std.proofs.lemmas.List.{take_more}

-- ---- the least beside a cost

-- what holds of the least where the cost is higher, and of the second where it is not
beside_ind : (l : Lows) (cost : ℤ) (P : ℤ → Type 0) → (l.least <ℤ cost → P l.least) → (cost ≤ℤ l.least → P l.second) → P (low_beside l cost)
unfolding low_beside
beside_ind l cost P f g = by_cond P (int_lt l.least cost) (λ e. f (omega (linear, e))) (λ e. g (omega (linear, e)))

pub beside_higher : (l : Lows) (cost : ℤ) → l.least <ℤ cost → low_beside l cost ≡ l.least
beside_higher l cost h = beside_ind l cost (λ z. z ≡ l.least) (λ _. refl) (λ g. absurd (omega linear))

pub beside_least : (l : Lows) (cost : ℤ) → cost ≤ℤ l.least → low_beside l cost ≡ l.second
beside_least l cost h = beside_ind l cost (λ z. z ≡ l.second) (λ g. absurd (omega linear)) (λ _. refl)

-- the less of three, one of which is not the least
min_within : {x y : ℤ} (z : ℤ) → x ≤ℤ y → min_ℤ x (min_ℤ y z) ≡ min_ℤ x z
min_within {x} {y} z h = min_ind y z (λ w. min_ℤ x w ≡ min_ℤ x z) (λ k. min_eq_left h ∙ sym (min_eq_left (omega linear))) (λ _. refl)

-- ---- places

-- a place of a list with one more is one of the others or the last
mem_more : {i x : ℕ} (places : List ℕ) → Mem i (places ++ x ∷ []) → Mem i places ⊎ (i ≡ x)
mem_more [] (here e) = inr e
mem_more [] (there m) = absurd (not-nil m)
mem_more (y ∷ places) (here e) = inl (here e)
mem_more {i} {x} (y ∷ places) (there m) = go (mem_more places m)
  where
    go : Mem i places ⊎ (i ≡ x) → Mem i (y ∷ places) ⊎ (i ≡ x)
    go (inl n) = inl (there n)
    go (inr e) = inr e

-- one more among the others of a place, and the place itself, which goes
others_more : (i x : ℕ) (places : List ℕ) → (x ≡ i → ⊥) → others i (places ++ x ∷ []) ≡ others i places ++ x ∷ []
unfolding others select
others_more i x places d = select_append (λ j. not (eqb j i)) places (x ∷ []) ∙ rw (ne_eqb x i d) refl

others_last : (x : ℕ) (places : List ℕ) → (Mem x places → ⊥) → others x (places ++ x ∷ []) ≡ places
unfolding others select
others_last x places d =
    select_append (λ j. not (eqb j x)) places (x ∷ []) ∙ rw (eq-eqb x x refl) (append-nil (select (λ j. not (eqb j x)) places))
    ∙ select_all (λ j. not (eqb j x)) places (λ i m. ap not (ne_eqb i x (λ e. d (subst (λ (k : ℕ). Mem k places) e m))))

module _ (start : ℤ) (f : ℕ → ℤ) where
  abbrev among : List ℕ → ℤ
  among places = least_from start (map f places)

  -- the least with one place more, and of one place and the others
  least_more : (places : List ℕ) (x : ℕ) → among (places ++ x ∷ []) ≡ min_ℤ (f x) (among places)
  unfolding least_from
  least_more places x =
      ap (least_from start) (map-append f places (x ∷ [])) ∙ least_append start (map f places) (f x ∷ []) ∙ least_min (f x) start (map f places)

  least_beside : {i : ℕ} {places : List ℕ} → Mem i places → among places ≡ min_ℤ (f i) (among (others i places))
  least_beside {i} {places} m = least_apart f start m ∙ least_swap (f i) start (map f (others i places))

-- ---- none, and one more

pub lowest_none : (start : ℤ) (f : ℕ → ℤ) {second : ℤ} → start ≤ℤ second → Lowest start f [] (lows start second)
unfolding least_from
lowest_none start f h = record { order = h; least = refl; beside = λ i m. absurd (not-nil m) }

module _ {start : ℤ} {f : ℕ → ℤ} {places : List ℕ} {l : Lows} (low : Lowest start f places l) where
  -- no cost is below the least
  least_le : {i : ℕ} → Mem i places → l.least ≤ℤ f i
  least_le {i} m = subst (λ (z : ℤ). z ≤ℤ f i) (sym low.least) (least_mem f start m)

  module _ (x : ℕ) (new : Mem x places → ⊥) where
    -- the least with the new cost; beside another place the new one is among the costs; beside the new one are those that were there
    whole : least_from start (map f (places ++ x ∷ [])) ≡ min_ℤ (f x) l.least
    whole = least_more start f places x ∙ ap (min_ℤ (f x)) (sym low.least)

    other : {i : ℕ} → Mem i places → least_from start (map f (others i (places ++ x ∷ []))) ≡ min_ℤ (f x) (low_beside l (f i))
    other {i} m =
        ap (λ (k : List ℕ). least_from start (map f k)) (others_more i x places (λ e. new (subst (λ (k : ℕ). Mem k places) (sym e) m)))
        ∙ least_more start f (others i places) x ∙ ap (min_ℤ (f x)) (low.beside i m)

    last : least_from start (map f (others x (places ++ x ∷ []))) ≡ l.least
    last = ap (λ (k : List ℕ). least_from start (map f k)) (others_last x places new) ∙ sym low.least

    -- by these it is one of the two least of before and the new cost that stands beside each
    besides : (k : Lows) → ((i : ℕ) → Mem i places → min_ℤ (f x) (low_beside l (f i)) ≡ low_beside k (f i)) → l.least ≡ low_beside k (f x)
        → (i : ℕ) → Mem i (places ++ x ∷ []) → least_from start (map f (others i (places ++ x ∷ []))) ≡ low_beside k (f i)
    besides k h g i m = go (mem_more places m)
      where
        go : Mem i places ⊎ (i ≡ x) → least_from start (map f (others i (places ++ x ∷ []))) ≡ low_beside k (f i)
        go (inl n) = other n ∙ h i n
        go (inr e) = rw e (last ∙ g)

    below : (i : ℕ) → f x <ℤ l.least → Mem i places → min_ℤ (f x) (low_beside l (f i)) ≡ low_beside (lows (f x) l.least) (f i)
    below i h m =
        min_eq_left (beside_ind l (f i) (λ z. f x ≤ℤ z) (λ _. omega linear) (λ _. omega (linear, low.order)))
        ∙ sym (beside_higher (lows (f x) l.least) (f i) (omega (linear, least_le m)))

    above : (i : ℕ) → l.least ≤ℤ f x → Mem i places → min_ℤ (f x) (low_beside l (f i)) ≡ low_beside (lows l.least (min_ℤ (f x) l.second)) (f i)
    above i h m =
        let k = lows l.least (min_ℤ (f x) l.second) in
        beside_ind l (f i) (λ z. min_ℤ (f x) z ≡ low_beside k (f i))
        (λ g. min_eq_right h ∙ sym (beside_higher k (f i) g))
        (λ g. sym (beside_least k (f i) g))

    pub lowest_more : Lowest start f (places ++ x ∷ []) (lows_with l (f x))
    unfolding lows_with
    lowest_more =
        let k = lows l.least (min_ℤ (f x) l.second) in
        by_cond (Lowest start f (places ++ x ∷ [])) (int_lt (f x) l.least)
        (λ e. let h : f x <ℤ l.least = omega (linear, e) in
        record { order = omega linear; least = sym (whole ∙ min_eq_left (omega linear)); beside = besides (lows (f x) l.least) (λ i. below i h) (sym (beside_least (lows (f x) l.least) (f x) (omega linear))) })
        (λ e. let h : l.least ≤ℤ f x = omega (linear, e) in
        record {
          order = le_min h low.order;
          least = sym (whole ∙ min_eq_right h);
          beside = besides k (λ i. above i h)
              (beside_ind k (f x) (λ z. l.least ≡ z) (λ _. refl) (λ g. sym (min_eq_left (omega (linear, low.order)) ∙ omega linear)));
        })

  -- ---- a cost that moves

  module _ {i : ℕ} (place : Mem i places) (g : ℕ → ℤ) (same : (j : ℕ) → (j ≡ i → ⊥) → g j ≡ f j) (toward : Toward (f i -ℤ g i) (f i -ℤ low_beside l (f i))) where
    -- the others of some places are as they were
    kept : (k : List ℕ) → map g (others i k) ≡ map f (others i k)
    kept k = map-ext g f (others i k) (λ j m. same j (others_mem i k m).1)

    beside_own : least_from start (map g (others i places)) ≡ low_beside l (f i)
    beside_own = ap (least_from start) (kept places) ∙ low.beside i place

    whole_moved : least_from start (map g places) ≡ min_ℤ (g i) (low_beside l (f i))
    whole_moved = least_beside start g place ∙ ap (min_ℤ (g i)) beside_own

    module _ (j : ℕ) (m : Mem j places) (d : j ≡ i → ⊥) where
      -- the least of all but both
      abbrev rest : ℤ
      rest = least_from start (map f (others i (others j places)))

      before : low_beside l (f j) ≡ min_ℤ (f i) rest
      before = sym (low.beside j m) ∙ least_beside start f (mem_others place (λ e. d (sym e)))

      after : least_from start (map g (others j places)) ≡ min_ℤ (g i) rest
      after = least_beside start g (mem_others place (λ e. d (sym e))) ∙ ap (λ (k : List ℤ). min_ℤ (g i) (least_from start k)) (kept (others j places))

      beside_it : low_beside l (f i) ≡ min_ℤ (f j) rest
      unfolding others
      beside_it =
          sym (low.beside i place) ∙ least_beside start f (mem_others m d)
          ∙ ap (λ (k : List ℕ). min_ℤ (f j) (least_from start (map f k))) (select_comm (λ k. not (eqb k j)) (λ k. not (eqb k i)) places)

    -- by these it is enough that the new two stand right beside the moved cost and beside each other one
    moved_by : (k : Lows) → k.least ≤ℤ k.second → k.least ≡ min_ℤ (g i) (low_beside l (f i)) → low_beside l (f i) ≡ low_beside k (g i)
        → ((j : ℕ) (m : Mem j places) (d : j ≡ i → ⊥) → min_ℤ (g i) (rest j m d) ≡ low_beside k (f j)) → Lowest start g places k
    moved_by k h e b o = record {
      order = h;
      least = e ∙ sym whole_moved;
      beside = λ j m. by-test (eqb j i)
          (λ t. let q : j ≡ i = eqb-true j i t in subst (λ (n : ℕ). least_from start (map g (others n places)) ≡ low_beside k (g n)) (sym q) (beside_own ∙ b))
          (λ t. let d = eqb-false j i t in after j m d ∙ o j m d ∙ ap (low_beside k) (sym (same j d)));
    }

    -- where it comes to stand
    between : (b : ℤ) → low_beside l (f i) ≡ b → Toward (f i -ℤ g i) (f i -ℤ b)
    between b e = subst (λ (z : ℤ). Toward (f i -ℤ g i) (f i -ℤ z)) e toward

    -- the least stays, and the cost comes to stand no lower
    higher : l.least <ℤ f i → Lowest start g places (lows l.least (min_ℤ (g i) l.second))
    higher h =
        let a = l.least in
        let k = lows a (min_ℤ (g i) l.second) in
        let e = beside_higher l (f i) h in
        let t = between a e in
        let s = sub (f i) (g i) in
        let r = sub (f i) a in
        let n = apart (f i -ℤ a) in
        let z : a ≤ℤ g i = omega (linear, t.up, t.down, s, r, n) in
        let y : g i ≤ℤ f i = omega (linear, t.up, t.down, s, r, n) in
        moved_by k (le_min z low.order) (sym (ap (min_ℤ (g i)) e ∙ min_eq_right z))
        (e ∙ beside_ind k (g i) (λ x. a ≡ x) (λ _. refl) (λ q. sym (min_eq_left (omega (linear, low.order)) ∙ omega linear)))
        (λ j m d. let x = rest j m d in
        let both : a ≡ min_ℤ (f j) x = sym e ∙ beside_it j m d in
        beside_ind l (f j) (λ b. b ≡ min_ℤ (f i) x → min_ℤ (g i) x ≡ low_beside k (f j))
        (λ q _. let w : x ≡ a = min_ind (f j) x (λ b. a ≡ b → x ≡ a) (λ _ p. absurd (omega linear)) (λ _ p. sym p) both in
        ap (min_ℤ (g i)) w ∙ min_eq_right z ∙ sym (beside_higher k (f j) q))
        (λ q p. sym (beside_least k (f j) q ∙ ap (min_ℤ (g i)) p ∙ min_within x y))
        (before j m d))

    -- the cost is the least, and comes to stand no higher than the second
    lowest : f i ≤ℤ l.least → Lowest start g places (lows (g i) l.second)
    lowest h =
        let b = l.second in
        let k = lows (g i) b in
        let e = beside_least l (f i) h in
        let t = between b e in
        let y : g i ≤ℤ b = omega (linear, t.up, t.down, sub (f i) (g i), sub (f i) b, apart (f i -ℤ b), low.order) in
        moved_by k y (sym (ap (min_ℤ (g i)) e ∙ min_eq_left y)) (e ∙ sym (beside_least k (g i) (omega linear)))
        (λ j m d. let x = rest j m d in
        let both : b ≡ min_ℤ (f j) x = sym e ∙ beside_it j m d in
        let p = min_le (f j) x in
        min_eq_left (omega (linear, parts both)) ∙ beside_ind k (f j) (λ z. g i ≡ z) (λ _. refl) (λ q. omega (linear, parts both)))

    pub lowest_moved : Lowest start g places (lows_moved l (f i) (g i))
    unfolding lows_moved
    lowest_moved = by_cond (Lowest start g places) (int_lt l.least (f i)) (λ e. higher (omega (linear, e))) (λ e. lowest (omega (linear, e)))

-- ---- the places of a range, and of a list that is gone through

pub lowest_range : {start : ℤ} {f : ℕ → ℤ} {a i : ℕ} {l : Lows} → a ≤ i → Lowest start f (range a (i - a)) l → Lowest start f (range a (i + 1 - a)) (lows_with l (f i))
lowest_range {start} {f} {a} {i} {l} h low =
    let e : i + 1 - a ≡ suc (i - a) = omega arith in
    let z : a + (i - a) ≡ i = omega arith in
    subst (λ (k : List ℕ). Lowest start f k (lows_with l (f i))) (sym (ap (range a) e ∙ range_last a (i - a) ∙ ap (λ (n : ℕ). range a (i - a) ++ n ∷ []) z))
    (lowest_more low i (λ m. let r = range_mem a (i - a) m in omega (arith, r)))

pub lowest_take : {start : ℤ} {f : ℕ → ℤ} (places : List ℕ) → Apart places → (j : ℕ) → j < length places → {l : Lows} → Lowest start f (take j places) l
    → Lowest start f (take (j + 1) places) (lows_with l (f (get_or places j 0)))
lowest_take {start} {f} places apart j h {l} low =
    subst (λ (k : List ℕ). Lowest start f k (lows_with l (f (get_or places j 0)))) (sym (take_more places j 0 h)) (lowest_more low (get_or places j 0) (apart j h))
