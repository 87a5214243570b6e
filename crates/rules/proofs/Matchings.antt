-- The list of matchings: what is in it, and that it stands in the order of positions; its first is the smallest, and it is empty where there is none.
-- Assumes nothing.
use mathlib.Core.Path.{◌≡◌, refl, sym, ap, ◌∙◌}
use mathlib.Core.Bool.{Bool, true, false, not, cond, ◌&&◌}
use mathlib.Core.List.{List, [], ◌∷◌, map}
use mathlib.Core.List.Memᴰ
use mathlib.Core.List.Memᴰ.{head as here}
use mathlib.Core.List.Memᴰ.{not-nil}
use mathlib.Core.List.Memᴰ.{tail as there}
use mathlib.Core.List.{Memᴰ as Mem}
use mathlib.Core.Logic.{◌⊎◌, inl, inr, ⊎_elim}
use Prim.Native.Nat.{ℕ, zero, suc, ◌+◌, ◌≤◌, ◌<◌}
use native.Mathlib.Omega.{arith}
use borrow.Author.Tests.{eq-eqb, ne_eqb, eqb-true, eqb-false, ltb-true, ltb-false, lt-ltb}
use lib.Dec.{eqb, ltb}
use lib.ListN.{length, get_or}
use Rattle.integers.specs.Places.{range}
use Rattle.integers.proofs.Places.{by-test, by_cond, and_true, and_both, every_mem, mem_range, every-range}
use Rattle.integers.proofs.Checks.{below_all, below_at}
use Rattle.instance.specs.Instance.{Instance, exclusive, first}
use Rattle.rules.specs.Costs.{position, chosen, Matching}
use Rattle.rules.specs.Rounding.{free}
use Rattle.rules.specs.Matchings.{is_matching, passing, joined, labellings_from, labellings, matchings, smallest, Before}
use Rattle.rules.proofs.Ordered.{Sorted, sorted_append}

-- ---- the test of a matching, both ways

module _ (I : Instance) where
  pub matching_is : {x : List ℕ} → Matching I x → is_matching I x ≡ true
  unfolding is_matching free chosen
  matching_is {x} m = below_all I.node_count (λ u. ltb (position x u) (I.degree u) && free I x u (position x u)) (λ u h.
      and_both (lt-ltb (position x u) (I.degree u) (m.labelling.within u h))
      (by-test (exclusive (I.label (first I u + position x u))) (λ ex. rw ex (every-range (λ w. not (eqb (I.label (chosen I x w)) (I.label (first I u + position x u)))) u (λ w l.
      ap not (ne_eqb (I.label (chosen I x w)) (I.label (first I u + position x u)) (λ e. let q = m.distinct w u (omega arith) h (ap exclusive e ∙ ex) e in omega arith))))) (λ ex. rw ex)))

  pub is_matching_lem : {x : List ℕ} → length x ≡ I.node_count → is_matching I x ≡ true → Matching I x
  unfolding is_matching free chosen
  is_matching_lem {x} z h = record {
    labelling = record { size = z; within = λ u l. ltb-true (position x u) (I.degree u) (at u l).0 };
    distinct = λ u w hu hw ex e. apart u w hu hw ex e;
  }
    where
      at : (u : ℕ) → u < I.node_count → (ltb (position x u) (I.degree u) ≡ true) × (free I x u (position x u) ≡ true)
      at u l = and_true (ltb (position x u) (I.degree u)) (free I x u (position x u)) (below_at I.node_count (λ u. ltb (position x u) (I.degree u) && free I x u (position x u)) h u l)

      lower : (u w : ℕ) → w < I.node_count → u < w → exclusive (I.label (chosen I x w)) ≡ true → I.label (chosen I x u) ≡ I.label (chosen I x w) → ⊥
      lower u w hw l ex e =
          let t = every_mem (λ v. not (eqb (I.label (chosen I x v)) (I.label (first I w + position x w)))) (mem_range 0 w u (omega arith) (omega arith)) (rw ex at (at w hw).1) in
          let q : true ≡ false = sym t ∙ ap not (eq-eqb (I.label (chosen I x u)) (I.label (first I w + position x w)) e) in
          let y : ◌≡◌ {A = ℕ} 0 1 = cc in omega arith

      apart : (u w : ℕ) → u < I.node_count → w < I.node_count → exclusive (I.label (chosen I x u)) ≡ true → I.label (chosen I x u) ≡ I.label (chosen I x w) → u ≡ w
      apart u w hu hw ex e =
          by-test (ltb u w) (λ t. absurd (lower u w hw (ltb-true u w t) (sym (ap exclusive e) ∙ ex) e))
          (λ t. by-test (ltb w u) (λ t'. absurd (lower w u hu (ltb-true w u t') ex (sym e))) (λ t'. omega (arith, ltb-false u w t, ltb-false w u t')))

-- ---- what passes a test

module _ {A : Type 0} (t : A → Bool) where
  passing_mem : (l : List A) {y : A} → Mem y (passing t l) → Mem y l × (t y ≡ true)
  unfolding passing
  passing_mem [] m = absurd (not-nil m)
  passing_mem (x ∷ l) {y} m = go (t x) refl (λ n. passing_mem l n) m
    where
      go : (b : Bool) → t x ≡ b → (Mem y (passing t l) → Mem y l × (t y ≡ true)) → Mem y (cond b (x ∷ passing t l) (passing t l)) → Mem y (x ∷ l) × (t y ≡ true)
      go false e f m = let (n, q) = f m in (there n, q)
      go true e f (here q) = (here q, ap t q ∙ e)
      go true e f (there m) = let (n, q) = f m in (there n, q)

  mem_passing : {y : A} (l : List A) → Mem y l → t y ≡ true → Mem y (passing t l)
  unfolding passing
  mem_passing [] m q = absurd (not-nil m)
  mem_passing {y} (x ∷ l) m q = go (t x) refl (λ n. mem_passing l n q) m
    where
      go : (b : Bool) → t x ≡ b → (Mem y l → Mem y (passing t l)) → Mem y (x ∷ l) → Mem y (cond b (x ∷ passing t l) (passing t l))
      go false e f (here z) = absurd (let o : true ≡ false = sym q ∙ ap t z ∙ e in let n : ◌≡◌ {A = ℕ} 0 1 = cc in omega arith)
      go false e f (there m) = f m
      go true e f (here z) = here z
      go true e f (there m) = there (f m)

  passing_sorted : (R : A → A → Type 0) (l : List A) → Sorted R l → Sorted R (passing t l)
  unfolding passing
  passing_sorted R [] s = tt
  passing_sorted R (x ∷ l) s = by_cond (Sorted R) (t x) (λ _. (λ y m. s.0 y (passing_mem l m).0, passing_sorted R l s.1)) (λ _. passing_sorted R l s.1)

-- ---- the order of positions, from the first on

pub data Less : List ℕ → List ℕ → Type 0 where
  now : {a b : ℕ} {x y : List ℕ} → a < b → Less (a ∷ x) (b ∷ y)
  later : {a : ℕ} {x y : List ℕ} → Less x y → Less (a ∷ x) (a ∷ y)

abbrev pub UpTo : List ℕ → List ℕ → Type 0
UpTo x y = Less x y ⊎ (x ≡ y)

-- at the first place where they differ
place : {x y : List ℕ} → Less x y → (v : ℕ) × (v < length x) × ((w : ℕ) → w < v → position x w ≡ position y w) × (position x v < position y v)
place (now h) = (0, omega arith, λ w l. absurd (omega arith), h)
place (later s) = let (v, i, same, h) = place s in (suc v, omega arith, elim [ zero ↦ (λ l. refl) | suc w ↦ (λ l. same w (omega arith)) ], h)

pub less_trans : {x y z : List ℕ} → Less x y → Less y z → Less x z
less_trans (now p) (now q) = now (omega arith)
less_trans (now p) (later q) = now p
less_trans (later p) (now q) = now q
less_trans (later p) (later q) = later (less_trans p q)

-- ---- lists that begin with the numbers from a on, each beside all of l

module _ (l : List (List ℕ)) where
  abbrev beside : ℕ → ℕ → List (List ℕ)
  beside a d = joined (λ k. map (λ x. k ∷ x) l) (range a d)

  beside_mem : (d a : ℕ) {y : List ℕ} → Mem y (beside a d) → (k : ℕ) × (z : List ℕ) × (a ≤ k) × (k < a + d) × Mem z l × (k ∷ z ≡ y)
  unfolding joined range
  beside_mem zero a m = absurd (not-nil m)
  beside_mem (suc d) a m = ⊎_elim
      (λ n. let (z, i, e) = Memᴰ.of_map (λ x. a ∷ x) l n in (a, z, omega arith, omega arith, i, e))
      (λ n. let (k, z, h, i, j, e) = beside_mem d (suc a) n in (k, z, omega arith, omega arith, j, e))
      (Memᴰ.append_cases (map (λ x. a ∷ x) l) m)

  mem_beside : (d a k : ℕ) {z : List ℕ} → a ≤ k → k < a + d → Mem z l → Mem (k ∷ z) (beside a d)
  unfolding joined range
  mem_beside zero a k h i m = absurd (omega arith)
  mem_beside (suc d) a k {z} h i m = by-test (eqb a k)
      (λ e. let q : a ≡ k = omega (arith, eqb-true a k e) in Memᴰ.append_left (beside (suc a) d) (rw q (Memᴰ.map (λ x. k ∷ x) m)))
      (λ e. let q : a ≡ k → ⊥ = eqb-false a k e in Memᴰ.append_right (map (λ x. a ∷ x) l) (mem_beside d (suc a) k (omega arith) (omega arith) m))

  same_head : (a : ℕ) (k : List (List ℕ)) → Sorted Less k → Sorted Less (map (λ x. a ∷ x) k)
  same_head a [] s = tt
  same_head a (x ∷ k) s = (λ y m. let (z, i, e) = Memᴰ.of_map (λ x. a ∷ x) k m in rw (sym e) (later (s.0 z i)), same_head a k s.1)

  beside_sorted : Sorted Less l → (d a : ℕ) → Sorted Less (beside a d)
  unfolding joined range
  beside_sorted s zero a = tt
  beside_sorted s (suc d) a = sorted_append Less (map (λ x. a ∷ x) l) (beside (suc a) d) (same_head a l s) (beside_sorted s d (suc a))
      (λ x y m n. let (x', i, e) = Memᴰ.of_map (λ x. a ∷ x) l m in let (k, y', h, j, o, e') = beside_mem d (suc a) n in let g : a < k = omega arith in rw (sym e, sym e') (now g))

module _ (I : Instance) where
  -- m positions of nodes from u on
  record Positions (u m : ℕ) (x : List ℕ) : Type 0 where
    size : length x ≡ m
    within : (i : ℕ) → i < m → position x i < I.degree (u + i)

  positions_mem : (m u : ℕ) {x : List ℕ} → Mem x (labellings_from I u m) → Positions u m x
  unfolding labellings_from
  positions_mem zero u m = let e = Memᴰ.eq_of_singleton m in record { size = ap length e; within = λ i h. absurd (omega arith) }
  positions_mem (suc m) u {x} n =
      let (k, z, h, j, i, e) = beside_mem (labellings_from I (suc u) m) (I.degree u) 0 n in
      let p = positions_mem m (suc u) i in
      rw (sym e) (record {
        size = ap suc p.size;
        within = elim [ zero ↦ (λ _. let q : u + zero ≡ u = omega arith in rw q (omega arith)) | suc w ↦ (λ l. let q : u + suc w ≡ suc u + w = omega arith in rw q (p.within w (omega arith))) ];
      })

  mem_positions : (m u : ℕ) (x : List ℕ) → Positions u m x → Mem x (labellings_from I u m)
  unfolding labellings_from
  mem_positions zero u [] p = here refl
  mem_positions zero u (k ∷ x) p = absurd (let s = p.size in omega arith)
  mem_positions (suc m) u [] p = absurd (let s = p.size in omega arith)
  mem_positions (suc m) u (k ∷ x) p =
      let q : u + zero ≡ u = omega arith in
      mem_beside (labellings_from I (suc u) m) (I.degree u) 0 k (omega arith) (let h = rw q at (p.within zero (omega arith)) in omega arith)
      (mem_positions m (suc u) x (record { size = (let s = p.size in omega arith); within = λ i l. let q : suc u + i ≡ u + suc i = omega arith in rw q (p.within (suc i) (omega arith)) }))

  labellings_sorted : (m u : ℕ) → Sorted Less (labellings_from I u m)
  unfolding labellings_from
  labellings_sorted zero u = (λ y m. absurd (not-nil m), tt)
  labellings_sorted (suc m) u = beside_sorted (labellings_from I (suc u) m) (labellings_sorted m (suc u)) (I.degree u) 0

  pub matchings_sorted : Sorted Less (matchings I)
  unfolding matchings labellings
  matchings_sorted = passing_sorted (is_matching I) Less (labellings I) (labellings_sorted I.node_count 0)

  -- ---- what is in the list

  pub matching_mem : {x : List ℕ} → Mem x (matchings I) → Matching I x
  unfolding matchings labellings
  matching_mem m = let (n, q) = passing_mem (is_matching I) (labellings I) m in is_matching_lem I (positions_mem I.node_count 0 n).size q

  pub mem_matching : {x : List ℕ} → Matching I x → Mem x (matchings I)
  unfolding matchings labellings
  mem_matching {x} m = mem_passing (is_matching I) (labellings I) (mem_positions I.node_count 0 x (record { size = m.labelling.size; within = λ i l. let e : 0 + i ≡ i = omega arith in rw e (m.labelling.within i l) })) (matching_is I m)

  pub before : {x y : List ℕ} → length x ≡ I.node_count → UpTo x y → Before I x y ⊎ (x ≡ y)
  before z (inl s) = let (v, i, same, h) = place s in inl (record { node = v; inside = omega arith; same = same; smaller = h })
  before z (inr e) = inr e

  pub antisymm : {x y : List ℕ} → Before I x y ⊎ (x ≡ y) → Before I y x ⊎ (y ≡ x) → x ≡ y
  antisymm (inr e) q = e
  antisymm (inl p) (inr e) = sym e
  antisymm {x} {y} (inl p) (inl q) =
      absurd (by-test (ltb p.node q.node) (λ t. omega (arith, q.same p.node (omega (arith, ltb-true))))
      (λ t. by-test (ltb q.node p.node) (λ t'. omega (arith, p.same q.node (omega (arith, ltb-true))))
      (λ t'. let e : p.node ≡ q.node = omega (arith, ltb-false) in omega (arith, ap (position x) e, ap (position y) e))))

  -- ---- the laws

  pub first_matching : {x : List ℕ} {rest : List (List ℕ)} → matchings I ≡ x ∷ rest → Matching I x
  first_matching e = matching_mem (rw e (here refl))

  pub first_before : {x : List ℕ} {rest : List (List ℕ)} → matchings I ≡ x ∷ rest → {y : List ℕ} → Matching I y → Before I x y ⊎ (x ≡ y)
  first_before {x} e {y} m = before (first_matching e).labelling.size
      (⊎_elim (λ q. inr (sym q)) (λ n. inl ((rw e at matchings_sorted).0 y n)) (Memᴰ.cases_cons (rw e at (mem_matching m))))

  pub none_matching : matchings I ≡ [] → {x : List ℕ} → Matching I x → ⊥
  none_matching e m = not-nil (rw e at (mem_matching m))

  pub first_is : {x : List ℕ} → Matching I x → ((y : List ℕ) → Matching I y → Before I x y ⊎ (x ≡ y)) → (rest : List (List ℕ)) × (matchings I ≡ x ∷ rest)
  first_is {x} m f = go (matchings I) refl
    where
      go : (l : List (List ℕ)) → matchings I ≡ l → (rest : List (List ℕ)) × (matchings I ≡ x ∷ rest)
      go [] e = absurd (none_matching e m)
      go (y ∷ rest) e = (rest, e ∙ ap (λ (z : List ℕ). z ∷ rest) (antisymm (first_before e m) (f y (first_matching e))))

  pub none_is : ((x : List ℕ) → Matching I x → ⊥) → matchings I ≡ []
  none_is f = go (matchings I) refl
    where
      go : (l : List (List ℕ)) → matchings I ≡ l → matchings I ≡ []
      go [] e = e
      go (x ∷ rest) e = absurd (f x (first_matching e))

  pub smallest_is : {x : List ℕ} {rest : List (List ℕ)} → matchings I ≡ x ∷ rest → smallest I ≡ x
  unfolding smallest
  smallest_is e = ap (λ (l : List (List ℕ)). get_or l 0 []) e
