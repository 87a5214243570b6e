-- Lists whose elements stand in an order, and the best of one: the least by a key, the first of equals.
-- Assumes nothing.
use mathlib.Core.Path.{◌≡◌, refl, subst}
use mathlib.Core.Bool.{Bool, true, false, cond}
use mathlib.Core.List.{List, [], ◌∷◌, ◌++◌}
use mathlib.Core.List.Memᴰ
use mathlib.Core.List.Memᴰ.{head as here}
use mathlib.Core.List.Memᴰ.{tail as there}
use mathlib.Core.List.{Memᴰ as Mem}
use mathlib.Core.Logic.{◌⊎◌, inl, inr, ⊎_elim}
use mathlib.Core.Option.{some, none}
use Prim.Native.Nat.{ℕ, zero, suc, ◌<◌}
use native.Mathlib.Omega.{arith}
use lib.IntN.{ℤ}
use lib.Signed.{lt_z, ◌≤ℤ◌}
use Rattle.integers.specs.Places.{range, select}
use Rattle.integers.proofs.Parts.{linear}
use Rattle.integers.proofs.Order.{le_refl}
use Rattle.integers.proofs.Places.{range_mem, select_mem}
use Rattle.rules.specs.Rounding.{best_from, best}

-- ---- the best of a list is in it

module _ {A : Type 0} (key : A → ℤ) where
  best_from_mem : (x : A) (l : List A) → Mem (best_from key x l) (x ∷ l)
  unfolding best_from
  best_from_mem x [] = here refl
  best_from_mem x (y ∷ l) = go (lt_z (key y) (key x)) (best_from_mem y l) (best_from_mem x l)
    where
      go : (t : Bool) → Mem (best_from key y l) (y ∷ l) → Mem (best_from key x l) (x ∷ l) → Mem (best_from key (cond t y x) l) (x ∷ y ∷ l)
      go true m n = there m
      go false m (here e) = here e
      go false m (there n) = there (there n)

  pub best_mem : (l : List A) (x : A) → best key l ≡ some x → Mem x l
  unfolding best
  best_mem [] x e = absurd (let z : ◌≡◌ {A = ℕ} 0 1 = cc in omega arith)
  best_mem (y ∷ l) x e = let q : best_from key y l ≡ x = cc in subst (λ z. Mem z (y ∷ l)) q (best_from_mem y l)

  -- a list that has something has a best
  pub best_none : (l : List A) → best key l ≡ none → l ≡ []
  unfolding best
  best_none [] e = refl
  best_none (x ∷ l) e = absurd (let z : ◌≡◌ {A = ℕ} 0 1 = cc in omega arith)

-- ---- an order that is transitive

module _ {A : Type 0} (R : A → A → Type 0) where
  -- each comes before those after it
  abbrev pub Sorted : List A → Type 0
  Sorted [] = Unit {0}
  Sorted (x ∷ l) = ((y : A) → Mem y l → R x y) × Sorted l

  pub sorted_append : (k l : List A) → Sorted k → Sorted l → ((x y : A) → Mem x k → Mem y l → R x y) → Sorted (k ++ l)
  sorted_append [] l s t f = t
  sorted_append (x ∷ k) l s t f = (λ y m. ⊎_elim (s.0 y) (f x y (here refl)) (Memᴰ.append_cases k m), sorted_append k l s.1 t (λ a b m. f a b (there m)))

  -- of a list x has the least key, and comes before the others that have it
  pub record Foremost (key : A → ℤ) (l : List A) (x : A) : Type 0 where
    pub least : (y : A) → Mem y l → key x ≤ℤ key y
    pub first : (y : A) → Mem y l → key y ≤ℤ key x → (x ≡ y) ⊎ R x y

  module _ (trans : (x y z : A) → R x y → R y z → R x z) (key : A → ℤ) where
    foremost_from : (x : A) (l : List A) → Sorted (x ∷ l) → Foremost key (x ∷ l) (best_from key x l)
    unfolding best_from
    foremost_from x [] s = record {
      least = λ y m. let e = Memᴰ.eq_of_singleton m in rw e (le_refl (key x));
      first = λ y m _. let e = Memᴰ.eq_of_singleton m in inl (rw e refl);
    }
    foremost_from x (y ∷ l) s = go (lt_z (key y) (key x)) refl (foremost_from y l s.1) (foremost_from x l (λ z m. s.0 z (there m), s.1.1))
      where
        go : (t : Bool) → lt_z (key y) (key x) ≡ t → Foremost key (y ∷ l) (best_from key y l) → Foremost key (x ∷ l) (best_from key x l) → Foremost key (x ∷ y ∷ l) (best_from key (cond t y x) l)
        go true e p _ =
            let below : key (best_from key y l) ≤ℤ key y = p.least y (here refl) in
            record {
              least = λ z m. ⊎_elim (λ (q : z ≡ x). rw q (omega linear)) (p.least z) (Memᴰ.cases_cons m);
              first = λ z m h. ⊎_elim (λ (q : z ≡ x). absurd (let h' = rw q at h in omega linear)) (λ n. p.first z n h) (Memᴰ.cases_cons m);
            }
        go false e _ p =
            let below : key (best_from key x l) ≤ℤ key x = p.least x (here refl) in
            record {
              least = λ z m. ⊎_elim (λ (q : z ≡ x). rw q below) (λ n. ⊎_elim (λ (q : z ≡ y). let h : key (best_from key x l) ≤ℤ key y = omega linear in rw q h) (λ n'. p.least z (there n')) (Memᴰ.cases_cons n)) (Memᴰ.cases_cons m);
              first = λ z m h. ⊎_elim (λ (q : z ≡ x). p.first z (here q) h)
                  (λ (n : Mem z (y ∷ l)). ⊎_elim (λ (q : z ≡ y). let h' = rw q at h in rw q (inr (⊎_elim (λ (r : best_from key x l ≡ x). rw r (s.0 y (here refl))) (λ r. trans (best_from key x l) x y r (s.0 y (here refl))) (p.first x (here refl) (omega linear)))))
                  (λ n'. p.first z (there n') h) (Memᴰ.cases_cons n)) (Memᴰ.cases_cons m);
            }

    pub best_foremost : (l : List A) → Sorted l → (x : A) → best key l ≡ some x → Foremost key l x
    unfolding best
    best_foremost [] s x e = absurd (let z : ◌≡◌ {A = ℕ} 0 1 = cc in omega arith)
    best_foremost (y ∷ l) s x e = let q : best_from key y l ≡ x = cc in subst (Foremost key (y ∷ l)) q (foremost_from y l s)

-- ---- selected numbers rise

pub select_sorted : (t : ℕ → Bool) (a n : ℕ) → Sorted ◌<◌ (select t (range a n))
unfolding select range
select_sorted t a zero = tt
select_sorted t a (suc n) = go (t a) (select_sorted t (suc a) n)
  where
    rest : List ℕ
    rest = select t (range (suc a) n)

    go : (b : Bool) → Sorted ◌<◌ rest → Sorted ◌<◌ (cond b (a ∷ rest) rest)
    go true s = (λ y m. let h = range_mem (suc a) n (select_mem t (range (suc a) n) m).0 in omega arith, s)
    go false s = s
