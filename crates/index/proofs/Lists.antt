-- Lists of numbers: those that pass a test, and those that have a key.
-- Assumes nothing.
use mathlib.Core.Path.{◌≡◌, refl, sym, ap, ap₂, ◌∙◌, subst}
use mathlib.Core.Bool.{Bool, true, false, cond}
use mathlib.Core.List.{List, [], ◌∷◌, ◌++◌, append-nil}
use mathlib.Core.List.Memᴰ.{head as here}
use mathlib.Core.List.Memᴰ.{tail as there}
use mathlib.Core.List.{Memᴰ as Mem}
use Prim.Native.Nat.{ℕ, zero, suc, ◌+◌, ◌<◌}
use native.Mathlib.Nat.{not-suc-le-zero}
use native.Mathlib.Omega.{arith}
use borrow.Author.Tests.{eqb-true, ltb-true, ltb-false}
use lib.Dec.{eqb, ltb}
use lib.ListN.{length, get_or, take, length-append, get_or-append}
use lib.Seq.{take-append-le, take-append_seam, get_or-append_seam}
use Rattle.integers.specs.Places.{range, select}
use Rattle.integers.proofs.Places.{by-test, range_mem}
use Rattle.integers.proofs.Ranges.{range_add, select_append}
use Rattle.index.specs.Index.{having}

-- tests that agree select alike
pub select_ext : (t u : ℕ → Bool) (l : List ℕ) → ((i : ℕ) → Mem i l → t i ≡ u i) → select t l ≡ select u l
unfolding select
select_ext t u [] h = refl
select_ext t u (x ∷ l) h = ap₂ (λ (b : Bool) (k : List ℕ). cond b (x ∷ k) k) (h x (here refl)) (select_ext t u l (λ i m. h i (there m)))

-- one number more, which passes or does not
range_next : (n : ℕ) → range 0 (n + 1) ≡ range 0 n ++ n ∷ []
unfolding range
range_next n = range_add 0 n 1 ∙ (let z : 0 + n ≡ n = omega arith in ap (λ (m : ℕ). range 0 n ++ m ∷ []) z)

pub select_next : (t : ℕ → Bool) (n : ℕ) → t n ≡ true → select t (range 0 (n + 1)) ≡ select t (range 0 n) ++ n ∷ []
unfolding select
select_next t n e = ap (select t) (range_next n) ∙ select_append t (range 0 n) (n ∷ []) ∙ rw e

pub select_past : (t : ℕ → Bool) (n : ℕ) → t n ≡ false → select t (range 0 (n + 1)) ≡ select t (range 0 n)
unfolding select
select_past t n e = ap (select t) (range_next n) ∙ select_append t (range 0 n) (n ∷ []) ∙ rw e (append-nil (select t (range 0 n)))

-- keys that agree
pub having_ext : (f g : ℕ → ℕ) (m : ℕ) → ((i : ℕ) → i < m → f i ≡ g i) → (l : ℕ) → having f l m ≡ having g l m
having_ext f g m h l = select_ext (λ i. eqb (f i) l) (λ i. eqb (g i) l) (range 0 m) (λ i b. ap (λ (k : ℕ). eqb k l) (h i (let c = range_mem 0 m b in omega arith)))

-- the n-th thing of a key, those ahead of it, and that it is below m
pub at_place : (key : ℕ → ℕ) (l m n : ℕ) → n < length (having key l m) → let e = get_or (having key l m) n 0 in (key e ≡ l) × (having key l e ≡ take n (having key l m)) × (e < m)
unfolding range select
at_place key l zero n h = absurd (not-suc-le-zero h)
at_place key l (suc m) n h =
    let z : m + 1 ≡ suc m = omega arith in
    by-test (eqb (key m) l)
    (λ t. let e : having key l (suc m) ≡ having key l m ++ m ∷ [] = ap (having key l) (sym z) ∙ select_next (λ i. eqb (key i) l) m t in last t e (at_place key l m n))
    (λ t. let e : having key l (suc m) ≡ having key l m = ap (having key l) (sym z) ∙ select_past (λ i. eqb (key i) l) m t in
    subst (λ (k : List ℕ). (key (get_or k n 0) ≡ l) × (having key l (get_or k n 0) ≡ take n k) × (get_or k n 0 < suc m)) (sym e)
    (let a = at_place key l m n (omega (arith, ap length e)) in (a.0, a.1, let b = a.2 in omega arith)))
  where
    last : eqb (key m) l ≡ true → having key l (suc m) ≡ having key l m ++ m ∷ []
        → (n < length (having key l m) → (key (get_or (having key l m) n 0) ≡ l) × (having key l (get_or (having key l m) n 0) ≡ take n (having key l m)) × (get_or (having key l m) n 0 < m))
        → (key (get_or (having key l (suc m)) n 0) ≡ l) × (having key l (get_or (having key l (suc m)) n 0) ≡ take n (having key l (suc m))) × (get_or (having key l (suc m)) n 0 < suc m)
    last t e before =
        let k = having key l m in
        let c : length (k ++ m ∷ []) ≡ length k + 1 = length-append k (m ∷ []) in
        subst (λ (k : List ℕ). (key (get_or k n 0) ≡ l) × (having key l (get_or k n 0) ≡ take n k) × (get_or k n 0 < suc m)) (sym e)
        (by-test (ltb n (length k))
        (λ b. let q = ltb-true n (length k) b in
        let a = before q in
        let g : get_or (k ++ m ∷ []) n 0 ≡ get_or k n 0 = get_or-append k (m ∷ []) 0 n q in
        (ap key g ∙ a.0, ap (having key l) g ∙ a.1 ∙ sym (take-append-le n k (m ∷ []) (omega arith)), let b = a.2 in omega arith))
        (λ b. let q : n ≡ length k = omega (arith, ltb-false n (length k) b, ap length e) in
        let g : get_or (k ++ m ∷ []) n 0 ≡ m = ap (λ (i : ℕ). get_or (k ++ m ∷ []) i 0) q ∙ get_or-append_seam k m [] 0 in
        (ap key g ∙ eqb-true (key m) l t, ap (having key l) g ∙ sym (ap (λ (i : ℕ). take i (k ++ m ∷ [])) q ∙ take-append_seam k (m ∷ [])), omega arith)))
