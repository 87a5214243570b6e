-- How many numbers pass a test: of those with one of n values value by value, and of the parts of one list part by part.
-- Assumes nothing.
use mathlib.Core.Path.{◌≡◌, refl, ap, ap₂, ◌∙◌}
use mathlib.Core.Bool.{Bool, true, false, not, cond}
use mathlib.Core.List.{List, [], ◌∷◌, ◌++◌, map}
use Prim.Native.Nat.{ℕ, zero, suc, ◌+◌, ◌-◌, ◌≤◌, ◌<◌}
use native.Mathlib.Omega.{arith}
use borrow.Author.Tests.{eqb-true, eqb-false, lt-ltb, le-ltb, ltb-true, ltb-false}
use lib.Dec.{eqb, ltb}
use lib.ListN.{length, length-append, length-map}
use Rattle.integers.specs.Places.{range, select, offset}
use Rattle.integers.proofs.Places.{by-test, by_cond, range_mem}
use Rattle.integers.proofs.Ranges.{range_add, select_append, select_all}
use Rattle.index.proofs.Lists.{select_past}

-- ---- sums

pub offset_ext : (n : ℕ) (f g : ℕ → ℕ) → ((u : ℕ) → u < n → f u ≡ g u) → offset f n ≡ offset g n
unfolding offset
offset_ext zero f g h = refl
offset_ext (suc n) f g h = ap₂ ◌+◌ (offset_ext n f g (λ u l. h u (omega arith))) (h n (omega arith))

pub offset_add : (n : ℕ) (f g : ℕ → ℕ) → offset (λ u. f u + g u) n ≡ offset f n + offset g n
unfolding offset
offset_add zero f g = refl
offset_add (suc n) f g = let ih = offset_add n f g in omega arith

offset_zero : (n : ℕ) → offset (λ u. 0) n ≡ 0
unfolding offset
offset_zero zero = refl
offset_zero (suc n) = let ih = offset_zero n in omega arith

-- ---- value by value

-- the number k alone counts 1
abbrev one : ℕ → ℕ → ℕ
one k u = cond (eqb k u) 1 0

offset-one : (k n : ℕ) → offset (one k) n ≡ cond (ltb k n) 1 0
unfolding offset
offset-one k zero = rw (le-ltb k 0 (omega arith))
offset-one k (suc n) =
    by-test (eqb k n)
    (λ e. let q : k ≡ n = eqb-true k n e in rw (e, offset-one k n, le-ltb k n (omega arith), lt-ltb k (suc n) (omega arith)))
    (λ e. let q : k ≡ n → ⊥ = eqb-false k n e in
    by-test (ltb k n)
    (λ b. let h = ltb-true k n b in rw (e, offset-one k n, b, lt-ltb k (suc n) (omega arith)))
    (λ b. let h = ltb-false k n b in rw (e, offset-one k n, b, le-ltb k (suc n) (omega arith))))

one_more : (b : Bool) (i : ℕ) (l : List ℕ) → length (cond b (i ∷ l) l) ≡ cond b 1 0 + length l
one_more true i l = omega arith
one_more false i l = omega arith

-- those of a list that have a value below n, counted by value
pub by_value : (f : ℕ → ℕ) (n : ℕ) (l : List ℕ) → offset (λ u. length (select (λ i. eqb (f i) u) l)) n ≡ length (select (λ i. ltb (f i) n) l)
unfolding select
by_value f n [] = offset_zero n
by_value f n (i ∷ l) =
    let having : ℕ → List ℕ = (λ u. select (λ i. eqb (f i) u) l) in
    let rest : ℕ → ℕ = (λ u. length (having u)) in
    let a = offset_ext n (λ u. length (cond (eqb (f i) u) (i ∷ having u) (having u))) (λ u. one (f i) u + rest u) (λ u _. one_more (eqb (f i) u) i (having u)) in
    omega (arith, by_value f n l, a, offset_add n (one (f i)) rest, offset-one (f i) n, one_more (ltb (f i) n) i (select (λ i. ltb (f i) n) l))

-- each passes or fails
pub select_split : (t : ℕ → Bool) (l : List ℕ) → length (select t l) + length (select (λ i. not (t i)) l) ≡ length l
unfolding select
select_split t [] = refl
select_split t (i ∷ l) = let ih = select_split t l in by-test (t i) (λ e. rw e (omega arith)) (λ e. rw e (omega arith))

-- all but perhaps the last pass
pub all_but_last : (t : ℕ → Bool) (n : ℕ) → 1 ≤ n → ((k : ℕ) → suc k < n → t k ≡ true) → select t (range 0 n) ≡ range 0 (cond (t (n - 1)) n (n - 1))
all_but_last t n h f =
    let last = n - 1 in
    let e : n ≡ last + 1 = omega arith in
    by_cond (λ (m : ℕ). select t (range 0 n) ≡ range 0 m) (t last)
    (λ y. select_all t (range 0 n) (λ k m. let b = range_mem 0 n m in
    by-test (eqb k last) (λ q. ap t (eqb-true k last q) ∙ y) (λ q. let d : k ≡ last → ⊥ = eqb-false k last q in f k (omega arith))))
    (λ y. ap (λ (m : ℕ). select t (range 0 m)) e ∙ select_past t last y ∙ select_all t (range 0 last) (λ k m. let b = range_mem 0 last m in f k (omega arith)))

-- ---- part by part: parts of the sizes f, one after another

-- the numbers from a + j on, and those from j on
select_shifted : (t : ℕ → Bool) (a j n : ℕ) → select t (range (a + j) n) ≡ map (λ k. a + k) (select (λ k. t (a + k)) (range j n))
unfolding range select
select_shifted t a j zero = refl
select_shifted t a j (suc n) =
    let e : suc (a + j) ≡ a + suc j = omega arith in
    let ih = ap (λ (i : ℕ). select t (range i n)) e ∙ select_shifted t a (suc j) n in
    by-test (t (a + j)) (λ q. rw q (ap (λ (l : List ℕ). (a + j) ∷ l) ih)) (λ q. rw q ih)

-- of the places in part u those that pass, counted from its start
abbrev pub passing : (ℕ → Bool) → (ℕ → ℕ) → ℕ → List ℕ
passing t f u = select (λ k. t (offset f u + k)) (range 0 (f u))

-- one part more
pub select_part : (t : ℕ → Bool) (f : ℕ → ℕ) (n : ℕ) → select t (range 0 (offset f (suc n))) ≡ select t (range 0 (offset f n)) ++ map (λ k. offset f n + k) (passing t f n)
unfolding offset
select_part t f n =
    let a = offset f n in
    let z : 0 + a ≡ a + 0 = omega arith in
    ap (select t) (range_add 0 a (f n) ∙ ap (λ (i : ℕ). range 0 a ++ range i (f n)) z)
    ∙ select_append t (range 0 a) (range (a + 0) (f n)) ∙ ap (λ (l : List ℕ). select t (range 0 a) ++ l) (select_shifted t a 0 (f n))

pub by_part : (t : ℕ → Bool) (f : ℕ → ℕ) (n : ℕ) → offset (λ u. length (passing t f u)) n ≡ length (select t (range 0 (offset f n)))
unfolding offset range select
by_part t f zero = refl
by_part t f (suc n) =
    let own = passing t f n in
    let shifted = map (λ k. offset f n + k) own in
    omega (arith, by_part t f n, ap length (select_part t f n), length-append (select t (range 0 (offset f n))) shifted, length-map own (λ k. offset f n + k))
