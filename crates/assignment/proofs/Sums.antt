-- Sums over places: where two are equal term by term, and over places that a function takes once.
-- Assumes nothing.
use mathlib.Core.Path.{◌≡◌, refl, sym, ap, ◌∙◌}
use mathlib.Core.Bool.{true, cond}
use Prim.Native.Nat.{ℕ, zero, suc, ◌<◌}
use native.Mathlib.Nat.{not-suc-le-zero}
use native.Mathlib.Omega.{arith}
use borrow.Author.Tests.{eq-eqb, ne_eqb}
use lib.Dec.{eqb}
use lib.IntN.{ℤ, pos}
use lib.Signed.{◌≤ℤ◌}
use Rattle.integers.specs.Places.{total, only}
use Rattle.integers.proofs.Parts.{linear, add}
use Rattle.integers.proofs.Order.{le_refl}
use Rattle.integers.proofs.Totals.{total_ext, total_le, total_zero, total_change, total_injective}
use Rattle.assignment.proofs.Counts.{by-same}

-- no term is more, and the sum is no less: each term is the same
pub total_same : (n : ℕ) (f g : ℕ → ℤ) → ((i : ℕ) → i < n → f i ≤ℤ g i) → total n g ≤ℤ total n f → (i : ℕ) → i < n → f i ≡ g i
unfolding total
total_same zero f g h k i l = absurd (not-suc-le-zero l)
total_same (suc n) f g h k i l =
    let a = total_le n f g (λ i l. h i (omega arith)) in
    let b = h n (omega arith) in
    by-same i n
    (λ q. let e : f n ≡ g n = omega (linear, add (total n f) (f n), add (total n g) (g n)) in rw q e)
    (λ q. total_same n f g (λ i l. h i (omega arith)) (omega (linear, add (total n f) (f n), add (total n g) (g n))) i (omega arith))

-- f with 0 at one place
abbrev pub cleared : (ℕ → ℤ) → ℕ → ℕ → ℤ
cleared f x i = cond (eqb i x) (pos 0) (f i)

-- the sum over the places that l takes, none twice, is that over all, if f is 0 at those not taken
pub total_taken : (m n : ℕ) (l : ℕ → ℕ) (f : ℕ → ℤ) → ((u : ℕ) → u < n → l u < m) → ((u w : ℕ) → u < n → w < n → l u ≡ l w → u ≡ w)
    → ((i : ℕ) → i < m → ((u : ℕ) → u < n → l u ≡ i → ⊥) → f i ≡ pos 0) → total m f ≡ total n (λ u. f (l u))
unfolding total
total_taken m zero l f k d z = total_ext m f (λ i. pos 0) (λ i h. z i h (λ u e. absurd (not-suc-le-zero e))) ∙ total_zero m
total_taken m (suc n) l f k d z =
    let p = l n in
    let g : ℕ → ℤ = cleared f p in
    let ih = total_taken m n l g (λ u q. k u (omega arith)) (λ u w q r. d u w (omega arith) (omega arith))
    (λ i h y. by-same i p (λ e. rw (eq-eqb i p e))
    (λ e. rw (ne_eqb i p e) (z i h (λ u q r. by-same u n (λ a. e (sym r ∙ ap l a)) (λ a. y u (omega arith) r))))) in
    let same : total n (λ u. g (l u)) ≡ total n (λ u. f (l u)) =
    total_ext n (λ u. g (l u)) (λ u. f (l u)) (λ u q. rw (ne_eqb (l u) p (λ e. let y : u ≡ n = d u n (omega arith) (omega arith) e in omega arith))) in
    let one : g p ≡ pos 0 = rw (eq-eqb p p refl) in
    let t = total_change m p f g (k n (omega arith)) (λ i _ e. rw (ne_eqb i p e)) in
    omega (linear, add (total m g) (f p), add (total m f) (g p), add (total n (λ u. f (l u))) (f p))

-- f is nowhere above 0: the sum over places taken once is no less than that over all
pub total_part : (m n : ℕ) (l : ℕ → ℕ) (f : ℕ → ℤ) → ((i : ℕ) → f i ≤ℤ pos 0) → ((u : ℕ) → u < n → l u < m) → ((u w : ℕ) → u < n → w < n → l u ≡ l w → u ≡ w)
    → total m f ≤ℤ total n (λ u. f (l u))
unfolding only
total_part m n l f low k d = total_injective m n l (λ _. true) f low (λ u h _. k u h) (λ u w h h' _ _ e. d u w h h' e)

-- and where it is no more, f is 0 at the places not taken
pub total_idle : (m n : ℕ) (l : ℕ → ℕ) (f : ℕ → ℤ) → ((i : ℕ) → f i ≤ℤ pos 0) → ((u : ℕ) → u < n → l u < m) → ((u w : ℕ) → u < n → w < n → l u ≡ l w → u ≡ w)
    → total n (λ u. f (l u)) ≤ℤ total m f → (i : ℕ) → i < m → ((u : ℕ) → u < n → l u ≡ i → ⊥) → f i ≡ pos 0
total_idle m n l f low k d h i b free =
    let g : ℕ → ℤ = cleared f i in
    let low' : (j : ℕ) → g j ≤ℤ pos 0 = (λ j. by-same j i (λ e. rw (eq-eqb j i e) (le_refl (pos 0))) (λ e. rw (ne_eqb j i e) (low j))) in
    let a = total_part m n l g low' k d in
    let same : total n (λ u. g (l u)) ≡ total n (λ u. f (l u)) = total_ext n (λ u. g (l u)) (λ u. f (l u)) (λ u q. rw (ne_eqb (l u) i (free u q))) in
    let one : g i ≡ pos 0 = rw (eq-eqb i i refl) in
    let t = total_change m i f g b (λ j _ e. rw (ne_eqb j i e)) in
    let z = low i in
    omega (linear, add (total m g) (f i), add (total m f) (g i))
