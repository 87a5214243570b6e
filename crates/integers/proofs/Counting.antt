-- How many numbers pass a test: at most as many as a function that rises at them has values there.
-- Assumes nothing.
use mathlib.Core.Path.{◌≡◌, ap}
use mathlib.Core.Bool.{Bool, true}
use Prim.Native.Nat.{ℕ, zero, suc, ◌+◌, ◌≤◌, ◌<◌}
use native.Mathlib.Nat.{not-suc-le-zero}
use native.Mathlib.Omega.{arith}
use borrow.Author.Tests.{eqb-true, eqb-false}
use lib.Dec.{eqb}
use lib.ListN.{length}
use Rattle.integers.specs.Places.{range, select}
use Rattle.integers.proofs.Places.{by-test}

-- what rises at each number rises however far apart
pub climbs : (f : ℕ → ℕ) (n : ℕ) → ((x : ℕ) → suc x < n → f x < f (suc x)) → (i j : ℕ) → i < j → j < n → f i < f j
climbs f n up i zero h b = absurd (not-suc-le-zero h)
climbs f n up i (suc j) h b =
    let s = up j b in
    by-test (eqb i j) (λ e. let q = ap f (eqb-true i j e) in omega arith)
    (λ e. let q : i ≡ j → ⊥ = eqb-false i j e in let r = climbs f n up i j (omega arith) (omega arith) in omega arith)

-- numbers that pass a test, at which f rises, from a up to below b
pub select_few : (t : ℕ → Bool) (f : ℕ → ℕ) (e m a b : ℕ) → a ≤ b
    → ((i : ℕ) → e ≤ i → i < e + m → t i ≡ true → (a ≤ f i) × (f i < b))
    → ((i j : ℕ) → e ≤ i → i < j → j < e + m → t i ≡ true → t j ≡ true → f i < f j)
    → length (select t (range e m)) + a ≤ b
unfolding select range
select_few t f e zero a b h k r = omega arith
select_few t f e (suc m) a b h k r =
    by-test (t e)
    (λ q. let at = k e (omega arith) (omega arith) q in
    let ih = select_few t f (suc e) m (suc (f e)) b (omega arith) (λ i x y z. (r e i (omega arith) (omega arith) (omega arith) q z, (k i (omega arith) (omega arith) z).1)) (λ i j x y z. r i j (omega arith) y (omega arith)) in
    rw q (omega arith))
    (λ q. rw q (select_few t f (suc e) m a b h (λ i x y. k i (omega arith) (omega arith)) (λ i j x y z. r i j (omega arith) y (omega arith))))
