-- Numbers in decimal: a digit or the digits of n / 10 and the last, how many there are, and that they stand for n.
-- Assumes nothing.
use mathlib.Core.Path.{◌≡◌, refl, sym, ap, ◌∙◌}
use mathlib.Core.List.{List, [], ◌∷◌, ◌++◌}
use Prim.Native.Nat.{ℕ, zero, suc, ◌+◌, ◌-◌, ◌*◌, ◌/◌, ◌%◌, ◌^◌, ◌≤◌, ◌<◌}
use native.Mathlib.Omega.{arith}
use borrow.Author.Tests.{lt-ltb, le-ltb, ltb-false}
use lib.Dec.{ltb}
use lib.ListN.{length, get_or, length-append, get_or-append}
use lib.IntN.{ℤ, pos, negsuc}
use lib.Signed.{mag}
use mir.Syntax.{w64}
use mir.Val.{SFits, to_z, of_z}
use mir.Facts.{to_z-of_z}
use Rattle.std.specs.Fmt.{decimal as std_decimal, signed_decimal}
use Rattle.std.proofs.lemmas.Fmt.{decimal_by_steps}
use Rattle.integers.proofs.Places.{by-test, by_cond, if-true, if-false}
use Rattle.console.specs.Decimal.{digits_in, decimal, signed, value_from}

-- more room changes nothing
digits_room : (m k n : ℕ) → n < m → n < k → digits_in m n ≡ digits_in k n
unfolding digits_in
digits_room zero k n h g = absurd (omega arith)
digits_room (suc m) zero n h g = absurd (omega arith)
digits_room (suc m) (suc k) n h g =
    by-test (ltb n 10) (λ t. rw t)
    (λ t. let l : 10 ≤ n = ltb-false n 10 t in rw t (ap (λ (x : List ℕ). x ++ ((48 + n % 10) ∷ [])) (digits_room m k (n / 10) (omega arith) (omega arith))))

pub decimal_digit : (n : ℕ) → n < 10 → decimal n ≡ (48 + n) ∷ []
unfolding decimal digits_in
decimal_digit n h = if-true _ _ (lt-ltb n 10 h)

pub decimal_more : (n : ℕ) → 10 ≤ n → decimal n ≡ decimal (n / 10) ++ ((48 + n % 10) ∷ [])
unfolding decimal digits_in
decimal_more n h =
    if-false _ _ (le-ltb n 10 h)
    ∙ ap (λ (x : List ℕ). x ++ ((48 + n % 10) ∷ [])) (digits_room n (suc (n / 10)) (n / 10) (omega arith) (omega arith))

-- ---- what the library prints

pub decimal_is : (n : ℕ) → n < 2 ^ 64 → std_decimal n ≡ decimal n
decimal_is n h =
    decimal_by_steps (λ (n : ℕ) (l : List ℕ). l ≡ decimal n) (λ n g. sym (decimal_digit n g))
    (λ n l g e. ap (λ (x : List ℕ). x ++ ((48 + n % 10) ∷ [])) e ∙ sym (decimal_more n g)) n h

signed_of : (z : ℤ) → mag z < 2 ^ 63 → signed_decimal z ≡ signed z
unfolding signed
signed_of (pos n) h = decimal_is n (omega arith)
signed_of (negsuc n) h = ap (λ (l : List ℕ). 45 ∷ l) (decimal_is (suc n) (omega arith))

-- of a signed number as a call is handed it
pub signed_is : {z : ℤ} → SFits w64 z → signed_decimal (to_z w64 (of_z w64 z)) ≡ signed z
signed_is {z} h = ap signed_decimal (to_z-of_z h) ∙ signed_of z h.sfits

-- ---- digits stand for the number

value_append : (a : ℕ) (x y : List ℕ) → value_from a (x ++ y) ≡ value_from (value_from a x) y
unfolding value_from
value_append a [] y = refl
value_append a (d ∷ x) y = value_append (a * 10 + (d - 48)) x y

value_digits : (m n : ℕ) → n < m → value_from 0 (digits_in m n) ≡ n
unfolding digits_in value_from
value_digits zero n h = absurd (omega arith)
value_digits (suc m) n h =
    by-test (ltb n 10) (λ t. rw t (omega arith))
    (λ t. let l = ltb-false n 10 t in
    rw t (value_append 0 (digits_in m (n / 10)) ((48 + n % 10) ∷ []) ∙ rw (value_digits m (n / 10) (omega arith)) (omega arith)))

pub value_decimal : (n : ℕ) → value_from 0 (decimal n) ≡ n
unfolding decimal
value_decimal n = value_digits (suc n) n (omega arith)

-- ---- and begin with no 0, but for 0 itself

some_digits : (m n : ℕ) → n < m → 0 < length (digits_in m n)
unfolding digits_in
some_digits zero n h = absurd (omega arith)
some_digits (suc m) n h =
    by_cond (λ (l : List ℕ). 0 < length l) (ltb n 10) (λ t. omega arith) (λ t. rw length-append (omega arith))

lead_digits : (m n : ℕ) → n < m → 0 < n → 48 < get_or (digits_in m n) 0 0
unfolding digits_in
lead_digits zero n h g = absurd (omega arith)
lead_digits (suc m) n h g =
    by_cond (λ (l : List ℕ). 48 < get_or l 0 0) (ltb n 10) (λ t. omega arith)
    (λ t. let l = ltb-false n 10 t in
    rw (get_or-append (digits_in m (n / 10)) ((48 + n % 10) ∷ []) 0 0 (some_digits m (n / 10) (omega arith))) (lead_digits m (n / 10) (omega arith) (omega arith)))

pub lead_decimal : (n : ℕ) → 0 < n → 48 < get_or (decimal n) 0 0
unfolding decimal
lead_decimal n h = lead_digits (suc n) n (omega arith) h
