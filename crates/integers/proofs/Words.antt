-- Laws of words as sets of small numbers: the bits of what the operations answer, the lowest bit, and how many bits stand below one.
-- Assumes nothing.
use mathlib.Core.Path.{◌≡◌, refl, sym, ap, ap₂, ◌∙◌}
use mathlib.Core.Bool.{Bool, true, false, not, cond, ◌&&◌, ◌||◌}
use Prim.Native.Nat.{ℕ, zero, suc, ◌+◌, ◌-◌, ◌*◌, ◌/◌, ◌%◌, ◌^◌, ◌≤◌, ◌<◌, min, max}
use native.Mathlib.Nat.{one-mul, div_self, div-one, zero-div, div-eq_of_lt, div-div-eq-div-mul, mod-lt, mod-eq_of_lt, mul-mod_left, pow-suc, pow-succ'}
use native.Mathlib.Numerals.{one-add}
use native.Mathlib.Omega.{arith}
use borrow.Author.Tests.{eqb-true, eqb-false, ltb-true, ltb-false}
use lib.Dec.{eqb, ltb, lit<}
use lib.Arith.{lt-one, digits_mod}
use lib.Pow.{pow_pos, pow_mono, pow-lt, pow-add, high, low, ones_lt, ones_split}
use lib.Bits.{bit_and, bit_or, bit_xor, differ, and_step, or_step, xor_step, and_shr, or_shr, xor_shr, or_mod, or_lt, xor_lt, or_zero_r, or_shifted_r, and_mask, and_self}
use lib.Count.{ones, ones_cat, count_trailing_zeros, under}
use Rattle.integers.specs.Words.{bit, word_of}
use Rattle.integers.proofs.Places.{by-test, left_true, right_true}
use Rattle.integers.proofs.Counting.{climbs}

not_both : {t : Bool} → t ≡ true → t ≡ false → ⊥
not_both p q = let z : ◌≡◌ {A = ℕ} 0 1 = cc in omega arith

-- ---- a bit, from the lowest

bit_first : (w : ℕ) → bit w 0 ≡ eqb (w % 2) 1
unfolding bit
bit_first w = ap (λ (n : ℕ). eqb (n % 2) 1) (div-one w)

bit_next : (w l : ℕ) → bit w (suc l) ≡ bit (w / 2) l
unfolding bit
bit_next w l = ap (λ (n : ℕ). eqb (n % 2) 1) (ap (λ (n : ℕ). w / n) (pow-succ' 2 l) ∙ sym (div-div-eq-div-mul w 2 (2 ^ l)))

pub bit_zero : (l : ℕ) → bit 0 l ≡ false
unfolding bit
bit_zero l = ap (λ (n : ℕ). eqb (n % 2) 1) (zero-div (2 ^ l))

pub some_bit : (w l : ℕ) → bit w l ≡ true → w ≡ 0 → ⊥
some_bit w l e z = not_both e (ap (λ (n : ℕ). bit n l) z ∙ bit_zero l)

-- ---- the operations, bit by bit

digit : (P : ℕ → Type 0) → P 0 → P 1 → (x : ℕ) → x < 2 → P x
digit P a b zero h = a
digit P a b (suc zero) h = b
digit P a b (suc (suc x)) h = absurd (omega arith)

two_digits : (P : ℕ → ℕ → Type 0) → P 0 0 → P 0 1 → P 1 0 → P 1 1 → (x y : ℕ) → x < 2 → y < 2 → P x y
two_digits P a b c d x y h k = digit (λ x. P x y) (digit (P 0) a b y k) (digit (P 1) c d y k) x h

-- f on two digits is g on what they say
abbrev Table : (ℕ → ℕ → ℕ) → (Bool → Bool → Bool) → ℕ → ℕ → Type 0
Table f g x y = (f x y < 2) × (eqb (f x y) 1 ≡ g (eqb x 1) (eqb y 1))

module _ (op f : ℕ → ℕ → ℕ) (g : Bool → Bool → Bool)
    (shr : (a b k : ℕ) → op a b / 2 ^ k ≡ op (a / 2 ^ k) (b / 2 ^ k))
    (step : (a b : ℕ) → op a b ≡ op (a / 2) (b / 2) * 2 + f (a % 2) (b % 2))
    (table : (x y : ℕ) → x < 2 → y < 2 → Table f g x y) where
  by_bits : (a b l : ℕ) → bit (op a b) l ≡ g (bit a l) (bit b l)
  unfolding bit
  by_bits a b l =
      let x = a / 2 ^ l in
      let y = b / 2 ^ l in
      let t = table (x % 2) (y % 2) (mod-lt x (omega arith)) (mod-lt y (omega arith)) in
      ap (λ (n : ℕ). eqb (n % 2) 1) (shr a b l ∙ step x y) ∙ ap (λ (n : ℕ). eqb n 1) (digits_mod (op (x / 2) (y / 2)) t.0) ∙ t.1

pub bit_or_lem : (a b l : ℕ) → bit (bit_or a b) l ≡ (bit a l || bit b l)
bit_or_lem = by_bits bit_or max ◌||◌ or_shr or_step (two_digits (Table max ◌||◌) (lit< tt, refl) (lit< tt, refl) (lit< tt, refl) (lit< tt, refl))

pub bit_and_lem : (a b l : ℕ) → bit (bit_and a b) l ≡ (bit a l && bit b l)
bit_and_lem = by_bits bit_and min ◌&&◌ and_shr and_step (two_digits (Table min ◌&&◌) (lit< tt, refl) (lit< tt, refl) (lit< tt, refl) (lit< tt, refl))

abbrev apart : Bool → Bool → Bool
apart s t = cond s (not t) t

pub bit_xor_lem : (a b l : ℕ) → bit (bit_xor a b) l ≡ cond (bit a l) (not (bit b l)) (bit b l)
bit_xor_lem = by_bits bit_xor differ apart xor_shr xor_step (two_digits (Table differ apart) (lit< tt, refl) (lit< tt, refl) (lit< tt, refl) (lit< tt, refl))

-- the bits of a that b lacks
pub bit_without : (a b l : ℕ) → bit (bit_xor (bit_or a b) b) l ≡ (bit a l && not (bit b l))
bit_without a b l = bit_xor_lem (bit_or a b) b l ∙ ap (λ (t : Bool). apart t (bit b l)) (bit_or_lem a b l) ∙ lacks (bit a l) (bit b l)
  where
    lacks : (s t : Bool) → apart (s || t) t ≡ (s && not t)
    lacks true true = refl
    lacks true false = refl
    lacks false true = refl
    lacks false false = refl

pub without_fits : (a b : ℕ) → a < 2 ^ 64 → b < 2 ^ 64 → bit_xor (bit_or a b) b < 2 ^ 64
without_fits a b h k = xor_lt 64 (bit_or a b) b (or_lt 64 a b h k) k

-- ---- a power of two has one bit

pub bit_own : (k : ℕ) → bit (2 ^ k) k ≡ true
unfolding bit
bit_own k = ap (λ (n : ℕ). eqb (n % 2) 1) (div_self (pow_pos k))

double_half : (n : ℕ) → n * 2 / 2 ≡ n
double_half n = omega arith

pub bit_other : (k l : ℕ) → (l ≡ k → ⊥) → bit (2 ^ k) l ≡ false
bit_other zero zero n = absurd (n refl)
bit_other zero (suc l) n = bit_next 1 l ∙ bit_zero l
bit_other (suc k) zero n = bit_first (2 ^ suc k) ∙ ap (λ (m : ℕ). eqb m 1) (ap (λ (m : ℕ). m % 2) (pow-suc 2 k) ∙ mul-mod_left (2 ^ k) 2)
bit_other (suc k) (suc l) n = bit_next (2 ^ suc k) l ∙ ap (λ (m : ℕ). bit m l) (ap (λ (m : ℕ). m / 2) (pow-suc 2 k) ∙ double_half (2 ^ k)) ∙ bit_other k l (λ e. n (ap suc e))

pub bit_only : (k l : ℕ) → bit (2 ^ k) l ≡ true → l ≡ k
bit_only k l e = by-test (eqb l k) (eqb-true l k) (λ z. absurd (not_both e (bit_other k l (eqb-false l k z))))

pub bit_power : (k l : ℕ) → bit (2 ^ k) l ≡ eqb l k
bit_power k l = by-test (eqb l k) (λ e. ap (bit (2 ^ k)) (eqb-true l k e) ∙ bit_own k ∙ sym e) (λ e. bit_other k l (eqb-false l k e) ∙ sym e)

-- the word without a label that it has
pub bit_dropped : (w k : ℕ) → bit w k ≡ true → bit (bit_xor w (2 ^ k)) k ≡ false
bit_dropped w k e = bit_xor_lem w (2 ^ k) k ∙ rw (e, bit_own k)

pub bit_kept : (w k l : ℕ) → (l ≡ k → ⊥) → bit (bit_xor w (2 ^ k)) l ≡ bit w l
bit_kept w k l d = bit_xor_lem w (2 ^ k) l ∙ by-test (bit w l) (λ q. rw (q, bit_other k l d)) (λ q. rw (q, bit_other k l d))

pub power_fits : (k : ℕ) → k < 64 → 2 ^ k < 2 ^ 64
power_fits k h = pow-lt h

-- what `1 << k` computes to
pub one_shifted : (k : ℕ) → k < 64 → 1 * 2 ^ k % 2 ^ 64 ≡ 2 ^ k
one_shifted k h = ap (λ (n : ℕ). n % 2 ^ 64) (one-mul (2 ^ k)) ∙ mod-eq_of_lt (power_fits k h)

-- ---- all bits, and none past the last

bit_all : (j l : ℕ) → bit (2 ^ (j + 1 + l) - 1) l ≡ true
unfolding bit
bit_all j l =
    ap (λ (n : ℕ). eqb (n % 2) 1) (ap (λ (n : ℕ). n / 2 ^ l) (ones_split (j + 1) l) ∙ high (2 ^ (j + 1) - 1) l (ones_lt l) ∙ ones_split j 1)
    ∙ ap (λ (n : ℕ). eqb n 1) (low (2 ^ j - 1) 1 (lit< tt))

pub bit_full : (l : ℕ) → l < 64 → bit (2 ^ 64 - 1) l ≡ true
bit_full l h = let e : 63 - l + 1 + l ≡ 64 = omega arith in ap (λ (n : ℕ). bit (2 ^ n - 1) l) (sym e) ∙ bit_all (63 - l) l

bit_past : (w l : ℕ) → w < 2 ^ l → bit w l ≡ false
unfolding bit
bit_past w l h = ap (λ (n : ℕ). eqb (n % 2) 1) (div-eq_of_lt h)

pub bit_small : (w l : ℕ) → w < 2 ^ 64 → bit w l ≡ true → l < 64
bit_small w l h e = by-test (ltb l 64) (ltb-true l 64) (λ z. let p = pow_mono (ltb-false l 64 z) in absurd (not_both e (bit_past w l (omega arith))))

-- ---- the lowest bit

abbrev Lowest : ℕ → ℕ → ℕ → Type 0
Lowest k w t = (t < k) × (bit w t ≡ true) × ((l : ℕ) → l < t → bit w l ≡ false)

lowest_in : (k w : ℕ) → w < 2 ^ k → (w ≡ 0 → ⊥) → Lowest k w (count_trailing_zeros k w)
unfolding count_trailing_zeros
lowest_in zero w h n = absurd (n (lt-one h))
lowest_in (suc k) w h n = go (w % 2) refl (mod-lt w (omega arith)) (λ e. lowest_in k (w / 2) (half (2 ^ k) (rw (pow-suc 2 k) at h)) (λ z. n (omega arith)))
  where
    half : (m : ℕ) → w < m * 2 → w / 2 < m
    half m l = omega arith

    -- an even number's lowest bit is one above that of its half
    go : (r : ℕ) → w % 2 ≡ r → r < 2 → (w % 2 ≡ 0 → Lowest k (w / 2) (count_trailing_zeros k (w / 2))) → Lowest (suc k) w (under r (count_trailing_zeros k (w / 2)))
    go zero e b ih =
        let (s, o, f) = ih e in (omega arith, bit_next w (count_trailing_zeros k (w / 2)) ∙ o, below f)
      where
        below : {t : ℕ} → ((l : ℕ) → l < t → bit (w / 2) l ≡ false) → (l : ℕ) → l < suc t → bit w l ≡ false
        below f zero h = bit_first w ∙ ap (λ (m : ℕ). eqb m 1) e
        below f (suc l) h = bit_next w l ∙ f l (omega arith)
    go (suc zero) e b ih = (omega arith, bit_first w ∙ ap (λ (m : ℕ). eqb m 1) e, λ l h. absurd (omega arith))
    go (suc (suc r)) e b ih = absurd (omega arith)

pub lowest : (w : ℕ) → w < 2 ^ 64 → (w ≡ 0 → ⊥) → (count_trailing_zeros 64 w < 64) × (bit w (count_trailing_zeros 64 w) ≡ true) × ((l : ℕ) → l < count_trailing_zeros 64 w → bit w l ≡ false)
lowest = lowest_in 64

-- ---- the word without its lowest bit, as `w & (w - 1)` computes it

double_first : (x : ℕ) → bit (x * 2) 0 ≡ false
double_first x = let e : x * 2 % 2 ≡ 0 = omega arith in bit_first (x * 2) ∙ ap (λ (n : ℕ). eqb n 1) e

double_next : (x l : ℕ) → bit (x * 2) (suc l) ≡ bit x l
double_next x l = let e : x * 2 / 2 ≡ x = omega arith in bit_next (x * 2) l ∙ ap (λ (n : ℕ). bit n l) e

abbrev Off : ℕ → ℕ → Type 0
Off w t = (bit (bit_and w (w - 1)) t ≡ false) × ((l : ℕ) → (l ≡ t → ⊥) → bit (bit_and w (w - 1)) l ≡ bit w l)

off_in : (k w : ℕ) → w < 2 ^ k → (w ≡ 0 → ⊥) → Off w (count_trailing_zeros k w)
unfolding count_trailing_zeros
off_in zero w h n = absurd (n (lt-one h))
off_in (suc k) w h n = go (w % 2) refl (mod-lt w (omega arith)) (λ e. off_in k (w / 2) (half (2 ^ k) (rw (pow-suc 2 k) at h)) (λ z. n (omega arith)))
  where
    half : (m : ℕ) → w < m * 2 → w / 2 < m
    half m l = omega arith

    odd : w % 2 ≡ 1 → bit_and w (w - 1) ≡ w / 2 * 2
    odd e =
        let p : (w - 1) / 2 ≡ w / 2 = omega arith in
        let q : (w - 1) % 2 ≡ 0 = omega arith in
        and_step w (w - 1) ∙ ap₂ (λ (x y : ℕ). x * 2 + y) (ap (bit_and (w / 2)) p ∙ and_self (w / 2)) (ap₂ min e q) ∙ omega arith

    even : w % 2 ≡ 0 → bit_and w (w - 1) ≡ bit_and (w / 2) (w / 2 - 1) * 2
    even e =
        let p : (w - 1) / 2 ≡ w / 2 - 1 = omega arith in
        let q : (w - 1) % 2 ≡ 1 = omega arith in
        and_step w (w - 1) ∙ ap₂ (λ (x y : ℕ). x * 2 + y) (ap (bit_and (w / 2)) p) (ap₂ min e q) ∙ omega arith

    go : (r : ℕ) → w % 2 ≡ r → r < 2 → (w % 2 ≡ 0 → Off (w / 2) (count_trailing_zeros k (w / 2))) → Off w (under r (count_trailing_zeros k (w / 2)))
    go zero e b ih =
        let (a, f) = ih e in
        let x = bit_and (w / 2) (w / 2 - 1) in
        let t = count_trailing_zeros k (w / 2) in
        (ap (λ (n : ℕ). bit n (suc t)) (even e) ∙ double_next x t ∙ a, others f)
      where
        others : {t : ℕ} → ((l : ℕ) → (l ≡ t → ⊥) → bit (bit_and (w / 2) (w / 2 - 1)) l ≡ bit (w / 2) l) → (l : ℕ) → (l ≡ suc t → ⊥) → bit (bit_and w (w - 1)) l ≡ bit w l
        others f zero d = ap (λ (n : ℕ). bit n 0) (even e) ∙ double_first (bit_and (w / 2) (w / 2 - 1)) ∙ sym (bit_first w ∙ ap (λ (m : ℕ). eqb m 1) e)
        others f (suc l) d = ap (λ (n : ℕ). bit n (suc l)) (even e) ∙ double_next (bit_and (w / 2) (w / 2 - 1)) l ∙ f l (λ z. d (ap suc z)) ∙ sym (bit_next w l)
    go (suc zero) e b ih = (ap (λ (n : ℕ). bit n 0) (odd e) ∙ double_first (w / 2), others)
      where
        others : (l : ℕ) → (l ≡ 0 → ⊥) → bit (bit_and w (w - 1)) l ≡ bit w l
        others zero d = absurd (d refl)
        others (suc l) d = ap (λ (n : ℕ). bit n (suc l)) (odd e) ∙ double_next (w / 2) l ∙ sym (bit_next w l)
    go (suc (suc r)) e b ih = absurd (omega arith)

pub lowest_off : (w : ℕ) → w < 2 ^ 64 → (w ≡ 0 → ⊥)
    → (bit (bit_and w (w - 1)) (count_trailing_zeros 64 w) ≡ false) × ((l : ℕ) → (l ≡ count_trailing_zeros 64 w → ⊥) → bit (bit_and w (w - 1)) l ≡ bit w l)
lowest_off = off_in 64

-- ---- the word of some numbers

pub word_has : (f : ℕ → ℕ) (d k : ℕ) → k < d → bit (word_of f d) (f k) ≡ true
unfolding word_of
word_has f zero k h = absurd (omega arith)
word_has f (suc d) k h =
    bit_or_lem (word_of f d) (2 ^ f d) (f k)
    ∙ by-test (eqb k d) (λ e. right_true (bit (word_of f d) (f k)) (ap (λ (i : ℕ). bit (2 ^ f d) (f i)) (eqb-true k d e) ∙ bit_own (f d)))
    (λ e. let n : k ≡ d → ⊥ = eqb-false k d e in left_true (bit (2 ^ f d) (f k)) (word_has f d k (omega arith)))

pub word_only : (f : ℕ → ℕ) (d l : ℕ) → bit (word_of f d) l ≡ true → (k : ℕ) × (k < d) × (f k ≡ l)
unfolding word_of
word_only f zero l e = absurd (some_bit 0 l e refl)
word_only f (suc d) l e =
    let o = sym (bit_or_lem (word_of f d) (2 ^ f d) l) ∙ e in
    by-test (bit (word_of f d) l) (λ p. let (k, h, q) = word_only f d l p in (k, omega arith, q)) (λ p. (d, omega arith, sym (bit_only (f d) l (rw p at o))))

word_below : (f : ℕ → ℕ) (d m : ℕ) → ((k : ℕ) → k < d → f k < m) → word_of f d < 2 ^ m
unfolding word_of
word_below f zero m h = pow_pos m
word_below f (suc d) m h = or_lt m (word_of f d) (2 ^ f d) (word_below f d m (λ k l. h k (omega arith))) (pow-lt (h d (omega arith)))

pub word_fits : (f : ℕ → ℕ) (d : ℕ) → ((k : ℕ) → k < d → f k < 64) → word_of f d < 2 ^ 64
word_fits f d = word_below f d 64

-- ---- the word of numbers that rise

-- a power of two has no digits below a smaller one
power_over : (i j : ℕ) → i ≤ j → 2 ^ j % 2 ^ i ≡ 0
power_over i j h = let e : j ≡ j - i + i = omega arith in ap (λ (n : ℕ). n % 2 ^ i) (ap (λ (n : ℕ). 2 ^ n) e ∙ pow-add 2 (j - i) i) ∙ mul-mod_left (2 ^ (j - i)) (2 ^ i)

module _ (f : ℕ → ℕ) where
  abbrev Rises : ℕ → Type 0
  Rises d = (x : ℕ) → suc x < d → f x < f (suc x)

  -- each number adds one bit above those before
  word_count : (d : ℕ) → Rises d → ones (word_of f d) ≡ d
  unfolding word_of ones
  word_count zero up = refl
  word_count (suc d) up =
      let h = word_below f d (f d) (λ k l. climbs f (suc d) up k d l (omega arith)) in
      let e : bit_or (word_of f d) (2 ^ f d) ≡ 1 * 2 ^ f d + word_of f d = ap (bit_or (word_of f d)) (sym (one-mul (2 ^ f d))) ∙ or_shifted_r 1 (f d) (word_of f d) h in
      ap ones e ∙ ones_cat (f d) 1 (word_of f d) h ∙ ap (λ (n : ℕ). 1 + n) (word_count d (λ x l. up x (omega arith))) ∙ one-add d

  -- below the number at k stand the numbers before it
  word_before : (d k : ℕ) → Rises d → k < d → word_of f d % 2 ^ f k ≡ word_of f k
  unfolding word_of
  word_before zero k up h = absurd (omega arith)
  word_before (suc d) k up h =
      by-test (eqb k d)
      (λ e. let q : k ≡ d = eqb-true k d e in rw q (cut d (omega arith) (mod-eq_of_lt (word_below f d (f d) (λ i l. climbs f (suc d) up i d l (omega arith))))))
      (λ e. let n : k ≡ d → ⊥ = eqb-false k d e in let c = climbs f (suc d) up k d (omega arith) (omega arith) in cut k (omega arith) (word_before d k (λ x l. up x (omega arith)) (omega arith)))
    where
      cut : (i : ℕ) → f i ≤ f d → word_of f d % 2 ^ f i ≡ word_of f i → bit_or (word_of f d) (2 ^ f d) % 2 ^ f i ≡ word_of f i
      cut i h e = or_mod (word_of f d) (2 ^ f d) (f i) ∙ ap₂ bit_or e (power_over (f i) (f d) h) ∙ or_zero_r (word_of f i)

pub word_rank : (f : ℕ → ℕ) (d : ℕ) → ((x : ℕ) → suc x < d → f x < f (suc x)) → (k : ℕ) → k < d → ones (bit_and (word_of f d) (2 ^ f k - 1)) ≡ k
word_rank f d up k h = ap ones (and_mask (word_of f d) (f k) ∙ word_before f d k up h) ∙ word_count f k (λ x l. up x (omega arith))

pub word_ones : (f : ℕ → ℕ) (d : ℕ) → ((x : ℕ) → suc x < d → f x < f (suc x)) → ((k : ℕ) → k < d → f k < 64) → ones (bit_and (word_of f d) (2 ^ 64 - 1)) ≡ d
word_ones f d up h = ap ones (and_mask (word_of f d) 64 ∙ mod-eq_of_lt (word_fits f d h)) ∙ word_count f d up
