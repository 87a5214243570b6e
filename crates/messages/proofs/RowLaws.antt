-- Rows of costs as the code goes through them: the least over two parts, a test of each cost, and the range of a cost.
-- Assumes nothing.
use Rattle.std.proofs.Common.{◌≡◌, ℕ, zero, suc, ◌*◌, ◌^◌, ◌<◌, ◌≤◌, Bool, true, false, List, [], ◌∷◌, length, get_or, take, drop, drop-drop, ℤ, pos, negsuc, ◌+ℤ◌, ◌-ℤ◌, neg_ℤ, nat_abs, ◌<ℤ◌, sym, refl, ap, ◌∙◌, ap₂, not-suc-le-zero, arith, to_z-of_z, w64, SFits, to_z, of_z}
use Rattle.std.specs.Int.{int_min}
use Rattle.std.specs.Simd.{first_chunks}
use Rattle.std.proofs.Math.Nat.{mul-suc}
use Rattle.std.proofs.Common.{int_lt}
use Rattle.integers.proofs.Order.{min_comm, min_eq_left, min_eq_right}
use Rattle.integers.specs.Least.{min_ℤ, least_from, least_of}
use Rattle.std.specs.List.{AllWithin, HoldsAt}
use Rattle.std.specs.Bool.{MatchBool}
use Rattle.integers.specs.Share.{nearest, share, amount}
use Rattle.integers.specs.Sum.{Within}
use Rattle.integers.specs.Places.{every}
use Rattle.integers.specs.Checks.{below, within}
use Rattle.integers.proofs.Parts.{linear, abs, add, sub, neg}
use Rattle.integers.proofs.Places.{by-test, both_ways, if-true, if-false, and_true}
use Rattle.integers.proofs.Checks.{below_at, below_all, below_fails, within_le}
use Rattle.integers.proofs.Least.{least_min, least_within}
use Rattle.rules.specs.Calls.{cost_limit}

-- the less of two as the code finds it, in either order
pub less : (a b : ℤ) → int_min a b ≡ min_ℤ a b
less a b = by-test (int_lt b a) (λ e. if-true b a e ∙ sym (min_eq_right (omega (linear, e)))) (λ e. if-false b a e ∙ sym (min_eq_left (omega (linear, e))))

pub less_back : (a b : ℤ) → int_min a b ≡ min_ℤ b a
less_back a b = less a b ∙ min_comm a b

-- two parts in either order
pub least_parts : (x : ℤ) (a b : List ℤ) → least_from (least_from x b) a ≡ least_from (least_from x a) b
unfolding least_from
least_parts x [] b = refl
least_parts x (y ∷ a) b = ap (min_ℤ y) (least_parts x a b) ∙ sym (least_min y (least_from x a) b)

-- a test of each element, place by place
module _ {A : Type 0} (t : A → Bool) where
  pub every_below : (l : List A) (d : A) → ((i : ℕ) → i < length l → t (get_or l i d) ≡ true) → every t l ≡ true
  unfolding every
  every_below [] d f = refl
  every_below (x ∷ l) d f = rw (f 0 (omega arith)) (every_below l d (λ i h. f (suc i) (omega arith)))

  every_at : (l : List A) (d : A) → every t l ≡ true → (i : ℕ) → i < length l → t (get_or l i d) ≡ true
  unfolding every
  every_at [] d e i h = absurd (not-suc-le-zero h)
  every_at (x ∷ l) d e zero h = (and_true (t x) (every t l) e).0
  every_at (x ∷ l) d e (suc i) h = every_at l d (and_true (t x) (every t l) e).1 i (omega arith)

  pub every_is : (l : List A) (d : A) → every t l ≡ below (length l) (λ i. t (get_or l i d))
  every_is l d =
      both_ways (every t l) (below (length l) (λ i. t (get_or l i d))) (λ e. below_all (length l) (λ i. t (get_or l i d)) (every_at l d e))
      (λ e. every_below l d (below_at (length l) (λ i. t (get_or l i d)) e))

  pub every_fails : (l : List A) (d : A) (i : ℕ) → i < length l → t (get_or l i d) ≡ false → every t l ≡ false
  every_fails l d i h e = every_is l d ∙ below_fails (length l) (λ i. t (get_or l i d)) i h e

  -- by what a search for one that fails finds
  pub every_found : (l : List A) (d : A) (r : Bool) → MatchBool r (AllWithin (λ x. t x ≡ true) l 0 (length l)) ((i : ℕ) × (i < length l) × HoldsAt (λ x. t x ≡ false) l i) → r ≡ every t l
  every_found l d true h = sym (every_below l d (λ i k. h i d (omega arith) k))
  every_found l d false h = sym (every_fails l d h.0 h.1 (h.2 d))

-- ---- the range of a cost

-- of every cost of a list
pub all_within : (k : ℕ) (l : List ℤ) → every (within k) l ≡ true → Within k l
unfolding every
all_within k [] e i = omega arith
all_within k (x ∷ l) e zero = within_le k x (and_true (within k x) (every (within k) l) e).0
all_within k (x ∷ l) e (suc i) = all_within k l (and_true (within k x) (every (within k) l) e).1 i

pub least_of_within : (k : ℕ) (l : List ℤ) → Within k l → nat_abs (least_of l) ≤ k
unfolding least_of
least_of_within k [] h = omega arith
least_of_within k (x ∷ l) h = least_within k x l (h 0) (λ i. h (suc i))

-- a difference of two costs fits
pub apart_fits : (x y : ℤ) → nat_abs x ≤ cost_limit → nat_abs y ≤ cost_limit → SFits w64 (x -ℤ y)
apart_fits x y h g = omega (linear, sub x y, abs x, abs y)

pub apart_within : (x y : ℤ) → nat_abs x ≤ cost_limit → nat_abs y ≤ cost_limit → nat_abs (x -ℤ y) ≤ 2 ^ 41
apart_within x y h g = omega (linear, sub x y, abs (x -ℤ y), abs x, abs y)

cost_fits : (x : ℤ) → nat_abs x ≤ cost_limit → SFits w64 x
cost_fits x h = omega (linear, abs x)

-- the code's difference of two costs, read back, and its size
module _ (x y : ℤ) (h : nat_abs x ≤ cost_limit) (g : nat_abs y ≤ cost_limit) where
  abbrev difference : ℤ
  difference = to_z w64 (of_z w64 x) -ℤ to_z w64 (of_z w64 y)

  pub difference_fits : SFits w64 difference
  difference_fits = rw (to_z-of_z (cost_fits x h), to_z-of_z (cost_fits y g)) (apart_fits x y h g)

  pub difference_is : to_z w64 (of_z w64 difference) ≡ x -ℤ y
  difference_is = to_z-of_z difference_fits ∙ ap₂ ◌-ℤ◌ (to_z-of_z (cost_fits x h)) (to_z-of_z (cost_fits y g))

-- the code's sum of a cost and what it receives, read back
module _ (x y : ℤ) (h : nat_abs x ≤ cost_limit) (g : nat_abs y ≤ 2 ^ 41) where
  abbrev x_fits : SFits w64 x
  x_fits = cost_fits x h

  abbrev y_fits : SFits w64 y
  y_fits = omega (linear, abs y)

  pub sum_fits : SFits w64 (to_z w64 (of_z w64 x) +ℤ to_z w64 (of_z w64 y))
  sum_fits = rw (to_z-of_z x_fits, to_z-of_z y_fits) (omega (linear, add x y, abs x, abs y))

  pub sum_is : to_z w64 (of_z w64 (to_z w64 (of_z w64 x) +ℤ to_z w64 (of_z w64 y))) ≡ x +ℤ y
  sum_is = to_z-of_z sum_fits ∙ ap₂ ◌+ℤ◌ (to_z-of_z x_fits) (to_z-of_z y_fits)

  -- and what is left of a cost that gives it
  pub less_fits : SFits w64 (to_z w64 (of_z w64 x) -ℤ to_z w64 (of_z w64 y))
  less_fits = rw (to_z-of_z x_fits, to_z-of_z y_fits) (omega (linear, sub x y, abs x, abs y))

  pub less_is : to_z w64 (of_z w64 (to_z w64 (of_z w64 x) -ℤ to_z w64 (of_z w64 y))) ≡ x +ℤ neg_ℤ y
  less_is = to_z-of_z less_fits ∙ ap₂ ◌-ℤ◌ (to_z-of_z x_fits) (to_z-of_z y_fits)

-- the share of a distance below 0, by its size
pub share_below : (d : ℤ) (r : ℕ) → d <ℤ pos 0 → share d r ≡ neg_ℤ (pos (nearest (nat_abs d) r))
unfolding share
share_below (pos n) r h = absurd (omega linear)
share_below (negsuc n) r h = refl

-- ---- a cost against the others of its row

pub amount_none : (x : ℤ) (l : List ℤ) (r : ℕ) → length l ≡ 0 → pos 0 ≡ amount x l r
unfolding amount
amount_none x [] r e = refl
amount_none x (y ∷ l) r e = absurd (omega arith)

-- 0 less an amount
pub from_zero : (p : ℤ) → pos 0 -ℤ p ≡ neg_ℤ p
from_zero p = omega (linear, sub (pos 0) p, neg p)

pub zero_fits : (p : ℤ) → nat_abs p ≤ 2 ^ 41 → SFits w64 (pos 0 -ℤ p)
zero_fits p h = omega (linear, sub (pos 0) p, abs p)

pub neg_fits : (p : ℤ) → nat_abs p ≤ 2 ^ 41 → nat_abs (neg_ℤ p) ≤ 2 ^ 41
neg_fits p h = omega (arith, neg p, abs p, abs (neg_ℤ p))

-- ---- chunks

-- a chunk of n is what stands n times as far on
pub chunk_at : {A : Type 0} (n k i : ℕ) (l : List A) → i < k → get_or (first_chunks n k l) i [] ≡ take n (drop (n * i) l)
chunk_at n zero i l h = absurd (omega arith)
chunk_at n (suc k) zero l h = let e : n * 0 ≡ 0 = omega arith in ap (λ (j : ℕ). take n (drop j l)) (sym e)
chunk_at n (suc k) (suc i) l h =
    chunk_at n k i (drop n l) (omega arith) ∙ ap (take n) (drop-drop (n * i) n l) ∙ ap (λ (j : ℕ). take n (drop j l)) (omega (arith, mul-suc n i))
