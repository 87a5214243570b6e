-- What the library's comparisons and chains tell, as the checks have it.
-- Assumes nothing.
use Rattle.std.proofs.Common.{Result, Ok, Err, ◌≡◌, ℕ, suc, ◌+◌, ◌-◌, ◌<◌, ◌≤◌, Bool, true, false, eqb, List, [], ◌∷◌, length, get_or, take, drop, sym, refl, ap, ◌∙◌, arith, lit≤, drop-cons}
use Rattle.std.specs.Prelude.{IsTrue}
use Rattle.std.specs.Bool.{MatchBool}
use Rattle.std.specs.List.{AllWithin, HoldsAt, range_with_len}
use Rattle.std.proofs.lemmas.List.FromFn.{get_or-range_with_len, length-range_with_len}
use Rattle.std.specs.Result.{IsErrAnd}
use lib.Pointwise.{pointwise}
use Rattle.integers.specs.Checks.{below}
use Rattle.integers.proofs.Places.{both_ways}
use Rattle.integers.proofs.Checks.{below_at, below_all, below_fails}
use Rattle.instance.specs.declared.refusal.Refusal.{Refusal}
use Rattle.instance.specs.declared.refusal.Refusal.TheVariants.{NoTrailer, OverLimit, WrongLength, BadDegree, BadLabel, BadEdge, PriceRange, BufferLength, CostRange, BadIncumbent, PartialRecord, NoSuchRecord, CostOverflow, BoundAboveCost, NoUsableCell, NoMatching}
use Rattle.instance.specs.Refusal.{number, refused_in}
use Rattle.instance.specs.Bytes.{byte}
use Rattle.instance.specs.Sheet.{mark, mark_at}

-- a test that holds exactly if t holds at each place below n
pub below_told : (b : Bool) (n : ℕ) (t : ℕ → Bool) → (IsTrue b → (k : ℕ) → k < n → t k ≡ true) → (((k : ℕ) → k < n → t k ≡ true) → IsTrue b) → b ≡ below n t
below_told b n t p q = both_ways b (below n t) (λ e. below_all n t (p e)) (λ e. q (below_at n t e))

-- what `all` finds over the numbers below n
module _ (n : ℕ) (t : ℕ → Bool) where
  abbrev numbers : List ℕ
  numbers = range_with_len 0 n

  number_at : (k : ℕ) → k < n → get_or numbers k 0 ≡ k
  number_at k h = let z : 0 + k ≡ k = omega arith in get_or-range_with_len 0 n k 0 h ∙ z

  pub range_told : (r : Bool) → MatchBool r (AllWithin (λ k. t k ≡ true) numbers 0 (length numbers)) ((k : ℕ) × (k < length numbers) × HoldsAt (λ k. t k ≡ false) numbers k) → r ≡ below n t
  range_told true f = sym (below_all n t (λ k h. rw (number_at k h) at (f k 0 (omega arith) (omega (arith, length-range_with_len 0 n)))))
  range_told false (k, l, f) =
      let h : k < n = omega (arith, length-range_with_len 0 n) in sym (below_fails n t k h (rw (number_at k h) at (f 0)))

-- four bytes
four : (s : List ℕ) (at : ℕ) → at + 4 ≤ length s → take 4 (drop at s) ≡ byte s at ∷ byte s (at + 1) ∷ byte s (at + 2) ∷ byte s (at + 3) ∷ []
four s at h =
    let one : (k j : ℕ) → suc k ≡ j → k < length s → drop k s ≡ byte s k ∷ drop j s = λ k j e l. rw (← e) (drop-cons s k 0 l) in
    rw (one at (at + 1) (omega arith) (omega arith), one (at + 1) (at + 2) (omega arith) (omega arith), one (at + 2) (at + 3) (omega arith) (omega arith), one (at + 3) (at + 4) (omega arith) (omega arith)) refl

pub mark_told : (s : List ℕ) (at : ℕ) → at + 4 ≤ length s → pointwise eqb (take (at + 4 - at) (drop at s)) mark ≡ mark_at s at
unfolding mark_at below
mark_told s at h =
    let k : at + 4 - at ≡ 4 = omega arith in
    let z : at + 0 ≡ at = omega arith in
    rw (k, four s at h, z) (grind arith)

-- a refusal's number is not 0
pub numbered : (r : Refusal) → 1 ≤ number r
numbered NoTrailer = lit≤ tt
numbered OverLimit = lit≤ tt
numbered WrongLength = lit≤ tt
numbered BadDegree = lit≤ tt
numbered BadLabel = lit≤ tt
numbered BadEdge = lit≤ tt
numbered PriceRange = lit≤ tt
numbered BufferLength = lit≤ tt
numbered CostRange = lit≤ tt
numbered BadIncumbent = lit≤ tt
numbered PartialRecord = lit≤ tt
numbered NoSuchRecord = lit≤ tt
numbered CostOverflow = lit≤ tt
numbered BoundAboveCost = lit≤ tt
numbered NoUsableCell = lit≤ tt
numbered NoMatching = lit≤ tt

-- what a `?` hands on is the refusal that it met
pub handed_on : {A : Type 0} (r : Result A Refusal) (e : Refusal) → IsErrAnd r (λ d. d ≡ e) → r ≡ Err e
handed_on (Ok a) e p = absurd p
handed_on (Err d) e p = ap Err p

-- and has its number
pub handed : {A : Type 0} (e : Refusal) (r : Result A Refusal) → IsErrAnd r (λ d. d ≡ e) → refused_in r ≡ number e
handed e r p = ap refused_in (handed_on r e p)
