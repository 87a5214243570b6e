-- A list that is filled from the front with f of each place: after i turns.
-- Assumes nothing.
use mathlib.Core.Path.{◌≡◌, refl, sym, ap, ◌∙◌}
use mathlib.Core.List.{List, [], ◌∷◌, ◌++◌, append_assoc, append-nil}
use Prim.Native.Nat.{ℕ, suc, ◌+◌, ◌≤◌, ◌<◌}
use native.Mathlib.Numerals.{add-one}
use native.Mathlib.Omega.{arith}
use borrow.Author.Tests.{ltb-true, ltb-false}
use lib.Dec.{ltb}
use lib.ListN.{length, get_or, set, drop, replicate, get_or-append, length-append, length-set, length-replicate, get_or-replicate, drop_of_length-le}
use lib.Seq.{drop-cons, set_at, get_or_at, ext_get_or}
use Rattle.integers.specs.Places.{range, tabulate}
use Rattle.integers.proofs.Places.{by-test, length-tabulate, get_d_tabulate}

module _ {A : Type 0} (f : ℕ → A) where
  abbrev pub filled_to : List A → ℕ → List A
  filled_to l i = tabulate i f ++ drop i l

  pub filled_none : (l : List A) → l ≡ filled_to l 0
  unfolding tabulate range
  filled_none l = refl

  one_more : (i : ℕ) (d : A) → tabulate (suc i) f ≡ tabulate i f ++ (f i ∷ [])
  one_more i d =
      let a = length-tabulate (suc i) f in
      let b = length-tabulate i f in
      let c = length-append (tabulate i f) (f i ∷ []) in
      ext_get_or d (tabulate (suc i) f) (tabulate i f ++ (f i ∷ [])) (omega arith)
      (λ k h. get_d_tabulate (suc i) f k d (omega arith) ∙ at k (omega arith))
    where
      at : (k : ℕ) → k < suc i → f k ≡ get_or (tabulate i f ++ (f i ∷ [])) k d
      at k h =
          by-test (ltb k i)
          (λ t. let l : k < i = ltb-true k i t in let n = length-tabulate i f in
          sym (get_or-append (tabulate i f) (f i ∷ []) d k (omega arith) ∙ get_d_tabulate i f k d l))
          (λ t. let l : k ≡ i = omega (arith, ltb-false k i t) in rw l (sym (get_or_at (tabulate i f) (f i) [] d i (length-tabulate i f))))

  -- a turn
  pub filled_set : (l : List A) (i : ℕ) (d : A) → i < length l → set (filled_to l i) i (f i) ≡ filled_to l (i + 1)
  filled_set l i d h =
      ap (λ (m : List A). set (tabulate i f ++ m) i (f i)) (drop-cons l i d h)
      ∙ set_at (tabulate i f) (get_or l i d) (drop (suc i) l) (f i) i (length-tabulate i f)
      ∙ sym (ap (λ (k : ℕ). filled_to l k) (add-one i) ∙ ap (λ (m : List A). m ++ drop (suc i) l) (one_more i d) ∙ append_assoc (tabulate i f) (f i ∷ []) (drop (suc i) l))

  -- the end
  pub filled_all : (l : List A) (i : ℕ) → i ≤ length l → length l ≤ i → filled_to l i ≡ tabulate (length l) f
  filled_all l i h g =
      let e : i ≡ length l = omega arith in
      ap (λ (m : List A). tabulate i f ++ m) (drop_of_length-le l g) ∙ append-nil (tabulate i f) ∙ ap (λ (k : ℕ). tabulate k f) e

pub tabulate_same : {A : Type 0} (n : ℕ) (v : A) → tabulate n (λ i. v) ≡ replicate n v
tabulate_same n v =
    let a = length-tabulate n (λ i. v) in
    let b = length-replicate n v in
    ext_get_or v (tabulate n (λ i. v)) (replicate n v) (omega arith)
    (λ k h. get_d_tabulate n (λ i. v) k v (omega arith) ∙ sym (get_or-replicate n k v v (omega arith)))

-- ---- a loop that fills l₀: it has become l after i turns

pub record Filling {A : Type 0} (f : ℕ → A) (l₀ l : List A) (i : ℕ) : Type 0 where
  pub within : i ≤ length l₀
  pub content : l ≡ filled_to f l₀ i
  pub long : length l ≡ length l₀

module _ {A : Type 0} (f : ℕ → A) where
  pub fill_none : (l₀ : List A) → Filling f l₀ l₀ 0
  fill_none l₀ = record { within = omega arith; content = filled_none f l₀; long = refl }

  pub fill_more : {l₀ l : List A} {i : ℕ} (d : A) → Filling f l₀ l i → i < length l₀ → Filling f l₀ (set l i (f i)) (i + 1)
  fill_more {l₀} {l} {i} d g h = record {
    within = omega arith;
    content = ap (λ (m : List A). set m i (f i)) g.content ∙ filled_set f l₀ i d h;
    long = length-set l i (f i) ∙ g.long;
  }

  pub fill_all : {l₀ l : List A} {i : ℕ} → Filling f l₀ l i → length l₀ ≤ i → l ≡ tabulate (length l₀) f
  fill_all {l₀} {l} {i} g h = g.content ∙ filled_all f l₀ i g.within h
