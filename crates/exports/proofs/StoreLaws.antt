-- Numbers stored in a lent buffer: at once, one by one, and part by part.
-- Assumes nothing.
use mathlib.Core.Path.{◌≡◌, sym, ap, ap₂, ◌∙◌}
use mathlib.Core.List.{List, ◌++◌, append_assoc, append-nil}
use Prim.Native.Nat.{ℕ}
use native.Mathlib.Omega.{arith}
use borrow.Author.Tests.{eq-eqb, ne_eqb}
use lib.ListN.{length, get_or, drop, length-append, drop_of_length-le}
use lib.Seq.{ext_get_or, take_at, drop_at, drop-drop}
use borrow.Rule.Slice.PartMut.{put_mid}
use Rattle.integers.specs.Places.{tabulate}
use Rattle.integers.proofs.Places.{if-true, if-false, length-tabulate, get_d_tabulate}
use Rattle.instance.specs.declared.refusal.Refusal.{Refusal}
use Rattle.instance.specs.Refusal.{number}
use Rattle.instance.proofs.Told.{numbered}
use Rattle.exports.specs.Stored.{Answered, answered, unlent, answered_in}

-- the number of a refusal comes before 8
pub unlent_refused : (r : Refusal) → number r ≡ unlent (number r)
unfolding unlent
unlent_refused r = sym (if-false _ _ (ne_eqb (number r) 0 (λ z. omega (arith, numbered r, z))))

module _ {A : Type 0} where
  -- a buffer with that many places, and one without
  pub lent_well : (n k : ℕ) (a : Answered A) (l : List A) → length l ≡ n → a ≡ answered_in n k a l
  unfolding answered_in
  lent_well n k a l h = sym (if-true a (answered (unlent k) l) (eq-eqb (length l) n h))

  pub lent_ill : (n k : ℕ) (a : Answered A) (l : List A) {r : ℕ} → (length l ≡ n → ⊥) → r ≡ unlent k → answered r l ≡ answered_in n k a l
  unfolding answered_in
  lent_ill n k a l h e = ap (λ (r : ℕ). answered r l) e ∙ sym (if-false a (answered (unlent k) l) (ne_eqb (length l) n h))

  -- the elements of a list, one by one
  pub tabulate_each : (vs : List A) (d : A) → tabulate (length vs) (λ k. get_or vs k d) ≡ vs
  tabulate_each vs d =
      ext_get_or d (tabulate (length vs) (λ k. get_or vs k d)) vs (length-tabulate (length vs) (λ k. get_or vs k d))
      (λ k h. let n = length-tabulate (length vs) (λ k. get_or vs k d) in get_d_tabulate (length vs) (λ k. get_or vs k d) k d (omega arith))

  -- ---- parts that were lent one after the other, and have come back

  put_next : (m k : ℕ) (a b t : List A) → length a ≡ m → put_mid m k (a ++ t) b ≡ (a ++ b) ++ drop k t
  put_next m k a b t h =
      ap₂ (λ (x y : List A). x ++ (b ++ drop k y)) (take_at a t m h) (drop_at a t m h) ∙ sym (append_assoc a b (drop k t))

  -- of 326 places: 6, then 64, then 256
  module _ (l a : List A) (n : length l ≡ 326) (six : length a ≡ 6) where
    module _ (b : List A) (more : length b ≡ 64) where
      both_put : put_mid 6 64 (a ++ drop 6 l) b ≡ (a ++ b) ++ drop 70 l
      both_put = put_next 6 64 a b (drop 6 l) six ∙ ap (λ (t : List A). (a ++ b) ++ t) (drop-drop 64 6 l)

      both_long : length (a ++ b) ≡ 70
      both_long = let t = length-append a b in omega arith

      pub all_put : (d : List A) → put_mid 70 256 (put_mid 6 64 (a ++ drop 6 l) b) d ≡ a ++ (b ++ d)
      all_put d =
          ap (λ (t : List A). put_mid 70 256 t d) both_put
          ∙ put_next 70 256 (a ++ b) d (drop 70 l) both_long
          ∙ ap (λ (t : List A). ((a ++ b) ++ d) ++ t) (drop-drop 256 70 l ∙ drop_of_length-le l {i = 326} (omega arith))
          ∙ append-nil ((a ++ b) ++ d)
          ∙ append_assoc a b d
