-- Rounding's choice: the best position so far, of those whose labels are not yet taken.
-- Assumes nothing.
use Rattle.std.proofs.Common.{◌≡◌, ℕ, suc, ◌+◌, ◌<◌, ◌≤◌, Bool, true, false, cond, Option, None, Some, IfSome, List, [], ◌∷◌, ◌++◌, get_or, ℤ, pos, sym, refl, ap, ◌∙◌, append-nil, add-one, arith, rules}
use mathlib.Core.Option.{Option as Choice, none, some}
use lib.Signed.{le_z, lt_z}
use Rattle.std.proofs.lemmas.Int.{ints}
use Rattle.integers.specs.Places.{range, select}
use Rattle.integers.proofs.Places.{of-cond, range_mem, select_mem}
use Rattle.integers.proofs.Ranges.{range_last, select_append}
use Rattle.instance.specs.Instance.{Instance}
use Rattle.rules.specs.Rounding.{best, best_from}
use Rattle.rules.proofs.Ordered.{best_mem}
use Rattle.messages.specs.Rounded.{or_none, better, chosen_from}

-- ---- the better of two

above : (a b : ℤ) → le_z a b ≡ false → lt_z b a ≡ true
above a b h = grind (arith, ints)

not_above : (a b : ℤ) → le_z a b ≡ true → lt_z b a ≡ false
not_above a b h = grind (arith, ints)

module _ (key : ℕ → ℤ) (k : ℕ) where
  pub better_taken : (best : Option ℕ) {free : Bool} → free ≡ false → best ≡ better free key best k
  unfolding better
  better_taken None f = rw f
  better_taken (Some b) f = rw f

  pub better_first : {free : Bool} → free ≡ true → Some k ≡ better free key None k
  unfolding better
  better_first f = rw f

  pub better_less : (b : ℕ) {free : Bool} → free ≡ true → le_z (key b) (key k) ≡ false → Some k ≡ better free key (Some b) k
  unfolding better
  better_less b f t = rw (f, above (key b) (key k) t)

  pub better_stays : (b : ℕ) {free : Bool} → free ≡ true → le_z (key b) (key k) ≡ true → Some b ≡ better free key (Some b) k
  unfolding better
  better_stays b f t = rw (f, not_above (key b) (key k) t)

-- ---- the best of the first places

select_one : (t : ℕ → Bool) (k : ℕ) → cond (t k) (k ∷ []) [] ≡ select t (k ∷ [])
unfolding select
select_one t k = refl

best_from_more : (key : ℕ → ℤ) (k : ℕ) (l : List ℕ) (j : ℕ) → best_from key k (l ++ j ∷ []) ≡ cond (lt_z (key j) (key (best_from key k l))) j (best_from key k l)
unfolding best_from
best_from_more key k [] j = refl
best_from_more key k (i ∷ l) j = best_from_more key (cond (lt_z (key i) (key k)) i k) l j

-- what is chosen is one of the places, and passes the test
pub best_inside : (key : ℕ → ℤ) (t : ℕ → Bool) (n : ℕ) {b : ℕ} → best key (select t (range 0 n)) ≡ some b → (b < n) × (t b ≡ true)
best_inside key t n {b} e =
    let m = select_mem t (range 0 n) (best_mem key (select t (range 0 n)) b e) in
    let r = range_mem 0 n m.0 in (omega arith, m.1)

module _ (key : ℕ → ℤ) (t : ℕ → Bool) where
  abbrev so_far : ℕ → Option ℕ
  so_far k = or_none (best key (select t (range 0 k)))

  pub so_far_none : None ≡ so_far 0
  unfolding range select best or_none
  so_far_none = refl

  pub so_far_few : (k : ℕ) → k ≤ 16 → IfSome (so_far k) (λ b. b < 16)
  unfolding or_none
  so_far_few k h = go (best key (select t (range 0 k))) (λ b e. (best_inside key t k e).0)
    where
      go : (o : Choice ℕ) → ((b : ℕ) → o ≡ some b → b < k) → IfSome (or_none o) (λ b. b < 16)
      go none f = search rules
      go (some b) f = let l = f b refl in omega arith

  pub so_far_more : (k : ℕ) → better (t k) key (so_far k) k ≡ so_far (suc k)
  unfolding better or_none best best_from
  so_far_more k =
      go (t k) (select t (range 0 k))
      ∙ ap (λ (l : List ℕ). or_none (best key l)) (ap (λ (l : List ℕ). select t (range 0 k) ++ l) (select_one t k) ∙ sym (select_append t (range 0 k) (k ∷ [])) ∙ ap (select t) (sym (range_last 0 k ∙ ap (λ (z : ℕ). range 0 k ++ (z ∷ [])) same)))
    where
      same : 0 + k ≡ k
      same = omega arith

      go : (b : Bool) (l : List ℕ) → better b key (or_none (best key l)) k ≡ or_none (best key (l ++ cond b (k ∷ []) []))
      go false l = sym (better_taken key k (or_none (best key l)) refl) ∙ ap (λ (z : List ℕ). or_none (best key z)) (sym (append-nil l))
      go true [] = refl
      go true (i ∷ m) = sym (of-cond Some (lt_z (key k) (key (best_from key i m))) k (best_from key i m)) ∙ ap Some (sym (best_from_more key i m k))

module _ (I : Instance) (at : ℕ) (keys : List ℤ) (untaken : List Bool) where
  abbrev by : ℕ → ℤ
  by k = get_or keys k (pos 0)

  abbrev open_at : ℕ → Bool
  open_at k = get_or untaken (I.label (at + k)) false

  pub chosen_none : None ≡ chosen_from I at keys untaken 0
  unfolding chosen_from
  chosen_none = so_far_none by open_at

  pub chosen_few : (k : ℕ) → k ≤ 16 → IfSome (chosen_from I at keys untaken k) (λ b. b < 16)
  unfolding chosen_from
  chosen_few = so_far_few by open_at

  pub chosen_more : (k : ℕ) → better (open_at k) by (chosen_from I at keys untaken k) k ≡ chosen_from I at keys untaken (k + 1)
  unfolding chosen_from
  chosen_more k = rw (add-one k) (so_far_more by open_at k)
