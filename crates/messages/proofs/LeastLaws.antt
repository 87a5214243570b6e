-- The least of a row as four running minima side by side find it, and without an element that is above it.
-- Assumes nothing.
use Rattle.std.proofs.Common.{◌≡◌, ℕ, zero, suc, ◌<◌, List, [], ◌∷◌, length, get_or, drop, ℤ, pos, ◌<ℤ◌, sym, refl, ap, ◌∙◌, ap₂, not-suc-le-zero, arith}
use Rattle.integers.specs.Least.{min_ℤ, least_from, least_of, without}
use Rattle.integers.proofs.Order.{le_refl, min_ind, min_eq_left, min_comm}
use Rattle.integers.proofs.Parts.{linear}
use Rattle.integers.proofs.Least.{min_left_comm, least_step, least_min}

min_self : (a : ℤ) → min_ℤ a a ≡ a
min_self a = min_eq_left (le_refl a)

min_assoc : (a b c : ℤ) → min_ℤ (min_ℤ a b) c ≡ min_ℤ a (min_ℤ b c)
min_assoc a b c = min_comm (min_ℤ a b) c ∙ min_left_comm c a b ∙ ap (min_ℤ a) (min_comm c b)

-- two minima that each take one more
two : (x a y b : ℤ) → min_ℤ (min_ℤ x a) (min_ℤ y b) ≡ min_ℤ y (min_ℤ x (min_ℤ a b))
two x a y b = min_left_comm (min_ℤ x a) y b ∙ ap (min_ℤ y) (min_assoc x a b)

abbrev pub lesser : ℤ → ℤ → ℤ → ℤ → ℤ
lesser a b c d = min_ℤ (min_ℤ a b) (min_ℤ c d)

four : (x a y b z c w d : ℤ) → lesser (min_ℤ x a) (min_ℤ y b) (min_ℤ z c) (min_ℤ w d) ≡ min_ℤ w (min_ℤ z (min_ℤ y (min_ℤ x (lesser a b c d))))
four x a y b z c w d =
    ap₂ min_ℤ (two x a y b) (two z c w d)
    ∙ two y (min_ℤ x (min_ℤ a b)) w (min_ℤ z (min_ℤ c d))
    ∙ ap (λ (m : ℤ). min_ℤ w (min_ℤ y m)) (two x (min_ℤ a b) z (min_ℤ c d))
    ∙ ap (min_ℤ w) (min_left_comm y z (min_ℤ x (lesser a b c d)))

-- all alike
pub lesser_self : (a : ℤ) → lesser a a a a ≡ a
lesser_self a = ap₂ min_ℤ (min_self a) (min_self a) ∙ min_self a

-- four elements, one for each
pub abreast : (l : List ℤ) (a b c d : ℤ) → 3 < length l
    → least_from (lesser (min_ℤ (get_or l 0 (pos 0)) a) (min_ℤ (get_or l 1 (pos 0)) b) (min_ℤ (get_or l 2 (pos 0)) c) (min_ℤ (get_or l 3 (pos 0)) d)) (drop 4 l) ≡ least_from (lesser a b c d) l
abreast l a b c d h =
    let at : ℕ → ℤ = (λ k. get_or l k (pos 0)) in
    let m = lesser a b c d in
    ap (λ (z : ℤ). least_from z (drop 4 l)) (four (at 0) a (at 1) b (at 2) c (at 3) d)
    ∙ least_step (min_ℤ (at 2) (min_ℤ (at 1) (min_ℤ (at 0) m))) l 3 (pos 0) (omega arith)
    ∙ least_step (min_ℤ (at 1) (min_ℤ (at 0) m)) l 2 (pos 0) (omega arith)
    ∙ least_step (min_ℤ (at 0) m) l 1 (pos 0) (omega arith)
    ∙ least_step m l 0 (pos 0) (omega arith)

-- the first of a list as the start value, and as an element besides
pub least_whole : (l : List ℤ) (d : ℤ) → 0 < length l → least_from (get_or l 0 d) l ≡ least_of l
unfolding least_from least_of
least_whole [] d h = absurd (not-suc-le-zero h)
least_whole (x ∷ l) d h = sym (least_min x x l) ∙ ap (λ (z : ℤ). least_from z l) (min_self x)

-- one element first, then the others
pub least_aside : (b : ℤ) (l : List ℤ) (i : ℕ) (d : ℤ) → i < length l → min_ℤ (get_or l i d) (least_from b (without l i)) ≡ least_from b l
unfolding least_from
least_aside b [] i d h = absurd (not-suc-le-zero h)
least_aside b (x ∷ l) zero d h = refl
least_aside b (x ∷ l) (suc i) d h = min_left_comm (get_or l i d) x (least_from b (without l i)) ∙ ap (min_ℤ x) (least_aside b l i d (omega arith))

-- an element above the least may be left out
pub least_above : (b : ℤ) (l : List ℤ) (i : ℕ) (d : ℤ) → i < length l → least_from b l <ℤ get_or l i d → least_from b l ≡ least_from b (without l i)
least_above b l i d h g =
    let x = get_or l i d in
    let m = least_from b (without l i) in
    let e = least_aside b l i d h in
    sym e ∙ min_ind x m (λ z. z <ℤ x → z ≡ m) (λ _ k. absurd (omega linear)) (λ _ _. refl) (rw e g)
