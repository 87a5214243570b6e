-- A list whose first n elements are f of their places, and the others as they were, as a loop writes it: a store more, a part more, all of them; and a test row by row.
-- Assumes nothing.
use Rattle.std.proofs.Common.{◌≡◌, ℕ, zero, suc, ◌+◌, ◌-◌, ◌*◌, ◌<◌, ◌≤◌, Bool, ◌&&◌, ltb, List, [], ◌∷◌, ◌++◌, map, length, get_or, take, drop, set, replicate, ℤ, pos, ◌+ℤ◌, sym, refl, ap, ◌∙◌, ap₂, append_assoc, append-nil, add-one, arith, length-append, length-drop, get_or-drop, drop-cons, drop-drop, take_at, get_or-append-add, ext_get_or, drop_at, ltb-false, ltb-true}
use Rattle.std.proofs.lemmas.List.{set-get_or}
use mathlib.Core.List.{map-append}
use borrow.Rule.Slice.PartMut.{put_mid}
use lib.ListN.{length-map, length-replicate, get_or-replicate, get_or-append}
use lib.Seq.{set_at, drop-length}
use Rattle.integers.specs.Places.{range, tabulate, every}
use Rattle.integers.specs.Checks.{below}
use Rattle.integers.proofs.Places.{by-test, map-ext, range_mem, length-range, get_or-range, length-tabulate, get_d_tabulate}
use Rattle.integers.proofs.Ranges.{range_add, tabulate-more, shifted}
use Rattle.integers.proofs.Checks.{below_ext}
use Rattle.integers.proofs.Marks.{below_append}
use Rattle.messages.specs.EdgeMessage.{over}
use Rattle.messages.proofs.RowLaws.{every_is}

module _ (f : ℕ → ℤ) (n : ℕ) (l : List ℤ) where
  pub length_over : n ≤ length l → length (over f n l) ≡ length l
  unfolding over
  length_over h = simp (length-append, length-tabulate, length-drop) (omega arith)

  pub over_at : (k : ℕ) → k < n → get_or (over f n l) k (pos 0) ≡ f k
  unfolding over
  over_at k h = let z = length-tabulate n f in get_or-append (tabulate n f) (drop n l) (pos 0) k (omega arith) ∙ get_d_tabulate n f k (pos 0) h

  over_past : (k : ℕ) → n ≤ k → get_or (over f n l) k (pos 0) ≡ get_or l k (pos 0)
  unfolding over
  over_past k h =
      let z = length-tabulate n f in
      let e : k ≡ length (tabulate n f) + (k - n) = omega arith in
      let q : n + (k - n) ≡ k = omega arith in
      ap (λ (i : ℕ). get_or (over f n l) i (pos 0)) e ∙ get_or-append-add (tabulate n f) (drop n l) (k - n) (pos 0) ∙ get_or-drop n l (k - n) (pos 0) ∙ ap (λ (i : ℕ). get_or l i (pos 0)) q

  pub over-take : take n (over f n l) ≡ tabulate n f
  unfolding over
  over-take = take_at (tabulate n f) (drop n l) n (length-tabulate n f)

  -- what is still to come is as it was
  over-drop : drop n (over f n l) ≡ drop n l
  unfolding over
  over-drop = drop_at (tabulate n f) (drop n l) n (length-tabulate n f)

  -- one store more
  over_more : n < length l → set (over f n l) n (f n) ≡ over f (n + 1) l
  unfolding over
  over_more h =
      ap (λ (t : List ℤ). set (tabulate n f ++ t) n (f n)) (drop-cons l n (pos 0) h) ∙ set_at (tabulate n f) (get_or l n (pos 0)) (drop (suc n) l) (f n) n (length-tabulate n f)
      ∙ sym (ap₂ (λ (t : List ℤ) (i : ℕ). t ++ drop i l) (tabulate-more n f) (add-one n) ∙ append_assoc (tabulate n f) (f n ∷ []) (drop (suc n) l))

  -- a part of w elements more
  module _ (w : ℕ) (m : List ℤ) (e : length m ≡ w) (p : (k : ℕ) → k < w → get_or m k (pos 0) ≡ f (n + k)) where
    tabulate_part : tabulate (n + w) f ≡ tabulate n f ++ m
    unfolding tabulate
    tabulate_part =
        let z = length-map (range (0 + n) w) f in
        let y = length-range (0 + n) w in
        ap (map f) (range_add 0 n w) ∙ map-append f (range 0 n) (range (0 + n) w)
        ∙ ap (λ (t : List ℤ). map f (range 0 n) ++ t)
        (ext_get_or (pos 0) (map f (range (0 + n) w)) m (omega arith)
        (λ k h. let q : 0 + n + k ≡ n + k = omega arith in get_or-range f (0 + n) w k (pos 0) (omega arith) ∙ ap f q ∙ sym (p k (omega arith))))

    over_part : put_mid n w (over f n l) m ≡ over f (n + w) l
    unfolding over
    over_part =
        ap₂ (λ (s t : List ℤ). s ++ (m ++ drop w t)) over-take over-drop ∙ ap (λ (t : List ℤ). tabulate n f ++ (m ++ t)) (drop-drop w n l)
        ∙ sym (ap (λ (t : List ℤ). t ++ drop (n + w) l) tabulate_part ∙ append_assoc (tabulate n f) m (drop (n + w) l))

-- the first n written anew
pub over_again : (f g h : ℕ → ℤ) (n : ℕ) (l : List ℤ) → ((k : ℕ) → k < n → g k ≡ h k) → over g n (over f n l) ≡ over h n l
unfolding over tabulate
over_again f g h n l e = ap₂ ◌++◌ (map-ext g h (range 0 n) (λ k m. let r = range_mem 0 n m in e k (omega arith))) (over-drop f n l)

-- all of them
pub over_full : (f : ℕ → ℤ) (l : List ℤ) → over f (length l) l ≡ tabulate (length l) f
unfolding over
over_full f l = ap (λ (t : List ℤ). tabulate (length l) f ++ t) (drop-length l) ∙ append-nil (tabulate (length l) f)

-- a part from the front written anew
pub over_front : (f g : ℕ → ℤ) {m n : ℕ} (l : List ℤ) → m ≡ n → ((k : ℕ) → k < n → f k ≡ g k) → tabulate m f ++ drop n l ≡ over g n l
unfolding over tabulate
over_front f g {m} {n} l q e =
    ap (λ (t : List ℤ). t ++ drop n l) (ap (λ (k : ℕ). map f (range 0 k)) q ∙ map-ext f g (range 0 n) (λ k m. let r = range_mem 0 n m in e k (omega arith)))

-- from zeros: a table of which the rest is 0
pub over_zeros : (f g : ℕ → ℤ) (m n : ℕ) → n ≤ m → ((k : ℕ) → k < n → f k ≡ g k) → ((k : ℕ) → k < m → n ≤ k → pos 0 ≡ g k) → over f n (replicate m (pos 0)) ≡ tabulate m g
over_zeros f g m n h p q =
    let l : List ℤ = replicate m (pos 0) in
    let r = length-replicate {A = ℤ} m (pos 0) in
    let z = length_over f n l (omega arith) in
    let y = length-tabulate m g in
    ext_get_or (pos 0) (over f n l) (tabulate m g) (omega arith)
    (λ k i. by-test (ltb k n) (λ t. let o = ltb-true k n t in over_at f n l k o ∙ p k o)
    (λ t. let o = ltb-false k n t in over_past f n l k o ∙ get_or-replicate m k (pos 0) (pos 0) (omega arith) ∙ q k (omega arith) o)
    ∙ sym (get_d_tabulate m g k (pos 0) (omega arith)))

-- ---- a loop that writes f of its place into each of the first n places of m: after k of them

pub record Overwritten (f : ℕ → ℤ) (n : ℕ) (m : List ℤ) (k : ℕ) (l : List ℤ) : Type 0 where
  pub inside : k ≤ n
  pub room : n ≤ length m
  pub told : l ≡ over f k m

-- before the first of them, of an array that is known to be m
pub written_start : (f : ℕ → ℤ) (n : ℕ) {m l : List ℤ} → l ≡ m → n ≤ length m → Overwritten f n m 0 l
unfolding over tabulate range
written_start f n e h = record { inside = omega arith; room = h; told = e }

pub written_none : (f : ℕ → ℤ) (n : ℕ) (m : List ℤ) → n ≤ length m → Overwritten f n m 0 m
written_none f n m h = written_start f n refl h

module _ {f : ℕ → ℤ} {n : ℕ} {m : List ℤ} {k : ℕ} {l : List ℤ} (w : Overwritten f n m k l) where
  pub written_length : length l ≡ length m
  written_length = ap length w.told ∙ length_over f k m (omega arith)

  -- the next place is as it was, and so is all that is still to come
  pub written_next : get_or l k (pos 0) ≡ get_or m k (pos 0)
  written_next = ap (λ (t : List ℤ). get_or t k (pos 0)) w.told ∙ over_past f k m k (omega arith)

  pub written_drop : drop k l ≡ drop k m
  written_drop = ap (drop k) w.told ∙ over-drop f k m

  pub written_more : k < n → {v : ℤ} → v ≡ f k → Overwritten f n m (k + 1) (set l k v)
  written_more h e = record { inside = omega arith; room = w.room; told = ap₂ (λ (t : List ℤ) (z : ℤ). set t k z) w.told e ∙ over_more f k m (omega arith) }

  -- by a place and a next place that are written otherwise
  pub written_on : k < n → {i k' : ℕ} → i ≡ k → k' ≡ k + 1 → {v : ℤ} → v ≡ f i → Overwritten f n m k' (set l i v)
  written_on h {i} {k'} e q {v} p =
      let r = written_more h (p ∙ ap f e) in
      record { inside = omega arith; room = r.room; told = ap (λ (i : ℕ). set l i v) e ∙ r.told ∙ ap (λ (i : ℕ). over f i m) (sym q) }

  -- a place that holds already what would be written
  pub written_kept : k < n → get_or m k (pos 0) ≡ f k → Overwritten f n m (k + 1) l
  written_kept h e =
      let r = written_more h (written_next ∙ e) in
      record { inside = r.inside; room = r.room; told = sym (set-get_or l k (pos 0)) ∙ r.told }

  pub written_part : (a : ℕ) → k + a ≤ n → (p : List ℤ) → length p ≡ a → ((j : ℕ) → j < a → get_or p j (pos 0) ≡ f (k + j)) → Overwritten f n m (k + a) (put_mid k a l p)
  written_part a h p e q = record { inside = h; room = w.room; told = ap (λ (t : List ℤ). put_mid k a t p) w.told ∙ over_part f k m a p e q }

  pub written_all : n ≤ k → l ≡ over f n m
  written_all h = let e : k ≡ n = omega arith in w.told ∙ ap (λ (i : ℕ). over f i m) e

-- ---- the same where a of its place is added to each place of m

abbrev pub Raised : (ℕ → ℤ) → List ℤ → ℕ → List ℤ → Type 0
Raised a m k l = Overwritten (λ j. get_or m j (pos 0) +ℤ a j) (length m) m k l

module _ (a : ℕ → ℤ) {m : List ℤ} {k : ℕ} {l : List ℤ} (w : Raised a m k l) where
  pub raised_more : k < length l → {x : ℤ} → x ≡ a k → {l' : List ℤ} → l' ≡ set l k (get_or l k (pos 0) +ℤ x) → Raised a m (k + 1) l'
  raised_more h e q =
      let r = written_more w (omega (arith, written_length w)) (ap₂ ◌+ℤ◌ (written_next w) e) in
      record { inside = r.inside; room = r.room; told = q ∙ r.told }

  pub raised_all : length l ≤ k → l ≡ shifted a m
  raised_all h = written_all w (omega (arith, written_length w)) ∙ over_full (λ j. get_or m j (pos 0) +ℤ a j) m

-- ---- a test of each, place by place and row by row

pub every_made : (t : ℤ → Bool) (n : ℕ) (f : ℕ → ℤ) → every t (tabulate n f) ≡ below n (λ i. t (f i))
every_made t n f =
    every_is t (tabulate n f) (pos 0) ∙ ap (λ (k : ℕ). below k (λ i. t (get_or (tabulate n f) i (pos 0)))) (length-tabulate n f)
    ∙ below_ext n (λ i. t (get_or (tabulate n f) i (pos 0))) (λ i. t (f i)) (λ i h. ap t (get_d_tabulate n f i (pos 0) h))

pub below_rows : (n w : ℕ) (s : ℕ → Bool) → below (n * w) s ≡ below n (λ r. below w (λ j. s (r * w + j)))
unfolding below
below_rows zero w s = let e : zero * w ≡ zero = omega arith in ap (λ (m : ℕ). below m s) e
below_rows (suc n) w s =
    let e : suc n * w ≡ n * w + w = omega arith in
    ap (λ (m : ℕ). below m s) e ∙ below_append (n * w) w s ∙ ap (λ (x : Bool). x && below w (λ j. s (n * w + j))) (below_rows n w s)
