-- A node takes a label that is free, or leaves the one that it takes: the tables stay linked.
-- Assumes nothing.
use mathlib.Core.Path.{◌≡◌, refl, sym, ap, ◌∙◌, subst, transport}
use mathlib.Core.Bool.{Bool, true, false, ◌||◌}
use mathlib.Core.List.{List}
use Prim.Native.Nat.{ℕ, zero, suc, ◌-◌, ◌^◌, ◌≤◌, ◌<◌}
use native.Mathlib.Omega.{arith}
use borrow.Author.Tests.{ltb-true, ltb-false}
use lib.Bits.{bit_xor, xor_lt}
use lib.Dec.{eqb, ltb, lit<}
use lib.ListN.{length, set, replicate, length-set, get_or-replicate, get_or-eq_default}
use lib.Seq.{get_or-set_same, get_or-set_other}
use Rattle.integers.specs.Words.{bit, Words}
use Rattle.integers.proofs.Places.{by-test}
use Rattle.integers.proofs.Words.{bit_full, bit_dropped, bit_kept, power_fits}
use Rattle.assignment.proofs.Counts.{differ, by-same}
use Rattle.placing.specs.Words.{entry, Linked, Joined, Holds, Stands, Standing}

-- a table of words with one set
pub words_set : (t : List ℕ) (i w : ℕ) → Words t → w < 2 ^ 64 → Words (set t i w)
words_set t i w h f j = by-same j i
    (λ e. by-test (ltb i (length t))
    (λ z. rw (e, get_or-set_same t i w 0 (ltb-true i (length t) z)) f)
    (λ z. let g = ltb-false i (length t) z in rw (e, get_or-eq_default (set t i w) 0 {n = i} (rw (length-set t i w) g)) (lit< tt)))
    (λ e. rw (get_or-set_other t i j w 0 e) (h j))

-- words of no labels
pub words_none : (n : ℕ) → Words (replicate n 0)
words_none zero i = lit< tt
words_none (suc n) zero = lit< tt
words_none (suc n) (suc i) = words_none n i

module _ {sets taken holders reach : List ℕ} {free : ℕ} (k : Linked sets taken holders reach free) where
  -- two nodes do not take one label
  pub linked_distinct : (u w : ℕ) → u < 64 → w < 64 → entry taken u < 64 → entry taken u ≡ entry taken w → u ≡ w
  linked_distinct u w h g l e = sym (k.taker u h l).1 ∙ ap (entry holders) e ∙ (k.taker w g (omega arith)).1

  -- a label is free exactly if no node takes it
  pub free_held : (l : ℕ) → l < 64 → bit free l ≡ false → Holds taken l
  free_held l h e = let (a, b, c) = k.held l h e in (entry holders l, a, b)

  pub held_taken : (l : ℕ) → l < 64 → Holds taken l → bit free l ≡ false
  held_taken l h (v, g, e) = ap (bit free) (sym e) ∙ (k.taker v g (omega arith)).0

  pub none_free : (l : ℕ) → l < 64 → (Holds taken l → ⊥) → bit free l ≡ true
  none_free l h f = by-test (bit free l) (λ e. e) (λ e. absurd (f (free_held l h e)))

  -- the word at the label of a node is the node's
  pub linked_word : (u : ℕ) → u < 64 → entry taken u < 64 → entry reach (entry taken u) ≡ entry sets u
  linked_word u h l = let (f, e) = k.taker u h l in (k.held (entry taken u) l f).2 ∙ ap (entry sets) e

  -- u, which takes none, takes the label l, which is free
  module _ {u : ℕ} (l : ℕ) (h : u < 64) (small : l < 64) (none : 64 ≤ entry taken u) (vacant : bit free l ≡ true) (own : bit (entry sets u) l ≡ true) where
    abbrev left : ℕ
    left = bit_xor free (2 ^ l)

    at : entry (set taken u l) u ≡ l
    at = get_or-set_same taken u l 0 (omega (arith, k.size_taken))

    elsewhere : (w : ℕ) → (w ≡ u → ⊥) → entry (set taken u l) w ≡ entry taken w
    elsewhere w d = get_or-set_other taken u w l 0 d

    holds : entry (set holders l u) l ≡ u
    holds = get_or-set_same holders l u 0 (omega (arith, small, k.size_holders))

    word : entry (set reach l (entry sets u)) l ≡ entry sets u
    word = get_or-set_same reach l (entry sets u) 0 (omega (arith, small, k.size_reach))

    pub linked_take : Linked sets (set taken u l) (set holders l u) (set reach l (entry sets u)) left
    linked_take = record {
      size_taken = simp length-set k.size_taken;
      size_holders = simp length-set k.size_holders;
      size_reach = simp length-set k.size_reach;
      fit_sets = k.fit_sets;
      fit_reach = words_set reach l (entry sets u) k.fit_reach (k.fit_sets u);
      fit_free = xor_lt 64 free (2 ^ l) k.fit_free (power_fits l small);
      inside = λ w g b. by-same w u
          (λ e. subst (λ v. bit (entry sets v) (entry (set taken u l) v) ≡ true) (sym e) (rw at own))
          (λ d. rw (elsewhere w d) (k.inside w g (rw (elsewhere w d) at b)));
      taker = λ w g b. by-same w u
          (λ e. subst (λ v. (bit left (entry (set taken u l) v) ≡ false) × (entry (set holders l u) (entry (set taken u l) v) ≡ v)) (sym e) (rw at (bit_dropped free l vacant, holds)))
          (λ d. rw (elsewhere w d) (other w g (rw (elsewhere w d) at b)));
      held = λ x g z. by-same x l
          (λ e. subst (λ y. (entry (set holders l u) y < 64) × (entry (set taken u l) (entry (set holders l u) y) ≡ y) × (entry (set reach l (entry sets u)) y ≡ entry sets (entry (set holders l u) y))) (sym e)
          (rw holds (h, at, word)))
          (λ d. rw (get_or-set_other holders l x u 0 d, get_or-set_other reach l x (entry sets u) 0 d) (kept x g d z));
    }
      where
        other : (w : ℕ) → w < 64 → entry taken w < 64 → (bit left (entry taken w) ≡ false) × (entry (set holders l u) (entry taken w) ≡ w)
        other w g b =
            let (f, e) = k.taker w g b in
            let n : entry taken w ≡ l → ⊥ = (λ q. differ vacant (ap (bit free) (sym q) ∙ f)) in
            (bit_kept free l (entry taken w) n ∙ f, get_or-set_other holders l (entry taken w) u 0 n ∙ e)

        kept : (x : ℕ) → x < 64 → (x ≡ l → ⊥) → bit left x ≡ false
            → (entry holders x < 64) × (entry (set taken u l) (entry holders x) ≡ x) × (entry reach x ≡ entry sets (entry holders x))
        kept x g d z =
            let (a, b, c) = k.held x g (sym (bit_kept free l x d) ∙ z) in
            (a, elsewhere (entry holders x) (λ q. omega (arith, ap (entry taken) q)) ∙ b, c)

  -- u leaves its label, if it takes one
  module _ {u left : ℕ} (h : u < 64) (joined : Joined free (entry taken u) left) where
    rest : (x : ℕ) → x < 64 → bit left x ≡ (bit free x || eqb x (entry taken u))
    rest = joined.1

    away : entry (set taken u 255) u ≡ 255
    away = get_or-set_same taken u 255 0 (omega (arith, k.size_taken))

    others : (w : ℕ) → (w ≡ u → ⊥) → entry (set taken u 255) w ≡ entry taken w
    others w d = get_or-set_other taken u w 255 0 d

-- a node that takes a label stands
pub stands_taker : (n out : ℕ) {own : List Bool} {taken : List ℕ} → Standing (Stands n out) own taken → (u : ℕ) → u < 64 → entry taken u < 64 → Stands n out u
stands_taker n out {own} {taken} s u h l =
    let away : (Stands n out u → ⊥) → ⊥ = (λ f. let e = s.later u h f in omega arith) in
    by-test (ltb u n)
    (λ a. by-test (bit out u) (λ b. absurd (away (λ (_, y). differ b y))) (λ b. (ltb-true u n a, b)))
    (λ a. absurd (away (λ (y, _). let g = ltb-false u n a in omega arith)))

-- the same tables under other names
pub linked_as : {sets sets' taken taken' holders reach : List ℕ} {free : ℕ} → sets ≡ sets' → taken ≡ taken' → Linked sets taken holders reach free → Linked sets' taken' holders reach free
linked_as {holders = holders} {reach} {free} e f k = transport (λ j. Linked (e j) (f j) holders reach free) k

-- no label is taken, and all are free
pub linked_none : {sets : List ℕ} → Words sets → Linked sets (replicate 64 255) (replicate 64 0) (replicate 64 0) (2 ^ 64 - 1)
linked_none h = record {
  size_taken = refl;
  size_holders = refl;
  size_reach = refl;
  fit_sets = h;
  fit_reach = words_none 64;
  fit_free = lit< tt;
  inside = λ u g l. absurd (omega (arith, vacant u g));
  taker = λ u g l. absurd (omega (arith, vacant u g));
  held = λ l g e. absurd (differ (bit_full l g) e);
}
  where
    vacant : (u : ℕ) → u < 64 → entry (replicate 64 255) u ≡ 255
    vacant u g = get_or-replicate {A = ℕ} 64 u 255 0 g
