-- Nodes that take, in order, each its lowest free label: where none is left out, that is the smallest placing.
-- Assumes nothing.
use mathlib.Core.Path.{◌≡◌, refl, sym, ap, ◌∙◌, subst, fun_ext}
use mathlib.Core.Bool.{Bool, true, false}
use mathlib.Core.List.{List}
use mathlib.Core.Logic.{⊎_elim}
use Prim.Native.Nat.{ℕ, ◌+◌, ◌-◌, ◌^◌, ◌≤◌, ◌<◌}
use native.Mathlib.Nat.{not-suc-le-zero}
use native.Mathlib.Omega.{arith}
use lib.Bits.{bit_and, bit_xor, xor_lt}
use lib.Count.{count_trailing_zeros}
use lib.Dec.{ltb, lit<}
use borrow.Author.Tests.{ltb-true, ltb-false}
use lib.ListN.{length, set, length-set}
use lib.Seq.{get_or-set_same, get_or-set_other}
use Rattle.integers.specs.Words.{bit}
use Rattle.integers.proofs.Places.{by-test, and_true, and_both}
use Rattle.integers.proofs.Words.{some_bit, lowest, bit_and_lem, bit_dropped, bit_kept, bit_full, power_fits}
use Rattle.assignment.specs.Rows.{But, put, Node}
use Rattle.assignment.specs.First.{First, None, Settled, Agree}
use Rattle.assignment.proofs.Counts.{differ, by-same, put_same, put_other}
use Rattle.assignment.proofs.Shifts.{placed_put}
use Rattle.assignment.proofs.Firsts.{settled_none, settled_more, settled_first}
use Rattle.placing.specs.Words.{entry, flag, opens, rows_of, All}
use Rattle.placing.proofs.Slots.{opens_kinds, opens-bit, opens-own, same_slot, same_label}

-- a table with one entry set, as a function
set-put : (t : List ℕ) (u k : ℕ) → u < length t → put (entry t) u k ≡ entry (set t u k)
set-put t u k h = fun_ext (λ w. by-same w u
    (λ e. rw e (put_same (entry t) u k ∙ sym (get_or-set_same t u k 0 h)))
    (λ e. put_other (entry t) u k w e ∙ sym (get_or-set_other t u w k 0 e)))

-- the lowest label of a word
abbrev pub Least : ℕ → ℕ → Type 0
Least w l = (l < 64) × (bit w l ≡ true) × ((x : ℕ) → x < l → bit w x ≡ false)

pub least_of : (w l : ℕ) → w < 2 ^ 64 → (w ≡ 0 → ⊥) → l ≡ count_trailing_zeros 64 w → Least w l
least_of w l h z e = subst (Least w) (sym e) (lowest w h z)

pub least_below : (w l : ℕ) → Least w l → (x : ℕ) → bit w x ≡ true → l ≤ x
least_below w l h x e = by-test (ltb x l) (λ b. absurd (differ e (h.2 x (ltb-true x l b)))) (λ b. ltb-false x l b)

-- The nodes below u are placed, each as low as it can be; a label is not free exactly if one of them takes it.
pub record Taking (n : ℕ) (sets : List ℕ) (own : List Bool) (taken : List ℕ) (free u : ℕ) : Type 0 where
  pub within : u ≤ n
  pub size : length taken ≡ 64
  pub all : All u sets own (entry taken)
  pub settled : Settled (All n sets own) (entry taken) u
  pub fit : free < 2 ^ 64
  pub gone : (w : ℕ) → w < u → entry taken w < 64 → bit free (entry taken w) ≡ false
  pub held : (l : ℕ) → l < 64 → bit free l ≡ false → (w : ℕ) × (w < u) × (entry taken w ≡ l)

pub taking_none : (n : ℕ) (sets : List ℕ) (own : List Bool) (taken : List ℕ) → length taken ≡ 64 → Taking n sets own taken (2 ^ 64 - 1) 0
taking_none n sets own taken z = record {
  within = omega arith;
  size = z;
  all = record { allowed = λ w h. absurd (not-suc-le-zero h); distinct = λ v w h. absurd (not-suc-le-zero h) };
  settled = settled_none (All n sets own) (entry taken);
  fit = lit< tt;
  gone = λ w h. absurd (not-suc-le-zero h);
  held = λ l h e. absurd (differ (bit_full l h) e);
}

module _ {n : ℕ} {sets : List ℕ} {own : List Bool} {taken : List ℕ} {free u : ℕ} (t : Taking n sets own taken free u) where
  module _ (few : n ≤ 64) (h : u < n) where
    -- a label that a placing which agrees below u gives u is open: else a node below takes it
    open_at : {q : ℕ → ℕ} → All n sets own q → Agree u (entry taken) q → q u < 64 → bit (bit_and (entry sets u) free) (q u) ≡ true
    open_at {q} m a s =
        bit_and_lem (entry sets u) free (q u)
        ∙ and_both (sym (opens-bit sets own u (q u) s) ∙ m.allowed u h)
        (by-test (bit free (q u)) (λ e. e)
        (λ e. let (w, g, y) = t.held (q u) s e in
        let z : w ≡ u = m.distinct w u (omega arith) h (same_slot w u (omega (arith, a w g)) (sym (a w g) ∙ y)) in
        absurd (omega arith)))

    -- u takes k: it may, no node below it does, and no placing gives it less; what is left is free
    module _ {k left : ℕ} (may : opens sets own u k ≡ true) (vacant : k < 64 → bit free k ≡ true) (least : None (All n sets own) (entry taken) u k)
        (fit : left < 2 ^ 64) (out : k < 64 → bit left k ≡ false) (rest : (x : ℕ) → (x ≡ k → ⊥) → bit left x ≡ bit free x) where
      room : u < length taken
      room = omega (arith, t.size)

      at : entry (set taken u k) u ≡ k
      at = get_or-set_same taken u k 0 room

      others : (w : ℕ) → w < u → entry (set taken u k) w ≡ entry taken w
      others w g = get_or-set_other taken u w k 0 (λ e. omega arith)

      unused : (w : ℕ) → w < u → entry taken w < 64 → entry taken w ≡ k → ⊥
      unused w g s e = differ (vacant (omega arith)) (ap (bit free) (sym e) ∙ t.gone w g s)

      below : {w : ℕ} → But (Node (rows_of (u + 1) sets own)) u w → w < u
      below (a, d) = omega arith

      all_more : All (u + 1) sets own (entry (set taken u k))
      all_more = subst (All (u + 1) sets own) (set-put taken u k room)
          (placed_put (rows_of (u + 1) sets own) {D = Node (rows_of (u + 1) sets own)}
          (record { allowed = λ w d. t.all.allowed w (below d); distinct = λ v w d e. t.all.distinct v w (below d) (below e) })
          may
          (λ w d e. ⊎_elim (λ (s, y). unused w (below d) s y) d.1
          (same_label (opens_kinds sets own w (entry taken w) (t.all.allowed w (below d))) (opens_kinds sets own u k may) e)))

      taking_step : Taking n sets own (set taken u k) left (u + 1)
      taking_step = record {
        within = omega arith;
        size = simp length-set t.size;
        all = all_more;
        settled = settled_more (All n sets own) t.settled (λ w g. sym (others w g)) (subst (None (All n sets own) (entry taken) u) (sym at) least);
        fit = fit;
        gone = λ w g s. by-same w u
            (λ e. let y = ap (entry (set taken u k)) e ∙ at in ap (bit left) y ∙ out (omega arith))
            (λ d. let y = others w (omega arith) in ap (bit left) y ∙ rest (entry taken w) (unused w (omega arith) (omega arith)) ∙ t.gone w (omega arith) (omega arith));
        held = λ x s e. by-same x k
            (λ y. (u, omega arith, at ∙ sym y))
            (λ d. let (w, g, y) = t.held x s (sym (rest x d) ∙ e) in (w, omega arith, others w g ∙ y));
      }

    -- u takes its lowest open label
    pub taking_more : {l : ℕ} → Least (bit_and (entry sets u) free) l → Taking n sets own (set taken u l) (bit_xor free (2 ^ l)) (u + 1)
    taking_more {l} (s, o, lower) =
        let (b, v) = and_true (bit (entry sets u) l) (bit free l) (sym (bit_and_lem (entry sets u) free l) ∙ o) in
        taking_step (opens-bit sets own u l s ∙ b) (λ _. v) (λ q m a g. differ (open_at m a (omega arith)) (lower (q u) g))
        (xor_lt 64 free (2 ^ l) t.fit (power_fits l s)) (λ _. bit_dropped free l v) (bit_kept free l)

    -- none is open, and u has 255
    pub taking_last : flag own u ≡ true → bit_and (entry sets u) free ≡ 0 → Taking n sets own (set taken u 255) free (u + 1)
    taking_last f z =
        taking_step (opens-own sets own u ∙ f) (λ s. absurd (omega arith))
        (λ q m a g. ⊎_elim (λ s. some_bit (bit_and (entry sets u) free) (q u) (open_at m a s) z) (λ e. omega arith) (opens_kinds sets own u (q u) (m.allowed u h)))
        t.fit (λ s. absurd (omega arith)) (λ x d. refl)

  -- all nodes are placed
  pub taking_done : n ≤ u → First (All n sets own) n (entry taken)
  taking_done h =
      let e : u ≡ n = omega (arith, t.within) in
      settled_first (All n sets own) (subst (λ m. All m sets own (entry taken)) e t.all) (λ w l. t.settled w (omega arith))
