-- The labels that may be taken after the first nodes, as a test and as a table of 256 places: 255, and those that none of them takes.
-- Assumes nothing.
use Rattle.std.proofs.Common.{◌≡◌, ℕ, zero, suc, ◌+◌, ◌<◌, Bool, true, false, not, ◌&&◌, ◌||◌, eqb, List, [], ◌∷◌, ◌++◌, get_or, set, replicate, sym, refl, ap, ◌∙◌, add-one, arith, length-set, get_or-set_other, get_or-set_same, ext_get_or, eq-eqb, ne_eqb, eqb-true}
use mathlib.Core.Bool.{and-true, and-false, and_assoc, or-true, or-false}
use borrow.Author.Tests.{eqb-false}
use lib.ListN.{length-replicate, get_or-replicate}
use Rattle.integers.specs.Places.{range, every, tabulate}
use Rattle.integers.specs.Checks.{below}
use Rattle.integers.proofs.Places.{by-test, length-tabulate, get_d_tabulate}
use Rattle.integers.proofs.Ranges.{range_last}
use Rattle.integers.proofs.Checks.{below_ext}
use Rattle.instance.specs.Instance.{Instance, exclusive, first}
use Rattle.rules.specs.Costs.{position, chosen}
use Rattle.rules.specs.Rounding.{free}

-- ---- a test of the first places

every_last : (t : ℕ → Bool) (l : List ℕ) (k : ℕ) → every t (l ++ k ∷ []) ≡ (every t l && t k)
unfolding every
every_last t [] k = and-true (t k)
every_last t (i ∷ l) k = ap (λ (b : Bool). t i && b) (every_last t l k) ∙ sym (and_assoc (t i) (every t l) (t k))

every_first : (t : ℕ → Bool) (n : ℕ) → every t (range 0 n) ≡ below n t
unfolding every range below
every_first t zero = refl
every_first t (suc n) = let e : 0 + n ≡ n = omega arith in
    ap (every t) (range_last 0 n ∙ ap (λ (z : ℕ). range 0 n ++ (z ∷ [])) e) ∙ every_last t (range 0 n) n ∙ ap (λ (b : Bool). b && t n) (every_first t n)

-- ---- the nodes below u

-- two lists that have the same positions there
abbrev pub Agree : List ℕ → List ℕ → ℕ → Type 0
Agree x y u = (w : ℕ) → w < u → position x w ≡ position y w

module _ (I : Instance) where
  -- whether the label l may be taken after the nodes below u: it is 255, or none of them takes it
  abbrev pub unused : List ℕ → ℕ → ℕ → Bool
  unused x u l = not (exclusive l) || below u (λ w. not (eqb (I.label (chosen I x w)) l))

  pub unused_agree : (x y : List ℕ) (u : ℕ) → Agree x y u → (l : ℕ) → unused x u l ≡ unused y u l
  unfolding chosen
  unused_agree x y u a l =
      ap (λ (b : Bool). not (exclusive l) || b)
      (below_ext u (λ w. not (eqb (I.label (first I w + position x w)) l)) (λ w. not (eqb (I.label (first I w + position y w)) l))
      (λ w h. ap (λ (k : ℕ). not (eqb (I.label (first I w + k)) l)) (a w h)))

  pub free_is : (x : List ℕ) (u k : ℕ) → free I x u k ≡ unused x u (I.label (first I u + k))
  unfolding free
  free_is x u k = let l = I.label (first I u + k) in ap (λ (b : Bool). not (exclusive l) || b) (every_first (λ w. not (eqb (I.label (chosen I x w)) l)) u)

  -- one node more takes its label
  unused_taken : (x : List ℕ) (u l : ℕ) → I.label (chosen I x u) ≡ l → unused x (u + 1) l ≡ not (exclusive l)
  unfolding below
  unused_taken x u l e =
      ap (λ (b : Bool). not (exclusive l) || b) (rw (add-one u, eq-eqb (I.label (chosen I x u)) l e) (and-false (below u (λ w. not (eqb (I.label (chosen I x w)) l)))))
      ∙ or-false (not (exclusive l))

  unused_kept : (x : List ℕ) (u l : ℕ) → (I.label (chosen I x u) ≡ l → ⊥) → unused x (u + 1) l ≡ unused x u l
  unfolding below
  unused_kept x u l d =
      ap (λ (b : Bool). not (exclusive l) || b) (rw (add-one u, ne_eqb (I.label (chosen I x u)) l d) (and-true (below u (λ w. not (eqb (I.label (chosen I x w)) l)))))

  -- ---- as a table

  pub untaken_none : (x : List ℕ) → replicate 256 true ≡ tabulate 256 (unused x 0)
  unfolding below
  untaken_none x =
      let a = length-replicate {A = Bool} 256 true in
      let b = length-tabulate 256 (unused x 0) in
      ext_get_or true (replicate 256 true) (tabulate 256 (unused x 0)) (omega arith)
      (λ k l. let h : k < 256 = omega arith in get_or-replicate 256 k true true h ∙ sym (get_d_tabulate 256 (unused x 0) k true h ∙ or-true (not (exclusive k))))

  -- y has one node more than x
  pub untaken_more : (x y : List ℕ) (u : ℕ) → Agree y x u → (l : ℕ) → l ≡ I.label (chosen I y u) → set (tabulate 256 (unused x u)) l (not (exclusive l)) ≡ tabulate 256 (unused y (u + 1))
  untaken_more x y u same l el =
      let old = tabulate 256 (unused x u) in
      let new = unused y (u + 1) in
      let v = not (exclusive l) in
      let a = length-tabulate 256 (unused x u) in
      let b = length-tabulate 256 new in
      let g = length-set old l v in
      ext_get_or false (set old l v) (tabulate 256 new) (omega arith)
      (λ i h. let h' : i < 256 = omega arith in
      by-test (eqb i l)
      (λ z. let q : i ≡ l = eqb-true i l z in
      ap (λ (j : ℕ). get_or (set old l v) j false) q ∙ get_or-set_same old l v false (omega arith) ∙ ap (λ (j : ℕ). not (exclusive j)) (sym q)
      ∙ sym (get_d_tabulate 256 new i false h' ∙ unused_taken y u i (sym el ∙ sym q)))
      (λ z. let q : i ≡ l → ⊥ = eqb-false i l z in
      get_or-set_other old l i v false q ∙ get_d_tabulate 256 (unused x u) i false h'
      ∙ sym (get_d_tabulate 256 new i false h' ∙ unused_kept y u i (λ w. q (sym w ∙ sym el)) ∙ unused_agree y x u same i)))
