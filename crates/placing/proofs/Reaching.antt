-- One way to a label after another: what the tables of a search hold then.
-- Assumes nothing.
use mathlib.Core.Path.{◌≡◌, refl, sym, ap, ◌∙◌, subst}
use mathlib.Core.Bool.{Bool, true, false, cond}
use mathlib.Core.List.{List}
use mathlib.Core.Logic.{◌⊎◌, inl, inr, ⊎_elim}
use Prim.Native.Nat.{ℕ, ◌+◌, ◌^◌, ◌≤◌, ◌<◌}
use native.Mathlib.Omega.{arith}
use borrow.Author.Tests.{lt-ltb, ne_eqb, eqb-true, ltb-true}
use lib.Dec.{eqb, ltb}
use lib.Bits.{bit_or}
use lib.IntN.{ℤ, pos}
use lib.Signed.{◌≤ℤ◌, ◌<ℤ◌}
use lib.ListN.{length, get_or, set, get_or-eq_default}
use lib.Seq.{get_or-set_same, get_or-set_other}
use Rattle.integers.specs.Words.{bit}
use Rattle.integers.proofs.Words.{bit_or_lem, bit_power, bit_own}
use Rattle.integers.proofs.Places.{by-test, if-true, if-false, right_true}
use Rattle.integers.proofs.Parts.{linear, parts}
use Rattle.integers.proofs.Order.{le_refl, le_trans}
use Rattle.assignment.proofs.Counts.{by-same}
use Rattle.placing.specs.declared.offers.Offers.{Offers}
use Rattle.placing.specs.declared.paths.Paths.{Paths}
use Rattle.placing.specs.Words.{entry}
use Rattle.placing.specs.Priced.{price}
use Rattle.placing.specs.Paths.{may, way, unmet, by_kind, far_of, by_of, Exit, Near, Bounded, Kept, Same, Nearer, Reached, Scanned}

-- ---- the two tables by the kind of label

module _ {A : Type 0} where
  kind_small : {l : ℕ} (x y z : A) → l < 64 → by_kind l x y z ≡ x
  unfolding by_kind
  kind_small {l} x y z h = if-true x (cond (eqb l 255) y z) (lt-ltb l 64 h)

  kind_home : {l : ℕ} (x y z : A) → l ≡ 255 → by_kind l x y z ≡ y
  unfolding by_kind
  kind_home {l} x y z e = rw e

  kind_else : (l : ℕ) (x y z : A) → (l < 64) ⊎ (l ≡ 255) ⊎ (by_kind l x y z ≡ z)
  unfolding by_kind
  kind_else l x y z = by-test (ltb l 64) (λ t. inl (ltb-true l 64 t))
      (λ t. inr (by-test (eqb l 255) (λ e. inl (eqb-true l 255 e)) (λ e. inr (if-false x (cond (eqb l 255) y z) t ∙ if-false y z e))))

  kind_same : (l : ℕ) {x x' y y' : A} (z : A) → (l < 64 → x' ≡ x) → (l ≡ 255 → y' ≡ y) → by_kind l x' y' z ≡ by_kind l x y z
  unfolding by_kind
  kind_same l z f g = by-test (ltb l 64)
      (λ t. if-true _ _ t ∙ f (ltb-true l 64 t) ∙ sym (if-true _ _ t))
      (λ t. if-false _ _ t ∙ by-test (eqb l 255) (λ e. if-true _ _ e ∙ g (eqb-true l 255 e) ∙ sym (if-true _ _ e)) (λ e. if-false _ _ e ∙ sym (if-false _ _ e)) ∙ sym (if-false _ _ t))

module _ (p : Paths) where
  pub far_small : {l : ℕ} → l < 64 → far_of p l ≡ get_or p.far l (pos 0)
  unfolding far_of
  far_small {l} h = kind_small (get_or p.far l (pos 0)) p.home unmet h

  pub by_small : {l : ℕ} → l < 64 → by_of p l ≡ entry p.by l
  unfolding by_of
  by_small {l} h = kind_small (entry p.by l) p.home_by 0 h

  pub far_home : {l : ℕ} → l ≡ 255 → far_of p l ≡ p.home
  unfolding far_of
  far_home {l} e = kind_home (get_or p.far l (pos 0)) p.home unmet e

  pub by_home : {l : ℕ} → l ≡ 255 → by_of p l ≡ p.home_by
  unfolding by_of
  by_home {l} e = kind_home (entry p.by l) p.home_by 0 e

  -- what is neither below 64 nor 255 is not met
  pub far_else : (l : ℕ) → far_of p l <ℤ unmet → (l < 64) ⊎ (l ≡ 255)
  unfolding far_of
  far_else l h = ⊎_elim inl (λ s. ⊎_elim inr (λ e. absurd (omega (linear, parts e))) s) (kind_else l (get_or p.far l (pos 0)) p.home unmet)

-- no price stands beyond the table
pub price_beyond : (prices : List ℤ) (l : ℕ) → length prices ≡ 64 → 64 ≤ l → price prices l ≡ pos 0
price_beyond prices l z h = get_or-eq_default prices (pos 0) {n = l} (omega arith)

-- the same entries give the same ways
module _ (p p' : Paths) where
  far_same : (l : ℕ) → (l < 64 → get_or p'.far l (pos 0) ≡ get_or p.far l (pos 0)) → (l ≡ 255 → p'.home ≡ p.home) → far_of p' l ≡ far_of p l
  unfolding far_of
  far_same l = kind_same l unmet

  by_same_lem : (l : ℕ) → (l < 64 → entry p'.by l ≡ entry p.by l) → (l ≡ 255 → p'.home_by ≡ p.home_by) → by_of p' l ≡ by_of p l
  unfolding by_of
  by_same_lem l = kind_same l 0

pub kept_self : (p : Paths) → Kept p p
kept_self p = record { prices = refl; nodes = refl; labels = refl; step = refl }

pub same_self : (p : Paths) (l : ℕ) → Same p p l
same_self p l = record { far = refl; by = refl; waits = refl }

-- ---- a way that is not shorter

pub reached_not : (p : Paths) (l : ℕ) {z : ℤ} → Near p l z → Reached p p l z
reached_not p l h = record { kept = kept_self p; falls = le_refl p.bound; others = λ k _. same_self p k; here = inl (same_self p l, h) }

-- ---- a shorter way, to a label below 64 and to 255

-- the way to a label then
pub far_label : (p p' : Paths) {l : ℕ} {z : ℤ} → l < 64 → length p.far ≡ 64 → p'.far ≡ set p.far l z → far_of p' l ≡ z
far_label p p' {l} {z} h sf ef = far_small p' h ∙ ap (λ (t : List ℤ). get_or t l (pos 0)) ef ∙ get_or-set_same p.far l z (pos 0) (omega arith)

module _ (p p' : Paths) (kept : Kept p p') (falls : p'.bound ≤ℤ p.bound) where
  pub reached_label : {l : ℕ} {z : ℤ} → l < 64 → length p.far ≡ 64 → length p.by ≡ 64 → z <ℤ get_or p.far l (pos 0)
      → p'.far ≡ set p.far l z → p'.by ≡ set p.by l p.step → ((k : ℕ) → (k ≡ l → ⊥) → bit p'.waiting k ≡ bit p.waiting k) → (bit p'.waiting l ≡ true) ⊎ (p'.bound ≤ℤ z)
      → p'.home ≡ p.home → p'.home_by ≡ p.home_by → Reached p p' l z
  reached_label {l} {z} h sf sb less ef eb ew waits eh ey = record {
    kept = kept;
    falls = falls;
    others = λ k d. record {
      far = far_same p p' k (λ _. ap (λ (t : List ℤ). get_or t k (pos 0)) ef ∙ get_or-set_other p.far l k z (pos 0) d) (λ _. eh);
      by = by_same_lem p p' k (λ _. ap (λ (t : List ℕ). entry t k) eb ∙ get_or-set_other p.by l k p.step 0 d) (λ _. ey);
      waits = ew k d;
    };
    here = inr (record {
      less = let e = far_small p h in rw e less;
      far = far_label p p' h sf ef;
      by = by_small p' h ∙ ap (λ (t : List ℕ). entry t l) eb ∙ get_or-set_same p.by l p.step 0 (omega arith);
      waits = waits;
    });
  }

  pub reached_home : {l : ℕ} {z : ℤ} → l ≡ 255 → z <ℤ p.home → p'.far ≡ p.far → p'.by ≡ p.by → p'.waiting ≡ p.waiting → p'.bound ≤ℤ z → p'.home ≡ z → p'.home_by ≡ p.step → Reached p p' l z
  reached_home {l} {z} h less ef eb ew near eh ey = record {
    kept = kept;
    falls = falls;
    others = λ k d. record {
      far = far_same p p' k (λ _. ap (λ (t : List ℤ). get_or t k (pos 0)) ef) (λ e. absurd (d (e ∙ sym h)));
      by = by_same_lem p p' k (λ _. ap (λ (t : List ℕ). entry t k) eb) (λ e. absurd (d (e ∙ sym h)));
      waits = ap (λ (w : ℕ). bit w k) ew;
    };
    here = inr (record {
      less = let e = far_home p h in rw e less;
      far = far_home p' h ∙ eh;
      by = by_home p' h ∙ ey;
      waits = inr near;
    });
  }

-- a label that begins to wait
pub waits_here : (w l : ℕ) → bit (bit_or w (2 ^ l)) l ≡ true
waits_here w l = bit_or_lem w (2 ^ l) l ∙ right_true (bit w l) (bit_own l)

pub waits_other : (w l k : ℕ) → (k ≡ l → ⊥) → bit (bit_or w (2 ^ l)) k ≡ bit w k
waits_other w l k d = bit_or_lem w (2 ^ l) k ∙ other (bit w k) (bit_power l k ∙ ne_eqb k l d)
  where
    other : (a : Bool) {b : Bool} → b ≡ false → (mathlib.Core.Bool.◌||◌ a b) ≡ a
    other true e = refl
    other false e = e

-- ---- the goal after a shorter way

module _ {free : ℕ} {p p' : Paths} {l : ℕ} {z : ℤ} (b : Bounded free p) (r : Reached p p' l z) where
  -- a label waits, and the goal stays
  pub bounded_waits : (Exit free l → ⊥) → bit free l ≡ false → p'.bound ≡ p.bound → p'.goal ≡ p.goal → p'.waiting ≡ bit_or p.waiting (2 ^ l) → Bounded free p'
  bounded_waits not f ez eg ew = record {
    kind = subst (Exit free) (sym eg) b.kind;
    goal = ez ∙ b.goal ∙ sym (r.others p.goal (λ e. not (subst (Exit free) e b.kind))).far ∙ ap (far_of p') (sym eg);
    ends = λ k x. by-same k l (λ e. absurd (not (subst (Exit free) e x))) (λ d. let y = (r.others k d).far in let w = b.ends k x in omega (linear, parts y, parts ez));
    held = λ k w. by-same k l (λ e. ap (bit free) e ∙ f) (λ d. b.held k (sym (waits_other p.waiting l k d) ∙ sym (ap (λ (x : ℕ). bit x k) ew) ∙ w));
  }

  -- a label is the goal
  pub bounded_goal : far_of p' l ≡ z → Exit free l → z <ℤ p.bound → p'.bound ≡ z → p'.goal ≡ l → p'.waiting ≡ p.waiting → Bounded free p'
  bounded_goal far x h ez eg ew = record {
    kind = subst (Exit free) (sym eg) x;
    goal = ez ∙ sym far ∙ ap (far_of p') (sym eg);
    ends = λ k y. by-same k l (λ e. subst (λ i. p'.bound ≤ℤ far_of p' i) (sym e) (omega (linear, parts far, parts ez))) (λ d. let s = (r.others k d).far in let w = b.ends k y in omega (linear, parts s, parts ez));
    held = λ k w. b.held k (sym (ap (λ (x : ℕ). bit x k) ew) ∙ w);
  }

-- ---- a node's row: the first k of its labels f

pub record Scanning (o : Offers) (p p' : Paths) (u : ℕ) (b : ℤ) (f : ℕ → ℕ) (k : ℕ) : Type 0 where
  pub kept : Kept p p'
  pub falls : p'.bound ≤ℤ p.bound
  pub covered : (j : ℕ) → j < k → Near p' (f j) (way o p.prices u b (f j))
  pub each : (l : ℕ) → Same p p' l ⊎ (may o u l × Nearer p p' l (way o p.prices u b l))

pub scanning_none : (o : Offers) (p : Paths) (u : ℕ) (b : ℤ) (f : ℕ → ℕ) → Scanning o p p u b f 0
scanning_none o p u b f = record { kept = kept_self p; falls = le_refl p.bound; covered = λ j h. absurd (omega arith); each = λ l. inl (same_self p l) }

-- no way grows longer
reached_le : {p p' : Paths} {l : ℕ} {z : ℤ} → Reached p p' l z → (k : ℕ) → far_of p' k ≤ℤ far_of p k
reached_le {p} {p'} {l} r k = by-same k l
    (λ e. subst (λ i. far_of p' i ≤ℤ far_of p i) (sym e) (⊎_elim (λ (s, _). omega (linear, s.far)) (λ n. omega (linear, n.far, n.less)) r.here))
    (λ d. let s = r.others k d in omega (linear, s.far))

near_after : {p p' : Paths} {l : ℕ} {z : ℤ} → Reached p p' l z → (k : ℕ) {y : ℤ} → Near p k y → Near p' k y
near_after r k n = ⊎_elim (λ h. inl (le_trans (reached_le r k) h)) (λ h. inr (le_trans r.falls h)) n

pub scanning_more : {o : Offers} {p p' p'' : Paths} {u : ℕ} {b : ℤ} {f : ℕ → ℕ} {k : ℕ} → may o u (f k) → Scanning o p p' u b f k
    → Reached p' p'' (f k) (way o p.prices u b (f k)) → Scanning o p p'' u b f (k + 1)
scanning_more {o} {p} {p'} {p''} {u} {b} {f} {k} a v r = record {
  kept = record { prices = r.kept.prices ∙ v.kept.prices; nodes = r.kept.nodes ∙ v.kept.nodes; labels = r.kept.labels ∙ v.kept.labels; step = r.kept.step ∙ v.kept.step };
  falls = le_trans r.falls v.falls;
  covered = λ j h. by-same j k
      (λ e. subst (λ i. Near p'' (f i) (way o p.prices u b (f i))) (sym e) (⊎_elim (λ (s, q). near_after r (f k) q) (λ n. inl (omega (linear, n.far))) r.here))
      (λ d. near_after r (f j) (v.covered j (omega arith)));
  each = λ l. by-same l (f k)
      (λ e. subst (λ i. Same p p'' i ⊎ (may o u i × Nearer p p'' i (way o p.prices u b i))) (sym e) here)
      (λ d. let s = r.others l d in ⊎_elim (λ t. inl (joined t s)) (λ (m, n). inr (m, carried n s)) (v.each l));
}
  where
    joined : {l : ℕ} → Same p p' l → Same p' p'' l → Same p p'' l
    joined t s = record { far = s.far ∙ t.far; by = s.by ∙ t.by; waits = s.waits ∙ t.waits }

    carried : {l : ℕ} {z : ℤ} → Nearer p p' l z → Same p' p'' l → Nearer p p'' l z
    carried n s = record { less = n.less; far = s.far ∙ n.far; by = s.by ∙ n.by; waits = ⊎_elim (λ w. inl (s.waits ∙ w)) (λ h. inr (le_trans r.falls h)) n.waits }

    here : Same p p'' (f k) ⊎ (may o u (f k) × Nearer p p'' (f k) (way o p.prices u b (f k)))
    here = ⊎_elim
        (λ (s, q). ⊎_elim (λ t. inl (joined t s)) (λ (m, n). inr (m, carried n s)) (v.each (f k)))
        (λ n. ⊎_elim
        (λ t. inr (a, record { less = omega (linear, n.less, t.far); far = n.far; by = n.by ∙ v.kept.step; waits = n.waits }))
        (λ (m, t). absurd (omega (linear, n.less, t.far)))
        (v.each (f k)))
        r.here

-- all of them
pub scanning_all : {o : Offers} {p p' : Paths} {u : ℕ} {b : ℤ} {f : ℕ → ℕ} {k : ℕ} → Scanning o p p' u b f k → ((l : ℕ) → may o u l → (j : ℕ) × (j < k) × (f j ≡ l)) → Scanned o p p' u b
scanning_all {o} {p} {p'} {u} {b} v g = record {
  kept = v.kept;
  falls = v.falls;
  covered = λ l m. let (j, h, e) = g l m in subst (λ i. Near p' i (way o p.prices u b i)) e (v.covered j h);
  each = v.each;
}
