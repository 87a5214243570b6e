-- The labels from which steps went are raised, one after another.
-- Assumes nothing.
use mathlib.Core.Path.{◌≡◌, refl, sym, ap, ◌∙◌, subst}
use mathlib.Core.List.{List}
use Prim.Native.Nat.{ℕ, ◌+◌, ◌<◌}
use native.Mathlib.Omega.{arith}
use lib.IntN.{ℤ, pos, ◌+ℤ◌, ◌-ℤ◌}
use lib.ListN.{length, get_or, set, length-set}
use lib.Seq.{get_or-set_same, get_or-set_other}
use Rattle.assignment.proofs.Counts.{by-same}
use Rattle.placing.specs.declared.paths.Paths.{Paths}
use Rattle.placing.specs.Words.{entry}
use Rattle.placing.specs.Priced.{price}
use Rattle.placing.specs.Paths.{far_of, Raising, SamePaths, RaisedTo}

pub stays_self : (p : Paths) → SamePaths p p
stays_self p = record { far = refl; by = refl; labels = refl; nodes = refl; step = refl; home = refl; home_by = refl }

pub raised_none : (p : Paths) (z : ℤ) → length p.prices ≡ 64 → RaisedTo p p z 1
raised_none p z h = record {
  stays = stays_self p;
  size = h;
  raised = λ i h g. absurd (omega arith);
  others = λ l d. refl;
}

module _ {p p' : Paths} {z : ℤ} {i : ℕ} (r : Raising p z) (v : RaisedTo p p' z i) (some : 0 < i) (inside : i < p.step + 1) where
  -- the label's price is still what it was
  pub price_still : price p'.prices (entry p.labels i) ≡ price p.prices (entry p.labels i)
  price_still = v.others (entry p.labels i) (λ j h g e. r.once j i h g (omega arith) e)

  pub raised_more : {x : ℕ} {y : ℤ} → x ≡ entry p.labels i → y ≡ price p.prices (entry p.labels i) +ℤ (z -ℤ far_of p (entry p.labels i)) → {w : Paths} → w.prices ≡ set p'.prices x y → SamePaths p' w → RaisedTo p w z (i + 1)
  raised_more {x} {y} ex ey {w} ew s = record {
    stays = record {
      far = s.far ∙ v.stays.far;
      by = s.by ∙ v.stays.by;
      labels = s.labels ∙ v.stays.labels;
      nodes = s.nodes ∙ v.stays.nodes;
      step = s.step ∙ v.stays.step;
      home = s.home ∙ v.stays.home;
      home_by = s.home_by ∙ v.stays.home_by;
    };
    size = ap length ew ∙ length-set p'.prices x y ∙ v.size;
    raised = λ j h g. by-same j i
        (λ e. subst (λ k. price w.prices (entry p.labels k) ≡ price p.prices (entry p.labels k) +ℤ (z -ℤ far_of p (entry p.labels k))) (sym e) (here ∙ ey))
        (λ d. other (entry p.labels j) (r.once j i h (omega arith) (omega arith)) ∙ v.raised j h (omega arith));
    others = λ l d. other l (λ e. d i some (omega arith) (sym e)) ∙ v.others l (λ j h g. d j h (omega arith));
  }
    where
      small : entry p.labels i < 64
      small = r.small i some (omega arith)

      here : price w.prices (entry p.labels i) ≡ y
      here = ap (λ (t : List ℤ). get_or t (entry p.labels i) (pos 0)) ew ∙ ap (λ (k : ℕ). get_or (set p'.prices k y) (entry p.labels i) (pos 0)) ex ∙ get_or-set_same p'.prices (entry p.labels i) y (pos 0) (omega (arith, v.size))

      other : (l : ℕ) → (l ≡ entry p.labels i → ⊥) → price w.prices l ≡ price p'.prices l
      other l d = ap (λ (t : List ℤ). get_or t l (pos 0)) ew ∙ get_or-set_other p'.prices x l y (pos 0) (λ e. d (e ∙ ex))
