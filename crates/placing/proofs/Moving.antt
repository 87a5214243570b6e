-- The label met becomes free, and nodes move along the trail, from that label back to the root.
-- Assumes nothing.
use mathlib.Core.Path.{◌≡◌, refl, sym, ap, ◌∙◌, subst}
use mathlib.Core.Bool.{Bool, true, false, ◌||◌}
use mathlib.Core.List.{List}
use mathlib.Core.Logic.{◌⊎◌, inl, inr, ⊎_elim}
use Prim.Native.Nat.{ℕ, zero, suc, ◌-◌, ◌^◌, ◌≤◌, ◌<◌}
use native.Mathlib.Omega.{arith}
use borrow.Author.Tests.{ne_eqb, eq-eqb}
use Rattle.std.proofs.lemmas.List.{set-set}
use lib.Bits.{bit_xor}
use lib.Dec.{eqb}
use lib.ListN.{length, set}
use lib.Seq.{get_or-set_same, get_or-set_other}
use Rattle.integers.specs.Words.{bit}
use Rattle.integers.proofs.Places.{or_split, left_true, right_true}
use Rattle.integers.proofs.Words.{bit_dropped, bit_kept}
use Rattle.assignment.proofs.Counts.{differ, by-same}
use Rattle.placing.specs.Words.{entry, seen_by, Trail, Met, Joined, Linked, Asked, Aimed, Rooted, Vacated}
use Rattle.placing.proofs.Linking.{free_held, held_taken}
use Rattle.placing.proofs.Searching.{seen_later, seen_outside, or_none_lem}

-- ---- labels seen

pub seen_step : (start : ℕ) (words : List ℕ) (i l : ℕ) → 0 < i → seen_by start words i l ≡ (seen_by start words (i - 1) l || bit (entry words (i - 1)) l)
unfolding seen_by
seen_step start words zero l h = absurd (omega arith)
seen_step start words (suc i) l h = let e : suc i - 1 ≡ i = omega arith in rw e refl

module _ {reach : List ℕ} {free start before : ℕ} {by words : List ℕ} {count : ℕ} (t : Trail reach free start before by words count) where
  pub seen_small : (s l : ℕ) → s ≤ count → seen_by start words s l ≡ true → l < 64
  seen_small s l h e = t.small l (seen_later start words s count l h e)

-- ---- one move after another

-- nodes but the root stay where they are, unless they took a label that is none of `before`
abbrev Shifts : ℕ → ℕ → List ℕ → List ℕ → Type 0
Shifts before root taken taken' = (w : ℕ) → (w ≡ root → ⊥) → (entry taken' w ≡ entry taken w) ⊎ ((entry taken w < 64) × (bit before (entry taken w) ≡ false) × (entry taken' w < 64))

-- The label l, found in the first i steps, is free now; no other label is that was not at the start, nor the one that was met.
pub record Moving (sets taken reach : List ℕ) (free start before : ℕ) (by words : List ℕ) (count label root : ℕ) (taken' holders' reach' : List ℕ) (free' l i : ℕ) : Type 0 where
  pub within : i ≤ count
  pub found : seen_by start words i l ≡ true
  pub apart : (t : ℕ) → t < i → entry by t ≡ l → ⊥
  pub same : (t : ℕ) → t < i → entry reach' (entry by t) ≡ entry reach (entry by t)
  pub stays : Shifts before root taken taken'
  pub unplaced : 64 ≤ entry taken' root
  pub linked : Linked sets taken' holders' reach' free'
  pub here : bit free' l ≡ true
  pub held : (x : ℕ) → x < 64 → (bit free x ≡ false) ⊎ (x ≡ label) → (x ≡ l → ⊥) → bit free' x ≡ false

module _ {sets taken reach : List ℕ} {free start before : ℕ} {by words : List ℕ} {count label root : ℕ} (a : Asked sets taken start before root) (m : Met reach free start before by words count label) where
  module _ {taken' holders' reach' : List ℕ} {free' l i : ℕ} (v : Moving sets taken reach free start before by words count label root taken' holders' reach' free' l i) where
    pub moving_small : l < 64
    moving_small = seen_small m.trail i l v.within v.found

    -- the label was not found in the last of the steps
    pub moving_past : 0 < i → bit (entry words (i - 1)) l ≡ false → Moving sets taken reach free start before by words count label root taken' holders' reach' free' l (i - 1)
    moving_past h e = record {
      within = omega (arith, v.within);
      found = ⊎_elim (λ q. q) (λ q. absurd (differ q e)) (or_split (seen_by start words (i - 1) l) (bit (entry words (i - 1)) l) (sym (seen_step start words i l h) ∙ v.found));
      apart = λ t k. v.apart t (omega arith);
      same = λ t k. v.same t (omega arith);
      stays = v.stays;
      unplaced = v.unplaced;
      linked = v.linked;
      here = v.here;
      held = v.held;
    }

    -- it was: h', the holder of the label `from` by which it was found, takes it
    module _ (h : 0 < i) (e : bit (entry words (i - 1)) l ≡ true) where
      abbrev s : ℕ
      s = i - 1

      abbrev from : ℕ
      from = entry by s

      step : s < count
      step = omega (arith, v.within)

      begun_from : (seen_by start words s from ≡ true) × (bit free from ≡ false)
      begun_from = m.trail.from s step

      pub from_small : from < 64
      from_small = seen_small m.trail s from (omega arith) begun_from.0

      other : from ≡ l → ⊥
      other = v.apart s (omega arith)

      module _ {h' : ℕ} (holds : h' ≡ entry holders' from) where
        holder : (h' < 64) × (entry taken' h' ≡ from) × (entry reach' from ≡ entry sets h')
        holder = subst (λ x. (x < 64) × (entry taken' x ≡ from) × (entry reach' from ≡ entry sets x)) (sym holds) (v.linked.held from from_small (v.held from from_small (inl begun_from.1) other))

        pub holder_few : h' < 64
        holder_few = holder.0

        pub left_unplaced : {t : List ℕ} → t ≡ set taken' h' 255 → 64 ≤ entry t h'
        left_unplaced {t} q = let z = get_or-set_same taken' h' 255 0 (omega (arith, holder_few, v.linked.size_taken)) in omega (arith, ap (λ (x : List ℕ). entry x h') q)

        pub holder_has : bit (entry sets h') l ≡ true
        holder_has = ap (λ (w : ℕ). bit w l) (sym holder.2 ∙ v.same s (omega arith)) ∙ (m.trail.leads s l step e).0

        not_root : root ≡ h' → ⊥
        not_root q = omega (arith, ap (entry taken') q, holder.1, from_small, v.unplaced)

        -- the word that is free once the holder has left its label
        module _ {mid : ℕ} (joined : Joined free' (entry taken' h') mid) where
          mid_is : (x : ℕ) → x < 64 → bit mid x ≡ (bit free' x || eqb x from)
          mid_is x g = joined.1 x g ∙ ap (λ (y : ℕ). bit free' x || eqb x y) holder.1

          pub still_free : bit mid l ≡ true
          still_free = mid_is l moving_small ∙ left_true (eqb l from) v.here

          pub moving_more : {taken'' holders'' reach'' : List ℕ} {free'' : ℕ} → taken'' ≡ set (set taken' h' 255) h' l → reach'' ≡ set reach' l (entry sets h') → free'' ≡ bit_xor mid (2 ^ l)
              → Linked sets taken'' holders'' reach'' free'' → Moving sets taken reach free start before by words count label root taken'' holders'' reach'' free'' from (i - 1)
          moving_more {taken''} {holders''} {reach''} {free''} et er ef k = record {
            within = omega (arith, v.within);
            found = begun_from.0;
            apart = λ t g. m.trail.once t s g step;
            same = λ t g. ap (λ (r : List ℕ). entry r (entry by t)) er ∙ get_or-set_other reach' l (entry by t) (entry sets h') 0 (v.apart t (omega arith)) ∙ v.same t (omega arith);
            stays = λ w d. by-same w h'
                (λ q. let g : entry taken'' w < 64 = rw (q, at) moving_small in
                ⊎_elim (λ z. let f : entry taken w ≡ from = sym z ∙ ap (entry taken') q ∙ holder.1 in inr (rw f from_small, rw f (seen_outside m.trail s from (omega arith) begun_from.0), g))
                (λ (x, y, z). inr (x, y, g)) (v.stays w d))
                (λ q. let o = elsewhere w q in ⊎_elim (λ z. inl (o ∙ z)) (λ (x, y, z). inr (x, y, rw o z)) (v.stays w d));
            unplaced = rw (elsewhere root not_root) v.unplaced;
            linked = k;
            here = ap (λ (w : ℕ). bit w from) ef ∙ bit_kept mid l from other ∙ mid_is from from_small ∙ right_true (bit free' from) (eq-eqb from from refl);
            held = λ x g f d. ap (λ (w : ℕ). bit w x) ef ∙ by-same x l
                (λ q. ap (bit (bit_xor mid (2 ^ l))) q ∙ bit_dropped mid l still_free)
                (λ q. bit_kept mid l x q ∙ mid_is x g ∙ or_none_lem (v.held x g f q) (ne_eqb x from d));
          }
            where
              once : taken'' ≡ set taken' h' l
              once = et ∙ set-set taken' h' 255 l

              at : entry taken'' h' ≡ l
              at = ap (λ (t : List ℕ). entry t h') once ∙ get_or-set_same taken' h' l 0 (omega (arith, holder_few, v.linked.size_taken))

              elsewhere : (w : ℕ) → (w ≡ h' → ⊥) → entry taken'' w ≡ entry taken' w
              elsewhere w d = ap (λ (t : List ℕ). entry t w) once ∙ get_or-set_other taken' h' w l 0 d

    -- no step is left: the label is one of those from which the search began, and the root takes it
    module _ (z : i ≡ 0) where
      begun : bit start l ≡ true
      unfolding seen_by
      begun = subst (λ j. seen_by start words j l ≡ true) z v.found

      pub root_has : bit (entry sets root) l ≡ true
      root_has = (a.labels l begun).0

      pub moving_done : {own : List Bool} {holders : List ℕ} → Linked sets taken holders reach free → {taken'' : List ℕ} → taken'' ≡ set taken' root l → Rooted own taken start before root label taken''
      moving_done {own} k {taken''} e = subst (Rooted own taken start before root label) (sym e) (record {
        rooted = rw at begun;
        stays = λ w d. let o = elsewhere w d in ⊎_elim (λ q. inl (o ∙ q)) (λ (x, y, q). inr (x, y, inl (rw o q))) (v.stays w d);
        kept = λ x g q. by-same x l
            (λ y. (root, a.node, at ∙ sym y))
            (λ y. let (b, c, f) = v.linked.held x g (v.held x g (⊎_elim (λ (w, small, z). inl (ap (bit free) (sym z) ∙ (k.taker w small (omega arith)).0)) (λ z. inr z) q) y) in
            (entry holders' x, b, elsewhere (entry holders' x) (λ z. let n = ap (entry taken') z in omega (arith, v.unplaced)) ∙ c));
      })
        where
          at : entry (set taken' root l) root ≡ l
          at = get_or-set_same taken' root l 0 (omega (arith, a.node, v.linked.size_taken))

          elsewhere : (w : ℕ) → (w ≡ root → ⊥) → entry (set taken' root l) w ≡ entry taken' w
          elsewhere w d = get_or-set_other taken' root w l 0 d

-- ---- the label met is free, or its holder leaves it

-- all free labels are goals, and no others
pub aimed_free : {sets taken holders reach : List ℕ} {free : ℕ} → Linked sets taken holders reach free → (own : List Bool) (before : ℕ) → Aimed own taken free before
aimed_free k own before = record {
  held = λ l h e _. free_held k l h e;
  loose = λ v h s e. absurd (differ e (k.taker v h s).0);
}

module _ {sets : List ℕ} {own : List Bool} {taken : List ℕ} {free start before goals root l : ℕ} {taken' : List ℕ} {free' : ℕ}
    (a : Asked sets taken start before root) (aim : Aimed own taken goals before) (meets : bit goals l ≡ true) (outside : bit before l ≡ false) (small : l < 64) (v : Vacated taken free l taken' free') where
  pub vacated_asked : Asked sets taken' start before root
  vacated_asked = record { node = a.node; unplaced = ⊎_elim (λ q. let u = a.unplaced in omega arith) (λ (x, y, z). omega arith) (v.left root); labels = a.labels }

  pub vacated_free : bit free' l ≡ true
  vacated_free = v.joined.1 l small ∙ right_true (bit free l) (eq-eqb l l refl)

  -- a label on the trail is none of the goals, and so is still taken
  pub vacated_met : {holders reach by words : List ℕ} {count : ℕ} → Linked sets taken holders reach free → Met reach goals start before by words count l → Met reach free' start before by words count l
  vacated_met {by = by} {words} {count} k m = record {
    trail = record {
      few = m.trail.few;
      size_by = m.trail.size_by;
      size_words = m.trail.size_words;
      small = m.trail.small;
      begins = m.trail.begins;
      from = λ t h. let (s, e) = m.trail.from t h in
          let g = seen_small m.trail t (entry by t) (omega (arith, m.trail.few)) s in (
            s,
            v.joined.1 (entry by t) g ∙ or_none_lem (held_taken k (entry by t) g (aim.held (entry by t) g e (seen_outside m.trail t (entry by t) (omega arith) s)))
                (ne_eqb (entry by t) l (λ q. differ meets (ap (bit goals) (sym q) ∙ e))),
          );
      once = m.trail.once;
      leads = m.trail.leads;
    };
    met = m.met;
    free_label = vacated_free;
  }

  pub vacated_rooted : length taken ≡ 64 → {taken'' : List ℕ} → Rooted own taken' start before root l taken'' → Rooted own taken start before root l taken''
  vacated_rooted long {taken''} r = record {
    rooted = r.rooted;
    stays = λ w d. ⊎_elim
        (λ q. ⊎_elim (λ z. inl (z ∙ q)) (λ (x, y, z). inr (rw q at x, rw q at y, z)) (r.stays w d))
        (λ (x, y, z). ⊎_elim (λ q. inr (rw y small, rw y outside, inr (q ∙ z, aim.loose w x (rw y small) (rw y meets)))) (λ (b, c, e). absurd (omega arith)) (r.stays w d))
        (v.left w);
    kept = λ x h q. r.kept x h (⊎_elim (λ (w, g, e). ⊎_elim (λ f. inl (w, g, f ∙ e)) (λ (b, c, f). inr (sym e ∙ c)) (v.left w)) (λ e. inr e) q);
  }
