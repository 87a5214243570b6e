-- A node leaves its label for another, or stays: what the search then saw.
-- Assumes nothing.
use mathlib.Core.Path.{◌≡◌, refl, sym, ap, ◌∙◌}
use mathlib.Core.Bool.{Bool, true, false, not}
use mathlib.Core.List.{List}
use mathlib.Core.Logic.{◌⊎◌, inl, inr, ⊎_elim}
use Prim.Native.Nat.{ℕ, ◌+◌, ◌^◌, ◌≤◌, ◌<◌}
use native.Mathlib.Omega.{arith}
use borrow.Author.Tests.{eq-eqb, eqb-true}
use lib.Bits.{bit_or, bit_xor, or_lt, xor_lt}
use lib.Dec.{eqb}
use lib.ListN.{length, set}
use lib.Seq.{get_or-set_same, get_or-set_other}
use Rattle.integers.specs.Words.{bit}
use Rattle.integers.proofs.Words.{bit_small, bit_without, bit_own, bit_only, bit_kept, bit_dropped, bit_or_lem, power_fits}
use Rattle.integers.proofs.Places.{by-test, and_true, and_both, or_split, left_true, right_true}
use Rattle.assignment.proofs.Counts.{differ, by-same}
use Rattle.placing.specs.Words.{entry, flag, Linked, Joined, Aimed, Asked, Rooted, Passed, Below, Out, Spent, seen_by, Ended}
use Rattle.placing.proofs.Searching.{fails, or_fails, or_none_lem, seen_later, seen_begin}
use Rattle.placing.proofs.Linking.{free_held, none_free, linked_distinct, linked_word}

module _ {sets taken holders reach : List ℕ} {free x before mid : ℕ} (k : Linked sets taken holders reach free) (h : x < 64) (fit : before < 2 ^ 64) (j : Joined before (entry taken x) mid) where
  -- the labels that its search may not touch: its own too
  begun : (l : ℕ) → bit before l ≡ true → bit mid l ≡ true
  begun l e = j.1 l (bit_small before l fit e) ∙ left_true {a = bit before l} (eqb l (entry taken x)) e

  own_mid : entry taken x < 64 → bit mid (entry taken x) ≡ true
  own_mid s = j.1 (entry taken x) s ∙ right_true (bit before (entry taken x)) (eq-eqb (entry taken x) (entry taken x) refl)

  mid_cases : (l : ℕ) → bit mid l ≡ true → (bit before l ≡ true) ⊎ (l ≡ entry taken x)
  mid_cases l e = ⊎_elim (λ c. inl c) (λ c. inr (eqb-true l (entry taken x) c)) (or_split (bit before l) (eqb l (entry taken x)) (sym (j.1 l (bit_small mid l j.0 e)) ∙ e))

  abbrev start : ℕ
  start = bit_xor (bit_or (entry sets x) mid) mid

  start_is : (l : ℕ) → bit start l ≡ true → (bit (entry sets x) l ≡ true) × (bit mid l ≡ false)
  start_is l e = let (a, b) = and_true (bit (entry sets x) l) (not (bit mid l)) (sym (bit_without (entry sets x) mid l) ∙ e) in (a, fails (bit mid l) (λ c. differ b (ap not c)))

  away : entry (set taken x 255) x ≡ 255
  away = get_or-set_same taken x 255 0 (omega (arith, k.size_taken))

  elsewhere : (w : ℕ) → (w ≡ x → ⊥) → entry (set taken x 255) w ≡ entry taken w
  elsewhere w d = get_or-set_other taken x w 255 0 d

  pub reseat_asked : Asked sets (set taken x 255) start mid x
  reseat_asked = record { node = h; unplaced = omega (arith, away); labels = start_is }

  pub reseat_aimed : {own : List Bool} {goals : ℕ} → Aimed own taken goals before → Aimed own (set taken x 255) goals mid
  reseat_aimed {own} {goals} a = record {
    held = λ l s e f.
        let (v, g, q) = a.held l s e (fails (bit before l) (λ c. differ (begun l c) f)) in
        (v, g, elsewhere v (λ z. let y = ap (entry taken) z in differ (own_mid (omega arith)) (ap (bit mid) (sym y ∙ q) ∙ f)) ∙ q);
    loose = λ v g s e. let d : v ≡ x → ⊥ = (λ z. omega (arith, ap (entry (set taken x 255)) z, away)) in let y = elsewhere v d in a.loose v g (rw y at s) (rw y at e);
  }

  pub reseat_rooted : {own : List Bool} {met : ℕ} {taken' : List ℕ} → Rooted own (set taken x 255) start mid x met taken' → Rooted own (set taken x 255) (entry sets x) before x met taken'
  reseat_rooted {taken' = taken'} r = record {
    rooted = (start_is (entry taken' x) r.rooted).0;
    stays = λ w d. ⊎_elim (λ e. inl e) (λ (a, b, c). inr (a, fails (bit before (entry (set taken x 255) w)) (λ e. differ (begun (entry (set taken x 255) w) e) b), c)) (r.stays w d);
    kept = r.kept;
  }

  pub reseat_passed : {holders' reach' : List ℕ} {free' goals seen : ℕ} → Linked sets (set taken x 255) holders' reach' free' → Ended reach' goals start mid seen → Passed sets taken goals before x seen
  reseat_passed {reach' = reach'} {seen = seen} k' e = record {
    fit = e.exhausted.fit;
    more = λ l f. grows l (begun l f);
    apart = λ l s f d. ⊎_elim (λ c. ⊎_elim (λ b. absurd (differ b f)) (λ b. absurd (d b)) (mid_cases l c)) (λ c. e.exhausted.held l c) (cases l s);
    exits = λ v y g d s t f o. ⊎_elim
        (λ c. ⊎_elim (λ b. absurd (differ b f)) (λ b. absurd (d (linked_distinct k v x g h s b))) (mid_cases (entry taken v) c))
        (λ c. let q = elsewhere v d in e.exhausted.exits (entry taken v) y c (ap (λ (w : ℕ). bit w y) (ap (entry reach') (sym q) ∙ linked_word k' v g (omega arith)) ∙ o))
        (cases (entry taken v) t);
    all = λ y o. by-test (bit mid y) (λ c. grows y c)
        (λ c. e.exhausted.all y ∙ right_true (bit mid y) (seen_later start e.words 0 e.count y (omega arith) (seen_begin start e.words y ∙ bit_without (entry sets x) mid y ∙ and_both o (ap not c))));
  }
    where
      grows : (l : ℕ) → bit mid l ≡ true → bit seen l ≡ true
      grows l f = e.exhausted.all l ∙ left_true (seen_by start e.words e.count l) f

      cases : (l : ℕ) → bit seen l ≡ true → (bit mid l ≡ true) ⊎ (seen_by start e.words e.count l ≡ true)
      cases l f = or_split (bit mid l) (seen_by start e.words e.count l) (sym (e.exhausted.all l) ∙ f)

-- ---- a label is owed: one node after another tries to leave, so that in the end one takes that label

module _ {n : ℕ} {sets : List ℕ} {own : List Bool} {idle owed u closed : ℕ} {taken : List ℕ} (few : n ≤ 64) (inside : u < n) (small : owed < 64) (o : Out n own idle owed u taken) (under : Below closed u taken) where
  pub spent_none : {holders reach : List ℕ} {free : ℕ} → Linked sets taken holders reach free
      → Aimed own taken (2 ^ owed) (bit_or closed (bit_xor free (2 ^ owed))) × Spent sets taken idle owed u (u + 1) closed (bit_or closed (bit_xor free (2 ^ owed)))
  spent_none {free = free} k = (
    record {
      held = λ l h e f. let (a, b) = or_fails (bit closed l) (bit (bit_xor free (2 ^ owed)) l) (sym (bit_or_lem closed (bit_xor free (2 ^ owed)) l) ∙ f) in
          free_held k l h (sym (bit_kept free owed l (λ q. differ (ap (bit (2 ^ owed)) q ∙ bit_own owed) e)) ∙ b);
      loose = λ v h s e. absurd (o.gone v h s (bit_only owed (entry taken v) e));
    },
    record {
      fit = or_lt 64 closed (bit_xor free (2 ^ owed)) under.fit (xor_lt 64 free (2 ^ owed) k.fit_free (power_fits owed small));
      more = λ l e. bit_or_lem closed (bit_xor free (2 ^ owed)) l ∙ left_true (bit (bit_xor free (2 ^ owed)) l) e;
      apart = bit_or_lem closed (bit_xor free (2 ^ owed)) owed ∙ or_none_lem
          (fails (bit closed owed) (λ e. let (v, h, f) = under.only owed e in o.gone v (omega arith) (omega arith) f))
          (bit_dropped free owed (none_free k owed small (λ (v, h, f). o.gone v h (omega arith) f)));
      exits = λ v y g h s e _. ⊎_elim
          (λ c. let (w, a, f) = under.only (entry taken v) c in let z = linked_distinct k v w h (omega arith) s (sym f) in absurd (omega arith))
          (λ c. absurd (differ (sym (bit_kept free owed (entry taken v) (o.gone v h s)) ∙ c) (k.taker v h s).0))
          (or_split (bit closed (entry taken v)) (bit (bit_xor free (2 ^ owed)) (entry taken v)) (sym (bit_or_lem closed (bit_xor free (2 ^ owed)) (entry taken v)) ∙ e));
      shut = λ v y g h. absurd (omega arith);
    },
  )

  module _ {x seen : ℕ} (s : Spent sets taken idle owed u x closed seen) where
    -- x may not leave its label
    pub spent_past : entry taken x < 64 → bit idle (entry taken x) ≡ false → Spent sets taken idle owed u (x + 1) closed seen
    spent_past h e = record {
      fit = s.fit;
      more = s.more;
      apart = s.apart;
      exits = s.exits;
      shut = λ v y g l f. by-same v x (λ q. let z = ap (entry taken) q in absurd (differ (f (omega arith)) (ap (bit idle) z ∙ e))) (λ q. s.shut v y g (omega arith) f);
    }

    module _ (there : x < n) (a : Aimed own taken (2 ^ owed) seen) where
      -- it cannot
      pub spent_more : {seen' : ℕ} → Passed sets taken (2 ^ owed) seen x seen' → Aimed own taken (2 ^ owed) seen' × Spent sets taken idle owed u (x + 1) closed seen'
      spent_more {seen'} p = (
        record { held = λ l h e f. a.held l h e (fails (bit seen l) (λ c. differ (p.more l c) f)); loose = a.loose },
        record {
          fit = p.fit;
          more = λ l e. p.more l (s.more l e);
          apart = fails (bit seen' owed) (λ e. differ (bit_own owed) (p.apart owed e s.apart (λ q. o.gone x (omega arith) (omega arith) (sym q))));
          exits = λ v y g h l e f. by-same v x (λ q. p.all y (ap (λ (w : ℕ). bit (entry sets w) y) (sym q) ∙ f))
              (λ q. by-test (bit seen (entry taken v)) (λ c. p.more y (s.exits v y g h l c f)) (λ c. p.exits v y h q l e c f));
          shut = λ v y g l c f. by-same v x (λ q. p.all y (ap (λ (w : ℕ). bit (entry sets w) y) (sym q) ∙ f)) (λ q. p.more y (s.shut v y g (omega arith) c f));
        },
      )

      -- it does, and in the end the label owed is taken
      module _ {met : ℕ} {taken' : List ℕ} (long : length taken ≡ 64) (fit : entry sets x < 2 ^ 64) (above : u < x) (leaves : entry taken x < 64 → bit idle (entry taken x) ≡ true)
          (meets : bit (2 ^ owed) met ≡ true) (r : Rooted own (set taken x 255) (entry sets x) seen x met taken') where
        still : (w : ℕ) → (w ≡ x → ⊥) → entry (set taken x 255) w ≡ entry taken w
        still w d = get_or-set_other taken x w 255 0 d

        -- a node but x stays, or left its label
        moved : {P : Type 0} (w : ℕ) → (w ≡ x → ⊥) → (entry taken' w ≡ entry taken w → P)
            → (entry taken w < 64 → bit seen (entry taken w) ≡ false → (entry taken' w < 64) ⊎ ((entry taken' w ≡ 255) × (flag own w ≡ true)) → P) → P
        moved w d f g = let q = still w d in ⊎_elim (λ e. f (e ∙ q)) (λ (a, b, c). g (rw q at a) (rw q at b) c) (r.stays w d)

        pub spent_left : Out n own idle 255 u taken' × ((w : ℕ) → w < u → entry taken' w ≡ entry taken w)
        spent_left = (
          record {
            none = moved u (λ q. omega arith) (λ e. e ∙ o.none) (λ h _ _. absurd (omega (arith, o.none)));
            seat = λ w h d l. by-same w x
                (λ q. let z = ap (entry taken') q in absurd (let y = bit_small (entry sets x) (entry taken' x) fit r.rooted in omega arith))
                (λ q. moved w q (λ e. rw e (o.seat w h d (rw e at l))) (λ _ _ c. ⊎_elim (λ f. absurd (omega arith)) (λ f. f) c));
            later = λ w h l. let e = o.later w h l in moved w (λ q. omega arith) (λ f. f ∙ e) (λ f _ _. absurd (omega arith));
            filled = λ l h e _. r.kept l h (by-same l owed
                (λ q. inr (q ∙ sym (bit_only owed met meets)))
                (λ q. let (v, g, f) = o.filled l h e q in inl (v, g, still v (λ z. let y = sym (ap (entry taken) z) ∙ f in differ (leaves (omega arith)) (ap (bit idle) y ∙ e)) ∙ f)));
            gone = λ v h l e. omega arith;
          },
          λ w h. moved w (λ q. omega arith) (λ e. e) (λ l e _. absurd (differ (s.more (entry taken w) (under.shut w h l)) e)),
        )
