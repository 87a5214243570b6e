-- One node takes its lowest label with which all can be placed, and then the next.
-- Assumes nothing.
use mathlib.Core.Path.{◌≡◌, refl, sym, ap, ◌∙◌, subst}
use mathlib.Core.Bool.{Bool, true, false, not, ◌&&◌, ◌||◌, and-false, and-true as and-alone}
use mathlib.Core.List.{List}
use mathlib.Core.Logic.{◌⊎◌, inl, inr, ⊎_elim}
use Prim.Native.Nat.{ℕ, ◌+◌, ◌^◌, ◌≤◌, ◌<◌}
use native.Mathlib.Omega.{arith}
use borrow.Author.Tests.{eq-eqb, eqb-true, ltb-true, ltb-false}
use lib.Bits.{bit_or, bit_xor}
use lib.Count.{count_trailing_zeros, trailing_of_zero}
use lib.Dec.{eqb, ltb, lit<}
use lib.ListN.{set}
use lib.Seq.{get_or-set_same, get_or-set_other}
use Rattle.integers.specs.Words.{bit}
use Rattle.integers.proofs.Places.{by-test, or_split, and_true, and_both, left_true, right_true}
use Rattle.integers.proofs.Words.{bit_small, bit_zero, bit_own, bit_only, bit_or_lem, bit_without, lowest, without_fits}
use Rattle.assignment.specs.First.{Agree, First, None}
use Rattle.assignment.proofs.Counts.{differ, by-same}
use Rattle.assignment.proofs.Firsts.{settled_none, settled_more, settled_first}
use Rattle.placing.specs.Words.{entry, flag, Full, Linked, Seated, Holds, Aimed, Asked, Rooted, seen_by, Ended, Below, Filled, Lowered, Lowest, Out, Barren, Spent, Tried}
use Rattle.placing.proofs.Searching.{fails, or_fails, seen_later, seen_begin}
use Rattle.placing.proofs.Slots.{opens_kinds, opens-bit}
use Rattle.placing.proofs.Linking.{free_held, linked_distinct}
use Rattle.placing.proofs.Holding.{linked_all}
use Rattle.placing.proofs.Taking.{Least, least_below}
use Rattle.placing.proofs.Barring.{label_once, barren_none, barren_more, open_barred, owed_barred}

-- ---- the labels of u from the lowest on: those of `seen` are barren, those of `rest` are left

pub record Trying (sets taken : List ℕ) (goals before u seen rest : ℕ) : Type 0 where
  pub barren : Barren sets taken goals before seen
  pub fit_rest : rest < 2 ^ 64
  pub left : (l : ℕ) → bit rest l ≡ (bit (entry sets u) l && not (bit seen l))

pub trying_none : {sets taken : List ℕ} {goals before : ℕ} (u : ℕ) → entry sets u < 2 ^ 64 → before < 2 ^ 64 → Trying sets taken goals before u before (bit_xor (bit_or (entry sets u) before) before)
trying_none {sets} {taken} {goals} {before} u h f = record {
  barren = barren_none sets taken goals f;
  fit_rest = without_fits (entry sets u) before h f;
  left = bit_without (entry sets u) before;
}

module _ {sets taken : List ℕ} {goals before u seen rest : ℕ} (t : Trying sets taken goals before u seen rest) where
  -- a label of the rest is u's, and was not seen
  pub trying_label : (l : ℕ) → bit rest l ≡ true → (bit (entry sets u) l ≡ true) × (bit seen l ≡ false)
  trying_label l e = let (a, b) = and_true (bit (entry sets u) l) (not (bit seen l)) (sym (t.left l) ∙ e) in (a, by-test (bit seen l) (λ s. absurd (differ b (ap not s))) (λ s. s))

  -- a label below those that are left was seen
  trying_seen : (bound : ℕ) → ((x : ℕ) → bit rest x ≡ true → bound ≤ x) → (x : ℕ) → bit (entry sets u) x ≡ true → x < bound → bit seen x ≡ true
  trying_seen bound least x e h = by-test (bit seen x) (λ s. s) (λ s. let y = least x (t.left x ∙ and_both e (ap not s)) in absurd (omega arith))

  pub trying_asked : (l : ℕ) → u < 64 → 64 ≤ entry taken u → bit rest l ≡ true → Asked sets taken (2 ^ l) seen u
  trying_asked l h n e = record { node = h; unplaced = n; labels = λ x f. trying_label x (ap (bit rest) (bit_only l x f) ∙ e) }

  pub trying_aimed : {own : List Bool} → Aimed own taken goals before → Aimed own taken goals seen
  trying_aimed a = record { held = λ l h e f. a.held l h e (fails (bit before l) (λ c. differ (t.barren.more l c) f)); loose = a.loose }

  -- no label is left
  pub tried_none : {own : List Bool} {taken' : List ℕ} → entry sets u < 2 ^ 64 → rest ≡ 0 → taken' ≡ taken → Tried sets own taken goals before u taken'
  tried_none {own} {taken'} w z e = record {
    seen = seen;
    barren = t.barren;
    lower = λ x f _. trying_seen 64 (λ y g. absurd (differ g (ap (λ (r : ℕ). bit r y) z ∙ bit_zero y))) x f (bit_small (entry sets u) x w f);
    outcome = inl e;
  }

  -- u takes the lowest that is left
  pub tried_one : {own : List Bool} {l met : ℕ} {taken' : List ℕ} → Least rest l → bit goals met ≡ true → Rooted own taken (2 ^ l) seen u met taken' → Tried sets own taken goals before u taken'
  tried_one {own} {l} {met} {taken'} h g r = record {
    seen = seen;
    barren = t.barren;
    lower = λ x f k. trying_seen l (least_below rest l h) x f (omega (arith, at));
    outcome = inr (met, g, record { rooted = ap (bit (entry sets u)) at ∙ (trying_label l h.1).0; stays = r.stays; kept = r.kept });
  }
    where
      at : entry taken' u ≡ l
      at = bit_only l (entry taken' u) r.rooted

  module _ {start seen' : ℕ} {reach : List ℕ} (e : Ended reach goals start seen seen') where
    grows : (l : ℕ) → bit seen l ≡ true → bit seen' l ≡ true
    grows l b = e.exhausted.all l ∙ left_true (seen_by start e.words e.count l) b

    -- the next turn
    pub trying_more : {holders : List ℕ} {free : ℕ} → Linked sets taken holders reach free → Trying sets taken goals before u seen' (bit_xor (bit_or rest seen') seen')
    trying_more k = record {
      barren = barren_more k t.barren e;
      fit_rest = without_fits rest seen' t.fit_rest e.exhausted.fit;
      left = λ l. bit_without rest seen' l ∙ by-test (bit seen' l)
          (λ b. rw b (and-false (bit rest l) ∙ sym (and-false (bit (entry sets u) l))))
          (λ b. ap (λ (x : Bool). x && not (bit seen' l)) (t.left l ∙ ap (λ (x : Bool). bit (entry sets u) l && not x) (fails (bit seen l) (λ c. differ (grows l c) b)) ∙ and-alone (bit (entry sets u) l)));
    }

  -- the lowest of the labels left rises: the search saw the one from which it began
  pub trying_less : {l seen' : ℕ} {reach : List ℕ} → l ≡ count_trailing_zeros 64 rest → (rest ≡ 0 → ⊥) → Ended reach goals (2 ^ l) seen seen' → count_trailing_zeros 64 rest < count_trailing_zeros 64 (bit_xor (bit_or rest seen') seen')
  trying_less {l} {seen'} q z e = by-same rest' 0
      (λ y. rw (y, trailing_of_zero 64) low.0)
      (λ y. let (a, b, c) = lowest rest' (without_fits rest seen' t.fit_rest e.exhausted.fit) y in
      let (i, o) = and_true (bit rest (count_trailing_zeros 64 rest')) (not (bit seen' (count_trailing_zeros 64 rest'))) (sym (bit_without rest seen' (count_trailing_zeros 64 rest')) ∙ b) in
      by-test (ltb (count_trailing_zeros 64 rest) (count_trailing_zeros 64 rest')) (ltb-true (count_trailing_zeros 64 rest) (count_trailing_zeros 64 rest'))
      (λ g. let h = ltb-false (count_trailing_zeros 64 rest) (count_trailing_zeros 64 rest') g in by-same (count_trailing_zeros 64 rest') (count_trailing_zeros 64 rest)
      (λ s. absurd (differ o (ap not (ap (bit seen') s ∙ began))))
      (λ s. absurd (differ i (low.2 (count_trailing_zeros 64 rest') (omega arith))))))
    where
      rest' : ℕ
      rest' = bit_xor (bit_or rest seen') seen'

      low : (count_trailing_zeros 64 rest < 64) × (bit rest (count_trailing_zeros 64 rest) ≡ true) × ((x : ℕ) → x < count_trailing_zeros 64 rest → bit rest x ≡ false)
      low = lowest rest t.fit_rest z

      began : bit seen' (count_trailing_zeros 64 rest) ≡ true
      began = e.exhausted.all (count_trailing_zeros 64 rest) ∙ right_true (bit seen (count_trailing_zeros 64 rest)) (seen_later (2 ^ l) e.words 0 e.count (count_trailing_zeros 64 rest) (omega arith)
          (seen_begin (2 ^ l) e.words (count_trailing_zeros 64 rest) ∙ ap (bit (2 ^ l)) (sym q) ∙ bit_own l))

-- ---- one node

full_of : {n : ℕ} {sets : List ℕ} {own : List Bool} (idle : ℕ) {since : ℕ} {taken holders reach : List ℕ} {free : ℕ} → Linked sets taken holders reach free → n ≤ 64 → Seated own since n taken → Filled idle taken → Full n sets own idle (entry taken)
full_of {n} {own = own} idle {taken = taken} k few s f = (
  linked_all own k few s,
  λ l h e. let (v, g, q) = f l h e in (v, by-test (ltb v n) (ltb-true v n) (λ z. absurd (omega (arith, s.later v (ltb-false v n z) g))), q),
)

module _ {n : ℕ} {sets : List ℕ} {own : List Bool} {idle : ℕ} {taken holders reach : List ℕ} {free closed u : ℕ} (k : Linked sets taken holders reach free) (v : Lowered n sets own idle taken closed u) (below : u < n) where
  -- as all are seated now
  pub lowered_full : Full n sets own idle (entry taken)
  lowered_full = full_of idle k v.few v.seated v.filled

  -- u has no lower label than its own that is not taken by a node below it
  pub lowest_stays : ((x : ℕ) → bit (bit_xor (bit_or (entry sets u) closed) closed) x ≡ true → entry taken u ≤ x) → Lowest n sets own idle taken u taken
  lowest_stays least = record {
    seated = v.seated;
    filled = v.filled;
    settled = settled_more (Full n sets own idle) v.settled (λ w g. refl) none;
    same = λ w g. refl;
  }
    where
      none : None (Full n sets own idle) (entry taken) u (entry taken u)
      none q p agree l = ⊎_elim
          (λ g. let y = least (q u) (bit_without (entry sets u) closed (q u) ∙ and_both (sym (opens-bit sets own u (q u) g) ∙ p.0.allowed u below) (ap not (unused g))) in omega arith)
          (λ g. by-test (ltb (entry taken u) 64) (λ e. let y = ltb-true (entry taken u) 64 e in omega arith) (λ e. let y = (v.seated.seat u below (ltb-false (entry taken u) 64 e)).0 in omega arith))
          (opens_kinds sets own u (q u) (p.0.allowed u below))
        where
          unused : q u < 64 → bit closed (q u) ≡ false
          unused g = fails (bit closed (q u)) (λ e. let (w, h, f) = v.under.only (q u) e in let y = label_once n sets own p.0 w u (omega arith) below g (sym (agree w h) ∙ f) in omega arith)

  -- Others may have moved since u left its label. It took the lowest from which a goal was met, or none: no placing gives it a label seen.
  module _ {taken1 taken' : List ℕ} {goals before owed : ℕ} (out : Out n own idle owed u taken1) (agree1 : (w : ℕ) → w < u → entry taken1 w ≡ entry taken w)
      (more : (l : ℕ) → bit closed l ≡ true → bit before l ≡ true) (t : Tried sets own taken1 goals before u taken')
      (barred : (q : ℕ → ℕ) → Full n sets own idle q → Agree u (entry taken1) q → bit t.seen (q u) ≡ true → ⊥)
      (meets : (l : ℕ) → l < 64 → bit idle l ≡ false → (met : ℕ) → bit goals met ≡ true → Holds taken1 l ⊎ (l ≡ met))
      (whole : 64 ≤ entry taken u → Filled idle taken1) where
    agrees : {q : ℕ → ℕ} → Agree u (entry taken) q → Agree u (entry taken1) q
    agrees a w h = agree1 w h ∙ a w h

    none : None (Full n sets own idle) (entry taken) u (entry taken' u)
    none q p agree l = ⊎_elim
        (λ g. barred q p (agrees agree) (t.lower (q u) (sym (opens-bit sets own u (q u) g) ∙ p.0.allowed u below) l))
        (λ g. let y = most in omega arith)
        (opens_kinds sets own u (q u) (p.0.allowed u below))
      where
        most : entry taken' u ≤ 255
        most = ⊎_elim (λ e. let y = ap (λ (s : List ℕ). entry s u) e in omega (arith, out.none)) (λ (met, _, r). let y = bit_small (entry sets u) (entry taken' u) (k.fit_sets u) r.rooted in omega arith) t.outcome

    -- it took none: 255 is its own, as no search barred the label that it had
    vanished : taken' ≡ taken1 → 64 ≤ entry taken u
    vanished e = by-test (ltb (entry taken u) 64)
        (λ c. let l = ltb-true (entry taken u) 64 c in let y = ap (λ (s : List ℕ). entry s u) e in
        absurd (barred (entry taken) lowered_full (λ w h. agree1 w h) (t.lower (entry taken u) (k.inside u (omega (arith, v.few)) l) (omega (arith, out.none)))))
        (λ c. ltb-false (entry taken u) 64 c)

    pub lowest_tried : Lowest n sets own idle taken u taken'
    lowest_tried = ⊎_elim
        (λ e. let z = vanished e in let s = v.seated.seat u below z in subst (Lowest n sets own idle taken u) (sym e) (record {
          seated = record { seat = λ w h b. by-same w u (λ q. rw q (out.none, s.1)) (λ q. out.seat w h q b); later = out.later; vacant = λ w a b. absurd (omega arith) };
          filled = whole z;
          settled = settled_more (Full n sets own idle) v.settled (λ w g. sym (agree1 w g)) (subst (λ (r : List ℕ). None (Full n sets own idle) (entry taken) u (entry r u)) e none);
          same = agree1;
        }))
        (λ (met, g, r).
        let small = bit_small (entry sets u) (entry taken' u) (k.fit_sets u) r.rooted in
        let same : (w : ℕ) → w < u → entry taken' w ≡ entry taken w = (λ w h. ⊎_elim (λ e. e ∙ agree1 w h)
        (λ (a, b, _). let q = agree1 w h in absurd (differ (t.barren.more (entry taken1 w) (more (entry taken1 w) (ap (bit closed) q ∙ v.under.shut w h (omega arith)))) b)) (r.stays w (λ z. omega arith))) in
        record {
          seated = record {
            seat = λ w h b. by-same w u (λ q. absurd (omega (arith, ap (entry taken') q))) (λ q. ⊎_elim (λ e. rw e (out.seat w h q (rw e at b))) (λ (x, y, z). ⊎_elim (λ f. absurd (omega arith)) (λ f. f) z) (r.stays w q));
            later = λ w h b. let f = out.later w h b in ⊎_elim (λ e. e ∙ f) (λ (x, y, z). absurd (omega arith)) (r.stays w (λ q. omega arith));
            vacant = λ w a b. absurd (omega arith);
          };
          filled = λ l h e. r.kept l h (meets l h e met g);
          settled = settled_more (Full n sets own idle) v.settled (λ w h. sym (same w h)) none;
          same = same;
        })
        t.outcome

  -- ---- u has left its label

  away : entry (set taken u 255) u ≡ 255
  away = get_or-set_same taken u 255 0 (omega (arith, k.size_taken, v.few))

  elsewhere : (w : ℕ) → (w ≡ u → ⊥) → entry (set taken u 255) w ≡ entry taken w
  elsewhere w d = get_or-set_other taken u w 255 0 d

  pub left_same : (w : ℕ) → w < u → entry (set taken u 255) w ≡ entry taken w
  left_same w h = elsewhere w (λ q. omega arith)

  pub left_out : Out n own idle (entry taken u) u (set taken u 255)
  left_out = record {
    none = away;
    seat = λ w h d l. let q = elsewhere w d in rw q (v.seated.seat w h (rw q at l));
    later = λ w h l. elsewhere w (λ q. omega arith) ∙ v.seated.later w h l;
    filled = λ l h e d. let (w, g, f) = v.filled l h e in (w, g, elsewhere w (λ q. d (sym f ∙ ap (entry taken) q)) ∙ f);
    gone = λ w h l e. by-same w u (λ q. omega (arith, ap (entry (set taken u 255)) q, away)) (λ q. q (linked_distinct k w u h (omega (arith, v.few)) (omega (arith, elsewhere w q)) (sym (elsewhere w q) ∙ e)));
  }

  module _ {taken1 holders1 reach1 : List ℕ} {free1 : ℕ} (k1 : Linked sets taken1 holders1 reach1 free1) (agree1 : (w : ℕ) → w < u → entry taken1 w ≡ entry taken w) where
    pub under_same : Below closed u taken1
    under_same = record {
      fit = v.under.fit;
      shut = λ w h l. let q = agree1 w h in ap (bit closed) q ∙ v.under.shut w h (omega arith);
      only = λ l e. let (w, h, f) = v.under.only l e in (w, h, agree1 w h ∙ f);
    }

    -- all labels that are not of `idle` are taken by others
    pub lowest_open : (word : ℕ) {taken' : List ℕ} → Out n own idle 255 u taken1 → ((w : ℕ) → u < w → w < n → flag own w ≡ true → entry taken1 w < 64 → bit word (entry taken1 w) ≡ true)
        → Tried sets own taken1 (bit_or free1 word) closed u taken' → Lowest n sets own idle taken u taken'
    lowest_open word out all t =
        let filled : Filled idle taken1 = (λ l h e. out.filled l h e (λ q. omega arith)) in
        lowest_tried out agree1 (λ l e. e) t
        (λ q p a took. open_barred k1 v.few below out under_same t.barren
        (λ l h e _. free_held k1 l h (or_fails (bit free1 l) (bit word l) (sym (bit_or_lem free1 word l) ∙ e)).0)
        (λ w g h f l. bit_or_lem free1 word (entry taken1 w) ∙ right_true (bit free1 (entry taken1 w)) (all w g h f l)) p.0 a took)
        (λ l h e met g. inl (filled l h e))
        (λ _. filled)

    -- the label that u had is owed, and no other node can come to it
    pub lowest_owed : {before : ℕ} {taken' : List ℕ} → entry taken u < 64 → bit idle (entry taken u) ≡ false → Out n own idle (entry taken u) u taken1 → Spent sets taken1 idle (entry taken u) u n closed before
        → Tried sets own taken1 (2 ^ entry taken u) before u taken' → Lowest n sets own idle taken u taken'
    lowest_owed small asked out spent t =
        lowest_tried out agree1 spent.more t
        (λ q p a took. owed_barred k1 v.few below out under_same small asked spent t.barren p a took)
        (λ l h e met g. by-same l (entry taken u) (λ q. inr (q ∙ sym (bit_only (entry taken u) met g))) (λ q. inl (out.filled l h e q)))
        (λ z. absurd (omega arith))

-- what is owed may stay free
pub out_idle : {n : ℕ} {own : List Bool} {idle owed u : ℕ} {taken : List ℕ} → Out n own idle owed u taken → (owed < 64 → bit idle owed ≡ true) → Out n own idle 255 u taken
out_idle {idle = idle} o f = record {
  none = o.none;
  seat = o.seat;
  later = o.later;
  filled = λ l h e _. o.filled l h e (λ q. differ (f (omega arith)) (ap (bit idle) (sym q) ∙ e));
  gone = λ v h l e. omega arith;
}

-- all labels that are free or can be left are goals
pub aimed_open : {own : List Bool} {sets taken holders reach : List ℕ} {free u before : ℕ} (word : ℕ) → Linked sets taken holders reach free
    → ((l : ℕ) → bit word l ≡ true → (w : ℕ) × (w < 64) × (u < w) × (entry taken w ≡ l) × (flag own w ≡ true)) → Aimed own taken (bit_or free word) before
aimed_open {own} {taken = taken} {free = free} word k only = record {
  held = λ l h e _. free_held k l h (or_fails (bit free l) (bit word l) (sym (bit_or_lem free word l) ∙ e)).0;
  loose = λ v h s e. ⊎_elim (λ c. absurd (differ c (k.taker v h s).0))
      (λ c. let (w, g, _, f, y) = only (entry taken v) c in ap (flag own) (linked_distinct k v w h g s (sym f)) ∙ y)
      (or_split (bit free (entry taken v)) (bit word (entry taken v)) (sym (bit_or_lem free word (entry taken v)) ∙ e));
}

-- ---- one node after another

pub lowered_none : {n : ℕ} {sets : List ℕ} {own : List Bool} {idle : ℕ} {taken holders reach : List ℕ} {free : ℕ} → Linked sets taken holders reach free → n ≤ 64 → Seated own 64 n taken
    → ((l : ℕ) → l < 64 → bit idle l ≡ false → bit free l ≡ false) → Lowered n sets own idle taken 0 0
lowered_none {n} {sets} {own} {idle} {taken} k few s f = record {
  within = omega arith;
  few = few;
  seated = s;
  filled = λ l h e. free_held k l h (f l h e);
  settled = settled_none (Full n sets own idle) (entry taken);
  under = record { fit = lit< tt; shut = λ w g. absurd (omega arith); only = λ l e. absurd (differ e (bit_zero l)) };
}

pub lowered_more : {n : ℕ} {sets : List ℕ} {own : List Bool} {idle : ℕ} {taken taken' : List ℕ} {closed closed' u : ℕ} → Lowered n sets own idle taken closed u → u < n → Lowest n sets own idle taken u taken'
    → (closed' < 2 ^ 64) × ((x : ℕ) → x < 64 → bit closed' x ≡ (bit closed x || eqb x (entry taken' u))) → Lowered n sets own idle taken' closed' (u + 1)
lowered_more {taken = taken} {taken'} {closed} {closed'} {u} v h m (fit, rest) = record {
  within = omega arith;
  few = v.few;
  seated = m.seated;
  filled = m.filled;
  settled = m.settled;
  under = record {
    fit = fit;
    shut = λ w g b. rest (entry taken' w) b ∙ by-same w u (λ q. right_true (bit closed (entry taken' w)) (eq-eqb (entry taken' w) (entry taken' u) (ap (entry taken') q)))
        (λ q. let l = m.same w (omega arith) in left_true {a = bit closed (entry taken' w)} (eqb (entry taken' w) (entry taken' u)) (rw l (v.under.shut w (omega arith) (rw l at b))));
    only = λ l e. ⊎_elim (λ c. let (w, g, f) = v.under.only l c in (w, omega arith, m.same w g ∙ f)) (λ c. (u, omega arith, sym (eqb-true l (entry taken' u) c)))
        (or_split (bit closed l) (eqb l (entry taken' u)) (sym (rest l (bit_small closed' l fit e)) ∙ e));
  };
}

pub lowered_done : {n : ℕ} {sets : List ℕ} {own : List Bool} {idle : ℕ} {taken holders reach : List ℕ} {free closed u : ℕ} → Linked sets taken holders reach free → Lowered n sets own idle taken closed u → n ≤ u → First (Full n sets own idle) n (entry taken)
lowered_done {n} {sets} {own} {idle} k v h = settled_first (Full n sets own idle) (full_of idle k v.few v.seated v.filled) (λ w l. v.settled w (omega arith))
