-- What searches from a node that met no goal rule out: that the node takes one of the labels seen.
-- Assumes nothing.
use mathlib.Core.Path.{◌≡◌, refl, sym, ap, ◌∙◌}
use mathlib.Core.Bool.{Bool, true, false, not, ◌&&◌, ◌||◌}
use mathlib.Core.List.{List}
use mathlib.Core.Logic.{◌⊎◌, ⊎_elim}
use Prim.Native.Nat.{ℕ, ◌^◌, ◌≤◌, ◌<◌}
use native.Mathlib.Omega.{arith}
use lib.Dec.{eqb, ltb}
use borrow.Author.Tests.{eq-eqb, eqb-true, ltb-true, ltb-false}
use Rattle.integers.specs.Words.{bit}
use Rattle.integers.proofs.Words.{bit_small, bit_own}
use Rattle.integers.proofs.Places.{by-test, and_true, and_both, or_split, left_true, right_true}
use Rattle.assignment.specs.Rows.{In, but}
use Rattle.assignment.specs.First.{Agree}
use Rattle.assignment.proofs.Counts.{differ, by-same, but_true, count-but, pigeonhole}
use Rattle.placing.specs.Words.{entry, flag, All, Full, Linked, Holds, seen_by, Ended, Below, Out, Barren, Spent}
use Rattle.placing.proofs.Searching.{fails}
use Rattle.placing.proofs.Linking.{linked_distinct, linked_word}
use Rattle.placing.proofs.Slots.{opens-bit, opens_solid, same_slot}

-- two nodes have not the same label
pub label_once : (n : ℕ) (sets : List ℕ) (own : List Bool) {q : ℕ → ℕ} → All n sets own q → (v w : ℕ) → v < n → w < n → q w < 64 → q v ≡ q w → v ≡ w
label_once n sets own {q} p v w hv hw l e = p.distinct v w hv hw (same_slot v w (omega arith) e)

-- ---- one search after another

pub barren_none : (sets taken : List ℕ) (goals : ℕ) {before : ℕ} → before < 2 ^ 64 → Barren sets taken goals before before
barren_none sets taken goals h = record { fit = h; more = λ l e. e; apart = λ l e f. absurd (differ e f); exits = λ v k h l e f. absurd (differ e f) }

pub barren_more : {sets taken holders reach : List ℕ} {free goals before start seen seen' : ℕ} → Linked sets taken holders reach free → Barren sets taken goals before seen → Ended reach goals start seen seen' → Barren sets taken goals before seen'
barren_more {sets} {taken} {reach = reach} {goals = goals} {start = start} {seen} {seen'} k b e = record {
  fit = e.exhausted.fit;
  more = λ l h. grows l (b.more l h);
  apart = λ l h f. ⊎_elim (λ s. b.apart l s f) (λ s. e.exhausted.held l s) (cases l h);
  exits = λ v x h l s f o. ⊎_elim (λ t. grows x (b.exits v x h l t f o)) (λ t. e.exhausted.exits (entry taken v) x t (ap (λ (w : ℕ). bit w x) (linked_word k v h l) ∙ o)) (cases (entry taken v) s);
}
  where
    grows : (l : ℕ) → bit seen l ≡ true → bit seen' l ≡ true
    grows l h = e.exhausted.all l ∙ left_true (seen_by start e.words e.count l) h

    cases : (l : ℕ) → bit seen' l ≡ true → (bit seen l ≡ true) ⊎ (seen_by start e.words e.count l ≡ true)
    cases l h = or_split (bit seen l) (seen_by start e.words e.count l) (sym (e.exhausted.all l) ∙ h)

-- ---- no placing gives u a label seen

module _ {n : ℕ} {sets : List ℕ} {own : List Bool} {idle owed u closed : ℕ} {taken holders reach : List ℕ} {free : ℕ} (k : Linked sets taken holders reach free)
    (few : n ≤ 64) (inside : u < n) (o : Out n own idle owed u taken) (under : Below closed u taken) where
  -- a node that takes a label is one of the n
  among : (v : ℕ) → v < 64 → entry taken v < 64 → v < n
  among v h l = by-test (ltb v n) (ltb-true v n) (λ e. absurd (omega (arith, o.later v (ltb-false v n e) h)))

  -- the label of a node above u is none of those below it
  above : (v : ℕ) → u < v → v < 64 → entry taken v < 64 → bit closed (entry taken v) ≡ false
  above v g h l = fails (bit closed (entry taken v)) (λ e. let (w, a, f) = under.only (entry taken v) e in let s = linked_distinct k v w h (omega arith) l (sym f) in omega arith)

  -- The goals are all labels that are free, or whose holders have 255: the holders of the labels seen have no others.
  module _ {goals seen : ℕ} (b : Barren sets taken goals closed seen) (covered : (l : ℕ) → l < 64 → bit goals l ≡ false → bit closed l ≡ false → Holds taken l)
      (loose : (v : ℕ) → u < v → v < n → flag own v ≡ true → entry taken v < 64 → bit goals (entry taken v) ≡ true)
      {q : ℕ → ℕ} (p : All n sets own q) (agree : Agree u (entry taken) q) (took : bit seen (q u) ≡ true) where
    abbrev S : ℕ → Bool
    S v = eqb v u || bit seen (entry taken v)

    seen_small : (l : ℕ) → bit seen l ≡ true → l < 64
    seen_small l e = bit_small seen l b.fit e

    held : (l : ℕ) → bit seen l ≡ true → (v : ℕ) × (v < n) × (entry taken v ≡ l)
    held l e = by-test (bit closed l)
        (λ c. let (v, h, f) = under.only l c in (v, omega arith, f))
        (λ c. let s = seen_small l e in let (v, h, f) = covered l s (b.apart l e c) c in (v, among v h (omega arith), f))

    stays : (v : ℕ) → v < n → In S v → bit seen (q v) ≡ true
    stays v h e = ⊎_elim (λ z. ap (λ (w : ℕ). bit seen (q w)) (eqb-true v u z) ∙ took)
        (λ t. by-same v u (λ z. ap (λ (w : ℕ). bit seen (q w)) z ∙ took) (λ d. by-test (ltb v u)
        (λ z. ap (bit seen) (sym (agree v (ltb-true v u z))) ∙ t)
        (λ z. let g : u < v = (let y = ltb-false v u z in omega arith) in
        let l = seen_small (entry taken v) t in
        let c = above v g (omega arith) l in
        let (s, w) = opens_solid sets own v (fails (flag own v) (λ y. differ (loose v g h y l) (b.apart (entry taken v) t c))) (q v) (p.allowed v h) in
        b.exits v (q v) (omega arith) l t c w)))
        (or_split (eqb v u) (bit seen (entry taken v)) e)

    pub open_barred : ⊥
    open_barred =
        let x = pigeonhole (λ v l. (v < n) × (l < 64) × (q v ≡ l)) (λ v w l f g. label_once n sets own p v w f.0 g.0 (rw g.2 g.1) (f.2 ∙ sym g.2)) n 64 S (bit seen)
        (λ v h e. let t = stays v h e in let s = seen_small (q v) t in (q v, s, t, (h, s, refl))) in
        let y = pigeonhole (λ l v. entry taken v ≡ l) (λ l m v e f. sym e ∙ f) 64 n (bit seen) (but S u)
        (λ l s e. let (v, h, f) = held l e in
        (v, h, but_true S u v (right_true (eqb v u) (ap (bit seen) f ∙ e)) (λ z. omega (arith, ap (entry taken) z, o.none)), f)) in
        let z = count-but n S u inside (left_true (bit seen (entry taken u)) (eq-eqb u u refl)) in
        omega arith

  -- The one goal is the label owed, which no node that may leave its label can come to: the nodes at the labels not seen that have to be taken are one too few.
  module _ {before seen : ℕ} (small : owed < 64) (asked : bit idle owed ≡ false) (spent : Spent sets taken idle owed u n closed before) (b : Barren sets taken (2 ^ owed) before seen)
      {q : ℕ → ℕ} (p : Full n sets own idle q) (agree : Agree u (entry taken) q) (took : bit seen (q u) ≡ true) where
    abbrev B : ℕ → Bool
    B l = not (bit seen l) && not (bit idle l)

    not_owed : bit seen owed ≡ false
    not_owed = fails (bit seen owed) (λ e. differ (bit_own owed) (b.apart owed e spent.apart))

    exits : (v x : ℕ) → u < v → v < 64 → entry taken v < 64 → bit seen (entry taken v) ≡ true → bit (entry sets v) x ≡ true → bit seen x ≡ true
    exits v x g h l e w = by-test (bit before (entry taken v)) (λ c. b.more x (spent.exits v x g h l c w)) (λ c. b.exits v x h l e c w)

    -- the label that the taker of a label not seen takes now
    moved : (l : ℕ) → l < 64 → In B l → (m : ℕ) × (m < 64) × In (but B owed) m × ((v : ℕ) × (v < n) × (q v ≡ l) × (entry taken v ≡ m) × (m < 64))
    moved l h e =
        let (s, i) = and_true (not (bit seen l)) (not (bit idle l)) e in
        let unseen : bit seen l ≡ true → ⊥ = (λ c. differ s (ap not c)) in
        let (v, a, f) = p.1 l h (fails (bit idle l) (λ c. differ i (ap not c))) in
        let g : u < v = by-test (ltb u v) (ltb-true u v) (λ z. by-same v u
        (λ y. absurd (unseen (ap (bit seen) (sym f ∙ ap q y) ∙ took)))
        (λ y. let z' = ltb-false u v z in let t = agree v (omega arith) ∙ f in absurd (unseen (b.more l (spent.more l (ap (bit closed) (sym t) ∙ under.shut v (omega arith) (omega arith))))))) in
        let own_word : bit (entry sets v) l ≡ true = ap (bit (entry sets v)) (sym f) ∙ sym (opens-bit sets own v (q v) (omega arith)) ∙ p.0.allowed v a in
        let fixed : (entry taken v < 64 → bit idle (entry taken v) ≡ true) → ⊥ = (λ c. unseen (b.more l (spent.shut v l g a c own_word))) in
        let t : entry taken v < 64 = by-test (ltb (entry taken v) 64) (ltb-true (entry taken v) 64) (λ z. absurd (fixed (λ y. absurd (omega (arith, ltb-false (entry taken v) 64 z))))) in
        let d : bit seen (entry taken v) ≡ false = fails (bit seen (entry taken v)) (λ c. unseen (exits v l g (omega arith) t c own_word)) in
        let c : bit idle (entry taken v) ≡ false = fails (bit idle (entry taken v)) (λ c. fixed (λ _. c)) in
        (entry taken v, t, but_true B owed (entry taken v) (and_both (ap not d) (ap not c)) (o.gone v (omega arith) t), (v, a, f, refl, t))

    pub owed_barred : ⊥
    owed_barred =
        let x = pigeonhole (λ l m. (v : ℕ) × (v < n) × (q v ≡ l) × (entry taken v ≡ m) × (m < 64))
        (λ l l' m (v, h, f, e, s) (w, h', f', e', _). sym f ∙ ap q (linked_distinct k v w (omega arith) (omega arith) (omega arith) (e ∙ sym e')) ∙ f')
        64 64 B (but B owed) moved in
        let z = count-but 64 B owed small (and_both (ap not not_owed) (ap not asked)) in
        omega arith
