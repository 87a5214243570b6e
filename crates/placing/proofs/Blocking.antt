-- A search from a node that found no free label: the nodes that take the labels seen cannot all be placed with it, and without any one of them the rest can.
-- Assumes nothing.
use mathlib.Core.Path.{◌≡◌, refl, sym, ap, ◌∙◌}
use mathlib.Core.Bool.{Bool, true, false, ◌&&◌, ◌||◌}
use mathlib.Core.List.{List}
use mathlib.Core.Logic.{⊎_elim}
use Prim.Native.Nat.{ℕ, zero, suc, ◌+◌, ◌≤◌, ◌<◌}
use native.Mathlib.Omega.{arith}
use lib.Dec.{eqb, ltb}
use borrow.Author.Tests.{eqb-true, eq-eqb, ltb-true, lt-ltb}
use Rattle.integers.specs.Words.{bit}
use Rattle.integers.proofs.Words.{bit_zero}
use Rattle.integers.proofs.Places.{and_true, and_both, or_split, left_true, right_true}
use Rattle.assignment.specs.Rows.{In, But, but, count, put, Node, Placed}
use Rattle.assignment.proofs.Counts.{differ, but_true, count-but, pigeonhole, put_other}
use Rattle.assignment.proofs.Shifts.{placed_part, placed_put}
use Rattle.placing.specs.Words.{entry, flag, opens, slot_of, rows_of, seen_by, Trail, Exhausted, Blocked, caught}
use Rattle.placing.proofs.Searching.{fails, or_fails, seen_later, seen_begin}
use Rattle.placing.proofs.Slots.{opens-bit, opens_solid, slot_label}
use Rattle.placing.proofs.Holding.{Held, Vacant, holder_of, held_by, word_at}

-- the same place among more nodes, or fewer
pub placed_rows : (m n : ℕ) (sets : List ℕ) (own : List Bool) {D E : ℕ → Type 0} {p : ℕ → ℕ} → ((u : ℕ) → D u → E u)
    → Placed (rows_of m sets own) E p → Placed (rows_of n sets own) D p
placed_rows m n sets own f p = record { allowed = λ u d. p.allowed u (f u d); distinct = λ u w d e. p.distinct u w (f u d) (f w e) }

-- ---- one node is left out, another moves

-- a node that is left out takes the label of another, which is left out then
module _ (m : ℕ) (sets : List ℕ) (own : List Bool) where
  pub hand_on : {q : ℕ → ℕ} {h z l : ℕ} → Placed (rows_of m sets own) (But (Node (rows_of m sets own)) h) q → z < m → (z ≡ h → ⊥) → q z ≡ l → l < 64
      → bit (entry sets h) l ≡ true → Placed (rows_of m sets own) (But (Node (rows_of m sets own)) z) (put q h l)
  hand_on {q} {h} {z} {l} p k d e small b =
      placed_put (rows_of m sets own) (placed_part (rows_of m sets own) (λ w c. (c.0.0, c.1)) p) (opens-bit sets own h l small ∙ b)
      (λ w c f. c.0.1 (p.distinct w z (c.0.0, c.1) (k, d) (f ∙ slot_label h small ∙ sym (ap (λ (x : ℕ). slot_of x z) e ∙ slot_label z small))))

module _ {sets : List ℕ} {own : List Bool} {root : ℕ} {taken holders reach : List ℕ} {free : ℕ} {by words : List ℕ} {count' seen : ℕ}
    (held : Held sets own (root + 1) root taken holders reach free) (vacant : Vacant own 0 (root + 1) root taken) (shared : flag own root ≡ false)
    (trail : Trail reach free (entry sets root) 0 by words count') (ended : Exhausted reach free (entry sets root) 0 words count' seen) where
  -- the labels seen in the first s steps
  abbrev found : ℕ → ℕ → Bool
  found s l = seen_by (entry sets root) words s l

  seen_is : (l : ℕ) → bit seen l ≡ found count' l
  seen_is l = ended.all l ∙ ap (λ (b : Bool). b || found count' l) (bit_zero l)

  -- a label seen, and the node that takes it
  record Taken (l : ℕ) : Type 0 where
    small : l < 64
    node : entry holders l < root + 1
    other : entry holders l ≡ root → ⊥
    takes : entry taken (entry holders l) ≡ l
    word : entry reach l ≡ entry sets (entry holders l)

  taken_at : (s l : ℕ) → s ≤ count' → found s l ≡ true → Taken l
  taken_at s l h e =
      let f = seen_later (entry sets root) words s count' l h e in
      let k = trail.small l f in
      let (a, b, c, d) = holder_of held l k (ended.held l f) in
      record { small = k; node = a; other = b; takes = c; word = d }

  -- ---- without any one of them the rest can be placed

  -- the holder of l left out; nodes whose label was not found in s steps have not moved
  record Spared (s l : ℕ) : Type 0 where
    q : ℕ → ℕ
    placed : Placed (rows_of (root + 1) sets own) (But (Node (rows_of (root + 1) sets own)) (entry holders l)) q
    stays : (w : ℕ) → w < root + 1 → (w ≡ root → ⊥) → found s (entry taken w) ≡ false → q w ≡ entry taken w

  -- the root takes l
  spared_none : (l : ℕ) → found 0 l ≡ true → Spared 0 l
  spared_none l e =
      let t = taken_at 0 l (omega arith) e in
      record {
        q = put (entry taken) root l;
        placed = hand_on (root + 1) sets own held.placed t.node t.other t.takes t.small (sym (seen_begin (entry sets root) words l) ∙ e);
        stays = λ w _ d _. put_other (entry taken) root l w d;
      }

  -- the holder of the label from which l was found takes l
  spared_more : (s l : ℕ) → s < count' → bit (entry words s) l ≡ true → found (suc s) l ≡ true → Spared s (entry by s) → Spared (suc s) l
  unfolding seen_by
  spared_more s l h b e r =
      let (reached, new, _) = trail.leads s l h b in
      let f = (trail.from s h).0 in
      let g = taken_at s (entry by s) (omega arith) f in
      let t = taken_at (suc s) l h e in
      let z = entry holders l in
      let x = entry holders (entry by s) in
      let still : r.q z ≡ l = r.stays z t.node t.other (ap (found s) t.takes ∙ new) ∙ t.takes in
      let moved : found s (entry taken x) ≡ true = ap (found s) g.takes ∙ f in
      record {
        q = put r.q x l;
        placed = hand_on (root + 1) sets own r.placed t.node
            (λ y. differ moved (ap (λ (w : ℕ). found s (entry taken w)) (sym y) ∙ ap (found s) t.takes ∙ new))
            still t.small (ap (λ (w : ℕ). bit w l) (sym g.word) ∙ reached);
        stays = λ w k d n. let n' = (or_fails (found s (entry taken w)) (bit (entry words s) (entry taken w)) n).0 in
            put_other r.q x l w (λ y. differ moved (ap (λ (i : ℕ). found s (entry taken i)) (sym y) ∙ n')) ∙ r.stays w k d n';
      }

  spared : (s l : ℕ) → s ≤ count' → found s l ≡ true → Spared s l
  unfolding seen_by
  spared zero l h e = spared_none l e
  spared (suc s) l h e = ⊎_elim
      (λ (f : found s l ≡ true). let r = spared s l (omega arith) f in
      record { q = r.q; placed = r.placed; stays = λ w k d n. r.stays w k d (or_fails (found s (entry taken w)) (bit (entry words s) (entry taken w)) n).0 })
      (λ (b : bit (entry words s) l ≡ true). spared_more s l h b e (spared s (entry by s) (omega arith) (trail.from s h).0))
      (or_split (found s l) (bit (entry words s) l) e)

  -- ---- the nodes caught

  abbrev R : ℕ → Bool
  R = caught root seen taken

  root_caught : In R root
  unfolding caught
  root_caught = left_true (ltb root root && bit seen (entry taken root)) (eq-eqb root root refl)

  caught_cases : {P : Type 0} (u : ℕ) → In R u → (u ≡ root → P) → (u < root → bit seen (entry taken u) ≡ true → P) → P
  unfolding caught
  caught_cases u e f g = ⊎_elim (λ h. f (eqb-true u root h)) (λ h. let (a, b) = and_true (ltb u root) (bit seen (entry taken u)) h in g (ltb-true u root a) b)
      (or_split (eqb u root) (ltb u root && bit seen (entry taken u)) e)

  -- the holder of a label seen is caught
  holder_caught : (l : ℕ) → bit seen l ≡ true → But (In R) root (entry holders l)
  unfolding caught
  holder_caught l e =
      let t = taken_at count' l (omega arith) (sym (seen_is l) ∙ e) in
      let u = entry holders l in
      let d = t.other in
      (right_true (eqb u root) (and_both (lt-ltb u root (omega (arith, t.node))) (ap (bit seen) t.takes ∙ e)), d)

  -- a node caught may take labels seen only
  caught_exits : (u k : ℕ) → In R u → opens sets own u k ≡ true → (k < 64) × (bit seen k ≡ true)
  caught_exits u k e o = caught_cases u e
      (λ q. let (a, b) = opens_solid sets own root shared k (ap (λ (x : ℕ). opens sets own x k) (sym q) ∙ o) in
      (a, seen_is k ∙ seen_later (entry sets root) words 0 count' k (omega arith) (seen_begin (entry sets root) words k ∙ b)))
      (λ h s. let f : found count' (entry taken u) ≡ true = sym (seen_is (entry taken u)) ∙ s in
      let small = trail.small (entry taken u) f in
      let d : u ≡ root → ⊥ = (λ z. omega arith) in
      let none = fails (flag own u) (λ y. let g = vacant u (omega arith) (omega arith) d y in omega arith) in
      let (a, b) = opens_solid sets own u none k o in
      (a, ended.exits (entry taken u) k f (ap (λ (w : ℕ). bit w k) (word_at held u (omega arith) small) ∙ b)))

  below_root : (u : ℕ) → In R u → u < root + 1
  below_root u e = caught_cases u e (λ q. omega arith) (λ h _. omega arith)

  module _ (n : ℕ) (inside : root < n) where
    caught_few : count 128 (bit seen) < count n R
    caught_few =
        let a = count-but n R root inside root_caught in
        let b = pigeonhole (λ l u. entry taken u ≡ l) (λ l m u e f. sym e ∙ f) 128 n (bit seen) (but R root)
        (λ l _ e. let (c, d) = holder_caught l e in let u = entry holders l in
        (u, omega (arith, below_root u c), but_true R root u c d, (taken_at count' l (omega arith) (sym (seen_is l) ∙ e)).takes)) in
        omega arith

    caught_rest : (x : ℕ) → In R x → (q : ℕ → ℕ) × Placed (rows_of n sets own) (But (In R) x) q
    caught_rest x e = caught_cases x e
        (λ y. (entry taken, placed_rows (root + 1) n sets own (λ u d. (below_root u d.0, λ z. d.1 (z ∙ sym y))) held.placed))
        (λ h s. let f : found count' (entry taken x) ≡ true = sym (seen_is (entry taken x)) ∙ s in
        let r = spared count' (entry taken x) (omega arith) f in
        let same = held_by held x (omega arith) (trail.small (entry taken x) f) in
        (r.q, placed_rows (root + 1) n sets own (λ u d. (below_root u d.0, λ z. d.1 (z ∙ same))) r.placed))

    pub caught_blocked : Blocked (rows_of n sets own) (caught root seen taken)
    caught_blocked = record {
      inside = λ u e. omega (arith, below_root u e);
      T = bit seen;
      exits = λ u k e o. let (a, b) = caught_exits u k e o in (a, ap (bit seen) (slot_label u a) ∙ b);
      few = caught_few;
      rest = caught_rest;
    }
