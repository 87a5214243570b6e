-- Rounding node by node: what is known after u nodes, what the code's choice is, and a turn. Rounding looks at no label cost.
-- Assumes nothing.
use Rattle.std.proofs.Common.{◌≡◌, ℕ, zero, suc, ◌+◌, ◌<◌, ◌≤◌, Bool, true, false, cond, not, eqb, ltb, None, Some, List, [], ◌∷◌, ◌++◌, length, get_or, take, set, replicate, ℤ, pos, ◌+ℤ◌, sym, refl, ap, ◌∙◌, ap₂, add-one, arith, length-set, length-take, get_or-set_other, get_or-take, get_or-set_same, take-suc-set, ext_get_or, ltb-false, ltb-true, lt-ltb, eqb-true}
use mathlib.Core.List.Memᴰ.{head as here}
use mathlib.Core.List.Memᴰ.{tail as there}
use mathlib.Core.List.{Memᴰ as Mem}
use mathlib.Core.Option.{Option, none, some, bind}
use borrow.Author.Tests.{eqb-false}
use lib.ListN.{get_or-replicate, get_or-eq_default}
use lib.Signed.{lt_z}
use Rattle.integers.specs.Places.{range, select, tabulate, only}
use Rattle.integers.proofs.Places.{by-test, if-true, if-false, range_mem, select_mem, length-tabulate, get_d_tabulate}
use Rattle.integers.proofs.Totals.{total_ext}
use Rattle.instance.specs.Instance.{Instance, exclusive, first, cell}
use Rattle.instance.specs.Sheet.{instance_of}
use Rattle.instance.specs.Readable.{Proper}
use Rattle.instance.proofs.LaidOut.{row_inside, label_small}
use Rattle.rules.specs.Costs.{Costs, Buffers, costs_of, position, chosen}
use Rattle.rules.specs.Rounding.{best_from, best, free, key, choice, round_below, round}
use Rattle.rules.proofs.Loops.{round_next, round_stops, round_stuck}
use Rattle.placing.specs.Assigning.{rounded_by}
use Rattle.messages.specs.Rounded.{costs_by, keys_at, or_none, chosen_from, Placed}
use Rattle.instance.specs.declared.sheet.Sheet.{Sheet}
use Rattle.instance.proofs.Sheets as sheet
use Rattle.messages.proofs.ChoiceLaws.{best_inside}
use Rattle.messages.proofs.UnusedLaws.{Agree, unused, unused_agree, free_is, untaken_none, untaken_more}
use Rattle.index.proofs.Lists.{select_ext}

-- ---- rounding looks at no label cost

below_costs : (I : Instance) (b : Buffers) (u : ℕ) → round_below I (costs_of b) u ≡ round_below I (costs_by b.nodes b.edges) u
unfolding round_below choice key
below_costs I b zero = refl
below_costs I b (suc u) = ap (λ (o : Option (List ℕ)). bind o (λ x. bind (choice I (costs_of b) x u) (λ k. some (x ++ k ∷ [])))) (below_costs I b u)

pub round_costs : (I : Instance) (b : Buffers) → round I (costs_of b) ≡ round I (costs_by b.nodes b.edges)
round_costs I b = below_costs I b I.node_count

-- ---- the best by two keys that agree, of places whose tests agree

best_from_ext : (f g : ℕ → ℤ) (k : ℕ) (l : List ℕ) → ((i : ℕ) → Mem i (k ∷ l) → f i ≡ g i) → best_from f k l ≡ best_from g k l
unfolding best_from
best_from_ext f g k [] h = refl
best_from_ext f g k (j ∷ l) h =
    ap (λ (b : Bool). best_from f (cond b j k) l) (ap₂ lt_z (h j (there (here refl))) (h k (here refl)))
    ∙ go (lt_z (g j) (g k)) (best_from_ext f g j l (λ i m. h i (there m))) (best_from_ext f g k l (λ i m. h i (skip m)))
  where
    skip : {i : ℕ} → Mem i (k ∷ l) → Mem i (k ∷ j ∷ l)
    skip (here e) = here e
    skip (there m) = there (there m)

    go : (b : Bool) → best_from f j l ≡ best_from g j l → best_from f k l ≡ best_from g k l → best_from f (cond b j k) l ≡ best_from g (cond b j k) l
    go true p q = p
    go false p q = q

best_ext : (f g : ℕ → ℤ) (l : List ℕ) → ((i : ℕ) → Mem i l → f i ≡ g i) → best f l ≡ best g l
unfolding best
best_ext f g [] h = refl
best_ext f g (k ∷ l) h = ap some (best_from_ext f g k l h)

best_of_ext : (f g : ℕ → ℤ) (s t : ℕ → Bool) (n : ℕ) → ((i : ℕ) → i < n → f i ≡ g i) → ((i : ℕ) → i < n → s i ≡ t i)
    → best f (select s (range 0 n)) ≡ best g (select t (range 0 n))
best_of_ext f g s t n h k =
    best_ext f g (select s (range 0 n)) (λ i m. let r = range_mem 0 n (select_mem s (range 0 n) m).0 in h i (omega arith))
    ∙ ap (best g) (select_ext s t (range 0 n) (λ i m. let r = range_mem 0 n m in k i (omega arith)))

-- ---- the keys go by the nodes below u

key_agree : (I : Instance) → Proper I → (c : Costs) (x y : List ℕ) (u : ℕ) → Agree x y u → (k : ℕ) → key I c x u k ≡ key I c y u k
unfolding key only
key_agree I p c x y u a k =
    ap (λ (z : ℤ). c.node (first I u + k) +ℤ z)
    (total_ext I.edge_count (λ e. only (eqb (I.high e) u) (c.edge (cell I e (position x (I.low e)) k))) (λ e. only (eqb (I.high e) u) (c.edge (cell I e (position y (I.low e)) k)))
    (λ e h. by-test (eqb (I.high e) u)
    (λ t. let q : I.high e ≡ u = eqb-true (I.high e) u t in
    ap (λ (z : ℕ). only (eqb (I.high e) u) (c.edge (cell I e z k))) (a (I.low e) (omega (arith, p.ordered e h))))
    (λ t. if-false (c.edge (cell I e (position x (I.low e)) k)) (pos 0) t ∙ sym (if-false (c.edge (cell I e (position y (I.low e)) k)) (pos 0) t))))

-- ---- the choice as the code answers it

choice_none : (o : Option ℕ) → None ≡ or_none o → o ≡ none
unfolding or_none
choice_none none e = refl
choice_none (some b) e = cc e

choice_some : (o : Option ℕ) (k : ℕ) → Some k ≡ or_none o → o ≡ some k
unfolding or_none
choice_some none k e = cc e
choice_some (some b) k e = cc e

-- ---- after u nodes

pub record RoundTurn (s : List ℕ) (n : ℕ) (nodes edges : List ℤ) (x : List ℕ) (untaken : List Bool) (u : ℕ) : Type 0 where
  pub within : u ≤ n
  pub size : length x ≡ 64
  pub done : round_below (instance_of s) (costs_by nodes edges) u ≡ some (take u x)
  pub placed : Placed (instance_of s) x u
  pub rest : (k : ℕ) → u ≤ k → get_or x k 0 ≡ 0
  pub labels : untaken ≡ tabulate 256 (unused (instance_of s) x u)

pub round_start : (s : List ℕ) (n : ℕ) (nodes edges : List ℤ) → RoundTurn s n nodes edges (replicate 64 0) (replicate 256 true) 0
unfolding round_below
round_start s n nodes edges = record {
  within = omega arith;
  size = refl;
  done = refl;
  placed = λ w h. absurd (omega arith);
  rest = λ k h. by-test (ltb k 64) (λ t. get_or-replicate 64 k 0 0 (ltb-true k 64 t)) (λ t. let l : 64 ≤ k = ltb-false k 64 t in get_or-eq_default (replicate 64 0) 0 l);
  labels = untaken_none (instance_of s) (replicate 64 0);
}

module _ (q : Sheet) (nodes edges : List ℤ) where
  abbrev s : List ℕ
  s = q.bytes.now

  abbrev I : Instance
  I = instance_of s

  abbrev c : Costs
  c = costs_by nodes edges

  good : Proper I
  good = sheet.proper q

  module _ {x : List ℕ} {untaken : List Bool} {u : ℕ} (t : RoundTurn s q.nodes nodes edges x untaken u) where
    pub round_done : q.nodes ≤ u → Some x ≡ rounded_by (round I c)
    unfolding rounded_by
    round_done h =
        let e : u ≡ I.node_count = omega (arith, t.within, sheet.nodes_is q) in
        let a = length-tabulate 64 (λ k. get_or (take u x) k 0) in
        let p : x ≡ tabulate 64 (λ k. get_or (take u x) k 0) =
        ext_get_or 0 x (tabulate 64 (λ k. get_or (take u x) k 0)) (omega (arith, t.size))
        (λ k l. sym (get_d_tabulate 64 (λ k. get_or (take u x) k 0) k 0 (omega (arith, t.size))
        ∙ by-test (ltb k u) (λ p. get_or-take u x k 0 (ltb-true k u p))
        (λ p. let m : u ≤ k = ltb-false k u p in get_or-eq_default (take u x) 0 (omega (arith, length-take u x)) ∙ sym (t.rest k m)))) in
        ap Some p ∙ ap rounded_by (sym t.done ∙ ap (round_below I c) e)

    module _ (inside : u < q.nodes) where
      node : u < I.node_count
      node = omega (arith, sheet.nodes_is q)

      node_few : u < 64
      node_few = omega (arith, sheet.nodes_few q)

      agree : Agree (take u x) x u
      agree w h = get_or-take u x w 0 h

      choice_inside : (b : ℕ) → choice I c (take u x) u ≡ some b → b < I.degree u
      unfolding choice
      choice_inside b e = (best_inside (key I c (take u x) u) (free I (take u x) u) (I.degree u) e).0

      label_few : (k : ℕ) → k < I.degree u → I.label (first I u + k) < 256
      label_few k h = label_small good (first I u + k) (omega (arith, row_inside I node))

      -- what the code chooses
      pub choice_read : {keys : List ℤ} → keys ≡ keys_at I c x u → chosen_from I (first I u) keys untaken (I.degree u) ≡ or_none (choice I c (take u x) u)
      unfolding chosen_from choice keys_at only
      choice_read {keys} ek =
          ap or_none (best_of_ext (λ k. get_or keys k (pos 0)) (key I c (take u x) u) (λ k. get_or untaken (I.label (first I u + k)) false) (free I (take u x) u) (I.degree u)
          (λ k h. ap (λ (l : List ℤ). get_or l k (pos 0)) ek ∙ get_d_tabulate 16 (λ k. only (ltb k (I.degree u)) (key I c x u k)) k (pos 0) (omega (arith, good.few u node))
          ∙ if-true (key I c x u k) (pos 0) (lt-ltb k (I.degree u) h) ∙ sym (key_agree I good c (take u x) x u agree k))
          (λ k h. ap (λ (l : List Bool). get_or l (I.label (first I u + k)) false) t.labels
          ∙ get_d_tabulate 256 (unused I x u) (I.label (first I u + k)) false (label_few k h)
          ∙ sym (free_is I (take u x) u k ∙ unused_agree I (take u x) x u agree (I.label (first I u + k)))))

      -- no choice, and what comes of it
      pub round_stop : None ≡ or_none (choice I c (take u x) u) → None ≡ rounded_by (round I c)
      unfolding rounded_by
      round_stop e =
          let z = choice_none (choice I c (take u x) u) e in
          ap rounded_by (sym (round_stuck I c (suc u) I.node_count (round_stops I c u t.done z) node))

      -- a choice k
      module _ {k : ℕ} (e : Some k ≡ or_none (choice I c (take u x) u)) where
        taken : choice I c (take u x) u ≡ some k
        taken = choice_some (choice I c (take u x) u) k e

        pub position_inside : k < I.degree u
        position_inside = choice_inside k taken

        placed_now : position (set x u k) u ≡ k
        placed_now = get_or-set_same x u k 0 (omega (arith, t.size, node_few))

        chosen_now : I.label (first I u + k) ≡ I.label (chosen I (set x u k) u)
        unfolding chosen
        chosen_now = ap (λ (z : ℕ). I.label (first I u + z)) (sym placed_now)

        pub round_turn : {l : ℕ} {once : Bool} → l ≡ I.label (first I u + k) → once ≡ exclusive l → RoundTurn s q.nodes nodes edges (set x u k) (set untaken l (not once)) (u + 1)
        round_turn {l} el eo = record {
          within = omega arith;
          size = length-set x u k ∙ t.size;
          done = rw (add-one u) (round_next I c u t.done taken ∙ ap some (sym (take-suc-set x u k (omega (arith, t.size, node_few)))));
          placed = λ w h. by-test (eqb w u)
              (λ z. let y : w ≡ u = eqb-true w u z in rw (y, placed_now) position_inside)
              (λ z. let y : w ≡ u → ⊥ = eqb-false w u z in rw (get_or-set_other x u w k 0 y) (t.placed w (omega arith)));
          rest = λ j h. get_or-set_other x u j k 0 (λ z. omega arith) ∙ t.rest j (omega arith);
          labels = ap₂ (λ (b : List Bool) (v : Bool). set b l (not v)) t.labels eo ∙ untaken_more I x (set x u k) u (λ w h. get_or-set_other x u w k 0 (λ z. omega arith)) l (el ∙ chosen_now);
        }
