-- The label cost at a 255: no record alters it, whatever it is lent with, so that after an opening it stays 0; and no amount depends on it.
-- That it enters neither the bound nor a labelling's cost is said by `bound-alike` and `cost-alike`.
-- Assumes nothing.
use mathlib.Core.Path.{◌≡◌, refl, sym, ap, ap₂, ◌∙◌}
use mathlib.Core.Bool.{true, not, ◌&&◌}
use mathlib.Core.List.{List, [], ◌∷◌}
use mathlib.Core.Option.{Option, none, some}
use Prim.Native.Nat.{ℕ, ◌+◌}
use native.Mathlib.Omega.{arith}
use borrow.Author.Tests.{eqb-true, ltb-true, ltb-false}
use lib.Dec.{eqb, ltb}
use lib.ListN.{length, get_or, replicate, length-replicate, get_or-replicate, get_or-eq_default}
use lib.IntN.{ℤ, pos, neg_ℤ}
use Rattle.integers.specs.Share.{amount}
use Rattle.integers.specs.Places.{others, tabulate, only}
use Rattle.integers.proofs.Parts.{linear, add}
use Rattle.integers.proofs.Places.{by-test, by_cond, others_mem, map-ext, length-tabulate, get_d_tabulate}
use Rattle.instance.specs.Instance.{Instance, exclusive, first, node_cells}
use Rattle.instance.specs.Sheet.{instance_of}
use Rattle.instance.proofs.RisingLabels.{shared_not, vanished_is}
use Rattle.rules.specs.Places.{label_places}
use Rattle.rules.specs.Costs.{Costs, Buffers, costs_of, in_range, opened, node_least, edge_least}
use Rattle.rules.specs.Messages.{Message, node_to_edge, edge_to_node, node_to_label, label_to_node, to_label, to_edge, deltas, plus, filled, shift}
use Rattle.rules.specs.Assigned.{candidate}
use Rattle.rules.specs.Run.{Kind, message, rounding, unknown, Record, records, Outcome, refused, done, Ran, proceed, rounded, legal_message, checked, effect, step, run, run_list}
use Rattle.rules.specs.Calls.{run_refusal, run_of, Call, run as run_call, report, next, rules}
use Rattle.rules.proofs.Places.{label_mem}
use Rattle.rules.proofs.Rounding.{adopt_ind}
use Rattle.rules.proofs.Run.{legal_position_is}

-- a place past the end of a list has the default, however the list is filled
filled_at : (l : List ℤ) (f : ℕ → ℤ) (i : ℕ) → f i ≡ get_or l i (pos 0) → get_or (tabulate (length l) f) i (pos 0) ≡ get_or l i (pos 0)
filled_at l f i e =
    by-test (ltb i (length l)) (λ t. get_d_tabulate (length l) f i (pos 0) (ltb-true i (length l) t) ∙ e)
    (λ t. let past = ltb-false i (length l) t in
    get_or-eq_default (tabulate (length l) f) (pos 0) (omega (arith, length-tabulate (length l) f)) ∙ sym (get_or-eq_default l (pos 0) past))

module _ (I : Instance) (i : ℕ) (v : not (exclusive (I.label i)) ≡ true) where
  -- another place, whose label is not 255, is moved
  apart : (j : ℕ) (p : ℤ) → exclusive (I.label j) ≡ true → only (eqb i j) p ≡ pos 0
  unfolding only
  apart j p x =
      by-test (eqb i j) (λ t. absurd (shared_not (I.label i) (vanished_is (I.label i) v) (ap (λ (z : ℕ). exclusive (I.label z)) (eqb-true i j t) ∙ x))) (λ t. rw t)

  none_moved : (c : Costs) (m : Message) (u k r : ℕ) → legal_message I m u k r ≡ true → (deltas I c m u k r).label i ≡ pos 0
  unfolding legal_message deltas to_label to_edge
  none_moved c node_to_edge u e r t = refl
  none_moved c edge_to_node u e r t = refl
  none_moved c node_to_label u k r t = apart (first I u + k) _ (legal_position_is I u k r t).3
  none_moved c label_to_node u k r t = apart (first I u + k) _ (legal_position_is I u k r t).3

  shift_still : (d : Costs) (b : Buffers) → d.label i ≡ pos 0 → (costs_of (shift d b)).label i ≡ (costs_of b).label i
  unfolding filled
  shift_still d b z = filled_at b.labels (plus (costs_of b) d).label i (omega (linear, add ((costs_of b).label i) (d.label i)))

  module _ (limit : ℕ) where
    abbrev Still : Buffers → Outcome → Type 0
    Still b (refused number) = Unit {0}
    Still b (done b' s) = (costs_of b').label i ≡ (costs_of b).label i

    effect_still : (b : Buffers) (kind : Kind) (u k r : ℕ) → Still b (effect I limit b kind u k r)
    unfolding effect checked rounded
    effect_still b (message m) u k r =
        by_cond (Still b) (legal_message I m u k r)
        (λ t. let d = deltas I (costs_of b) m u k r in by_cond (Still b) (in_range limit (shift d b)) (λ _. shift_still d b (none_moved (costs_of b) m u k r t)) (λ _. tt)) (λ _. tt)
    effect_still b (rounding w) u k r = by_cond (Still b) (eqb u 0 && eqb k 0 && eqb r 0) (λ _. go (candidate I (costs_of b) w)) (λ _. tt)
      where
        go : (o : Option (List ℕ)) → Still b (rounded I b o)
        go none = refl
        go (some x) = adopt_ind I (λ b'. (costs_of b').label i ≡ (costs_of b).label i) x b (λ _. refl) refl
    effect_still b unknown u k r = tt

    -- a list of records, on any buffers
    pub run_still : (b : Buffers) (l : List Record) → (costs_of (run I limit b l).buffers).label i ≡ (costs_of b).label i
    unfolding run proceed
    run_still b [] = refl
    run_still b (r ∷ l) = go (step I limit b r) (effect_still b r.kind r.node r.index r.share) (λ b'. run_still b' l)
      where
        go : (o : Outcome) → Still b o → ((b' : Buffers) → (costs_of (run I limit b' l).buffers).label i ≡ (costs_of b').label i)
            → (costs_of (proceed b o (λ b'. run I limit b' l)).buffers).label i ≡ (costs_of b).label i
        go (refused number) h f = refl
        go (done b' n) h f = f b' ∙ h

-- ---- the same costs with other label costs, but for those of exclusive labels

abbrev relabelled : Costs → (ℕ → ℤ) → Costs
relabelled c l = record { node = c.node; label = l; edge = c.edge }

pub unread : (I : Instance) (c : Costs) (l : ℕ → ℤ) → ((i : ℕ) → exclusive (I.label i) ≡ true → l i ≡ c.label i)
    → (m : Message) (u k r : ℕ) → legal_message I m u k r ≡ true → deltas I (relabelled c l) m u k r ≡ deltas I c m u k r
unfolding legal_message deltas node_least edge_least
unread I c l same node_to_edge u e r t = refl
unread I c l same edge_to_node u e r t = refl
unread I c l same node_to_label u k r t = refl
unread I c l same label_to_node u k r t =
    let i = first I u + k in
    let x = (legal_position_is I u k r t).3 in
    let places = others i (label_places I (I.label i)) in
    ap₂ (λ (z : ℤ) (rivals : List ℤ). to_label i (neg_ℤ (amount z (pos 0 ∷ rivals) r))) (same i x)
    (map-ext l c.label places (λ j m. same j (ap exclusive (label_mem I (I.label i) (others_mem i (label_places I (I.label i)) m).0) ∙ x)))

-- after an opening and any list of calls: "its label cost is left at 0"
pub left_at_zero : (s : List ℕ) (cs : List Call) (i : ℕ) → not (exclusive ((instance_of s).label i)) ≡ true → (costs_of (rules s cs).buffers).label i ≡ pos 0
unfolding rules next opened run_of run_list
left_at_zero s [] i v =
    let n = node_cells (instance_of s) in
    by-test (ltb i n) (λ t. get_or-replicate n i (pos 0) (pos 0) (ltb-true i n t))
    (λ t. let past = ltb-false i n t in get_or-eq_default (replicate n (pos 0)) (pos 0) (omega (arith, length-replicate {A = ℤ} n (pos 0))))
left_at_zero s (run_call limit l ∷ cs) i v =
    let b = (rules s cs).buffers in
    by_cond (λ (q : Ran). (costs_of q.buffers).label i ≡ pos 0) (eqb (run_refusal s limit b l) 0)
    (λ _. run_still (instance_of s) i v limit b (records l) ∙ left_at_zero s cs i v) (λ _. left_at_zero s cs i v)
left_at_zero s (report limit ∷ cs) i v = left_at_zero s cs i v
