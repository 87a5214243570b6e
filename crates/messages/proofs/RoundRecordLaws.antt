-- The laws of a record of kind 5 or 6: what a rounding's answer says, what is found is a labelling, and the record's outcome by the rules.
-- Assumes nothing.
use Rattle.std.proofs.Common.{◌≡◌, ℕ, ◌≤◌, Bool, true, false, cond, ◌&&◌, eqb, None, Some, List, length, get_or, take, ℤ, sym, refl, ap, ◌∙◌, arith, length-take-le, get_or-take, ext_get_or}
use mathlib.Core.Option.{Option, none, some}
use Rattle.integers.specs.Places.{tabulate}
use Rattle.integers.proofs.Places.{if-true, if-false, length-tabulate, get_d_tabulate}
use Rattle.instance.specs.Instance.{Instance}
use Rattle.rules.specs.Costs.{Costs, Buffers, Labelling, costs_of}
use Rattle.rules.specs.Assigned.{Way, in_turn, at_once, assignment, candidate}
use Rattle.rules.specs.Run.{refused, rounding, rounded, effect}
use Rattle.rules.proofs.Assigned.{candidate_matching}
use Rattle.placing.specs.Assigning.{rounded_by}
use Rattle.messages.specs.Lent.{lent}
use Rattle.messages.specs.Step.{Settled, settle, settled}
use Rattle.messages.specs.Incumbent.{adopted_of}
use Rattle.messages.specs.Rounded.{costs_by}
use Rattle.messages.specs.RoundRecord.{RoundMove, round_move, round_left, round_taken}
use Rattle.messages.proofs.IncumbentLaws.{adopt_is}
use Rattle.messages.proofs.RoundTurns.{round_costs}

-- the first n of 64 places that hold a list of n are that list
pub take_places : (x : List ℕ) (n : ℕ) → length x ≡ n → n ≤ 64 → take n (tabulate 64 (λ k. get_or x k 0)) ≡ x
take_places x n e h =
    let t = tabulate 64 (λ k. get_or x k 0) in
    let a = length-tabulate 64 (λ k. get_or x k 0) in
    let m : length (take n t) ≡ n = length-take-le n t (omega arith) in
    ext_get_or 0 (take n t) x (m ∙ sym e)
    (λ k l. get_or-take n t k 0 (omega arith) ∙ get_d_tabulate 64 (λ k. get_or x k 0) k 0 (omega arith))

-- no answer is of no rounding
pub stuck_left : (I : Instance) (o : Option (List ℕ)) (old : List ℕ) → None ≡ rounded_by o → round_move old 1 0 ≡ round_left I o old
unfolding rounded_by round_left
stuck_left I none old e = refl
stuck_left I (some x) old e = cc e

-- an answer has 64 places, and what was found in the first of them
answered : (n : ℕ) (o : Option (List ℕ)) (x : List ℕ) → ((y : List ℕ) → o ≡ some y → length y ≡ n) → n ≤ 64 → Some x ≡ rounded_by o → (length x ≡ 64) × (o ≡ some (take n x))
unfolding rounded_by
answered n none x l h e = cc e
answered n (some y) x l h e =
    let z : x ≡ tabulate 64 (λ k. get_or y k 0) = cc e in rw z (length-tabulate 64 (λ k. get_or y k 0), ap some (sym (take_places y n (l y refl) h)))

module _ (I : Instance) (c : Costs) (w : Way) (n : ℕ) (e : n ≡ I.node_count) (few : n ≤ 64) (x : List ℕ) (a : Some x ≡ rounded_by (candidate I c w)) where
  both : (length x ≡ 64) × (candidate I c w ≡ some (take n x))
  both = answered n (candidate I c w) x (λ y z. (candidate_matching I c w y z).labelling.size ∙ sym e) few a

  pub places_long : length x ≡ 64
  places_long = both.0

  found : candidate I c w ≡ some (take n x)
  found = both.1

  -- which is a labelling
  pub found_labelling : Labelling I (take n x)
  found_labelling = (candidate_matching I c w (take n x) found).labelling

  -- and may replace the incumbent
  pub found_left : (old new : List ℕ) → new ≡ adopted_of I (take n x) old → round_move new 0 0 ≡ round_left I (candidate I c w) old
  unfolding round_left
  found_left old new z = ap (λ (l : List ℕ). round_move l 0 0) z ∙ sym (ap (λ (o : Option (List ℕ)). round_left I o old) found)

-- a record that names nothing rounds, and any other is refused
pub taken_rounds : (I : Instance) (nodes edges : List ℤ) (old : List ℕ) (w : Way) (u k r : ℕ) → (eqb u 0 && eqb k 0 && eqb r 0) ≡ true
    → round_left I (candidate I (costs_by nodes edges) w) old ≡ round_taken I nodes edges old w u k r
unfolding round_taken
taken_rounds I nodes edges old w u k r e = sym (if-true (round_left I (candidate I (costs_by nodes edges) w) old) (round_move old 0 12) e)

pub taken_refused : (I : Instance) (nodes edges : List ℤ) (old : List ℕ) (w : Way) (u k r : ℕ) → (eqb u 0 && eqb k 0 && eqb r 0) ≡ false
    → round_move old 0 12 ≡ round_taken I nodes edges old w u k r
unfolding round_taken
taken_refused I nodes edges old w u k r e = sym (if-false (round_left I (candidate I (costs_by nodes edges) w) old) (round_move old 0 12) e)

-- what a record of kind 5 or 6 leaves, with the lent costs as they were
abbrev round_settled : Buffers → RoundMove → Settled
round_settled b m = settle (lent b.nodes b.labels b.edges m.incumbent) m.stuck m.refusal

-- a rounding's outcome by the rules
left_settled : (I : Instance) (b : Buffers) (o : Option (List ℕ)) → round_settled b (round_left I o b.incumbent) ≡ settled b (rounded I b o)
unfolding round_left rounded
left_settled I b none = refl
left_settled I b (some x) = ap (λ (z : Buffers). settle z 0 0) (sym (adopt_is I x b))

-- a candidate hangs on no label cost
candidate_costs : (I : Instance) (b : Buffers) (w : Way) → candidate I (costs_of b) w ≡ candidate I (costs_by b.nodes b.edges) w
unfolding candidate assignment
candidate_costs I b in_turn = round_costs I b
candidate_costs I b at_once = refl

taken_settled : (I : Instance) (limit : ℕ) (b : Buffers) (w : Way) (u k r : ℕ) → round_settled b (round_taken I b.nodes b.edges b.incumbent w u k r) ≡ settled b (effect I limit b (rounding w) u k r)
unfolding round_taken effect
taken_settled I limit b w u k r = go (eqb u 0 && eqb k 0 && eqb r 0)
  where
    go : (t : Bool) → round_settled b (cond t (round_left I (candidate I (costs_by b.nodes b.edges) w) b.incumbent) (round_move b.incumbent 0 12))
        ≡ settled b (cond t (rounded I b (candidate I (costs_of b) w)) (refused 12))
    go true = left_settled I b (candidate I (costs_by b.nodes b.edges) w) ∙ ap (λ (o : Option (List ℕ)). settled b (rounded I b o)) (sym (candidate_costs I b w))
    go false = refl

-- what the code leaves and answers is the record's outcome by the rules
pub round_settled_lem : (I : Instance) (limit : ℕ) (b : Buffers) (w : Way) (u k r : ℕ) {m : RoundMove} → m ≡ round_taken I b.nodes b.edges b.incumbent w u k r
    → settle (lent b.nodes b.labels b.edges m.incumbent) m.stuck m.refusal ≡ settled b (effect I limit b (rounding w) u k r)
round_settled_lem I limit b w u k r e = ap (round_settled b) e ∙ taken_settled I limit b w u k r
