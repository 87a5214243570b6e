-- The assignment: a matching whose node costs have the least sum, the first of those; and none exactly if there is no matching. The candidate of a rounding is a matching.
-- Assumes nothing.
use mathlib.Core.Path.{◌≡◌, refl}
use mathlib.Core.List.{List}
use mathlib.Core.Logic.{◌⊎◌, inl, inr, ⊎_elim}
use mathlib.Core.Option.{some, none, Option}
use Prim.Native.Nat.{ℕ}
use lib.Signed.{◌≤ℤ◌}
use Rattle.instance.specs.Instance.{Instance}
use Rattle.rules.specs.Costs.{Costs, node_sum, Matching}
use Rattle.rules.specs.Rounding.{best}
use Rattle.rules.specs.Matchings.{matchings, Before}
use Rattle.rules.specs.Assigned.{Way, in_turn, at_once, assignment, candidate}
use Rattle.rules.proofs.Ordered.{best_mem, best_none, best_foremost}
use Rattle.rules.proofs.Matchings.{Less, less_trans, matchings_sorted, matching_mem, mem_matching, before, antisymm, none_is, none_matching}
use Rattle.rules.proofs.Rounding.{round_matching}

module _ (I : Instance) (c : Costs) where
  -- what is said of the matching that record 6 finds
  pub record Assigns (x : List ℕ) : Type 0 where
    pub matching : Matching I x
    -- no matching has a lower sum of node costs
    pub least : (y : List ℕ) → Matching I y → node_sum I c x ≤ℤ node_sum I c y
    -- of equal ones none comes before it
    pub first : (y : List ℕ) → Matching I y → node_sum I c y ≤ℤ node_sum I c x → Before I x y ⊎ (x ≡ y)

  pub assignment_assigns : {x : List ℕ} → assignment I c ≡ some x → Assigns x
  unfolding assignment
  assignment_assigns {x} e =
      let f = best_foremost Less (λ x y z p q. less_trans p q) (node_sum I c) (matchings I) (matchings_sorted I) x e in
      let m = matching_mem I (best_mem (node_sum I c) (matchings I) x e) in
      record {
        matching = m;
        least = λ y n. f.least y (mem_matching I n);
        first = λ y n h. before I m.labelling.size (⊎_elim (λ q. inr q) (λ l. inl l) (f.first y (mem_matching I n) h));
      }

  -- no other matching is so
  pub assigns_one : {x y : List ℕ} → Assigns x → Assigns y → x ≡ y
  assigns_one {x} {y} p q = antisymm I (p.first y q.matching (q.least x p.matching)) (q.first x p.matching (p.least y q.matching))

  pub assignment_none : ((x : List ℕ) → Matching I x → ⊥) → assignment I c ≡ none
  unfolding assignment best
  assignment_none f = rw (none_is I f)

  pub none_assigned : assignment I c ≡ none → {x : List ℕ} → Matching I x → ⊥
  unfolding assignment
  none_assigned e m = none_matching I (best_none (node_sum I c) (matchings I) e) m

  pub assignment_is : {x : List ℕ} → Assigns x → assignment I c ≡ some x
  assignment_is {x} p = go (assignment I c) refl
    where
      go : (o : Option (List ℕ)) → assignment I c ≡ o → assignment I c ≡ some x
      go none e = absurd (none_assigned e p.matching)
      go (some y) e = rw (assigns_one p (assignment_assigns e)) e

  -- a candidate is a matching, whichever way it is found
  pub candidate_matching : (w : Way) (x : List ℕ) → candidate I c w ≡ some x → Matching I x
  unfolding candidate
  candidate_matching in_turn x e = round_matching I c x e
  candidate_matching at_once x e = (assignment_assigns e).matching
