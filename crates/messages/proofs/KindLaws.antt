-- A record's kind by its number, as the code has it and as the rules do.
-- Assumes nothing.
use Rattle.std.proofs.Common.{Result, Ok, Err, ◌≡◌, ℕ, ◌<◌, ◌≤◌, eqb, leb, List, [], ◌∷◌, refl, ap, arith, eqb-true, leb-true, leb-false}
use lib.ListN.{get_or-eq_default}
use borrow.Author.Tests.{eqb-false}
use Rattle.integers.proofs.Places.{by-test}
use Rattle.instance.specs.declared.refusal.Refusal.{Refusal}
use Rattle.instance.specs.declared.refusal.Refusal.TheVariants.{NoSuchRecord}
use Rattle.rules.specs.Messages as rules
use Rattle.rules.specs.Assigned as ways
use Rattle.rules.specs.Run as runs
use Rattle.rules.specs.Run.{kind_of}
use Rattle.messages.specs.declared.records.Kind.{Kind}
use Rattle.messages.specs.Records.{kind_as, head_by}

-- a number that is none of 1 to 6 is no kind's
pub kind_past : (n : ℕ) → (1 ≤ n → n ≤ 6 → ⊥) → kind_of n ≡ runs.unknown
unfolding kind_of
kind_past n h =
    by-test (eqb n 0) (λ t. ap kind_of (eqb-true n 0 t))
    (λ t. let d : n ≡ 0 → ⊥ = eqb-false n 0 t in
    by-test (leb 7 n)
    (λ u. get_or-eq_default (runs.unknown ∷ runs.message rules.node_to_edge ∷ runs.message rules.edge_to_node ∷ runs.message rules.node_to_label ∷ runs.message rules.label_to_node ∷ runs.rounding ways.in_turn ∷ runs.rounding ways.at_once ∷ []) runs.unknown (leb-true 7 n u))
    (λ u. let l : n < 7 = leb-false 7 n u in absurd (h (omega arith) (omega arith))))

-- what is refused is the rules' unknown kind, and with 12
pub kind_unknown : (k : runs.Kind) {e : Refusal} → Err e ≡ kind_as k → (k ≡ runs.unknown) × (e ≡ NoSuchRecord)
kind_unknown (runs.message m) e = cc e
kind_unknown (runs.rounding w) e = cc e
kind_unknown runs.unknown e = (refl, cc e)

-- and a record is refused as its kind is
pub head_none : (k : Result Kind Refusal) (l : List ℕ) {e : Refusal} → Err e ≡ head_by k l → Err e ≡ k
head_none (Err e) l h = cc h
head_none (Ok k) l h = cc h
