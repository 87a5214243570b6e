-- `smallest` meets its contract: where all labels may stay free, all nodes placed is all that is asked.
use mathlib.Core.Path.{◌∙◌, subst}
use mathlib.Core.Bool.{Bool}
use mathlib.Core.List.{List}
use Prim.Native.Nat.{ℕ, ◌-◌, ◌^◌}
use Rattle.integers.proofs.Words.{bit_full}
use Rattle.assignment.specs.First.{First}
use Rattle.assignment.proofs.Counts.{differ}
use Rattle.placing.specs.Words.{entry, All, Full}
use Rattle.placing.proofs.smallest.smallest.Goals as goal

full_all : (n : ℕ) (sets : List ℕ) (own : List Bool) {p : ℕ → ℕ} → First (Full n sets own (2 ^ 64 - 1)) n p → First (All n sets own) n p
full_all n sets own f = record { one = f.one.0; first = λ q a. f.first q (a, λ l h e. absurd (differ (bit_full l h) e)) }

pub lower_all-requires-clause-filled : goal.lower_all-requires-clause-filled
lower_all-requires-clause-filled c l h e = absurd (differ (bit_full l h) e)

pub returns : goal.returns
returns c =
    let f = c.lower_all.ensures in
    subst (λ n. First (All n.count n.sets n.own) n.count (entry c.lower_all.new.self.taken)) (c.in_ok-place_all.ensures.same ∙ c.new-seats.ensures.0)
    (let n = c.place_all.new.self.nodes.now in full_all n.count n.sets n.own f)
