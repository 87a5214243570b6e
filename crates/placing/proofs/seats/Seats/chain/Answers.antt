-- `chain` meets its contract: the label that the search met is made free, and taken.
use mathlib.Core.Path.{◌≡◌, sym, subst}
use Prim.Native.Nat.{ℕ, ◌<◌}
use mathlib.Core.Bool.{false}
use mathlib.Core.List.{List}
use native.Mathlib.Omega.{arith}
use Rattle.integers.specs.Words.{bit}
use Rattle.placing.specs.Words.{Asked, Met, Rooted}
use Rattle.placing.proofs.Searching.{seen_outside}
use Rattle.placing.proofs.Moving.{vacated_asked, vacated_met, vacated_rooted}
use Rattle.placing.proofs.seats.Seats.chain.Goals as goal
use Rattle.placing.proofs.seats.Seats.chain.Goals.{After-vacate}

-- what the search met, whatever its steps are called
module _ (p : After-vacate) {by words : List ℕ} (found : Met p.args.self.now.reach p.args.goals p.args.start p.args.before by words p.in_ok-met.met.count p.in_ok-met.met.label) where
  abbrev l : ℕ
  l = p.in_ok-met.met.label

  small : l < 64
  small = found.trail.small l found.met

  outside : bit p.args.before l ≡ false
  outside = seen_outside found.trail p.in_ok-met.met.count l (omega arith) found.met

  asked : Asked p.vacate.new.self.nodes.now.sets p.vacate.new.self.taken p.args.start p.args.before p.args.root
  asked = subst (λ n. Asked n.sets p.vacate.new.self.taken p.args.start p.args.before p.args.root) (sym p.vacate.ensures.same) (vacated_asked p.requires.0 p.requires.1 found.free_label outside small p.vacate.ensures.vacated)

  met_free : Met p.vacate.new.self.reach p.vacate.new.self.free p.args.start p.args.before by words p.in_ok-met.met.count l
  met_free = subst (λ r. Met r p.vacate.new.self.free p.args.start p.args.before by words p.in_ok-met.met.count l) (sym p.vacate.ensures.reach)
      (vacated_met p.requires.0 p.requires.1 found.free_label outside small p.vacate.ensures.vacated p.args.self.now.linked found)

pub shift-requires : goal.shift-requires
shift-requires c = let p = (goal.at.shift-requires c).After-vacate in let f = c.in_ok-met.ensures in (c.args.start, c.args.before, asked p f, met_free p f)

pub returns-clause-placed : goal.returns-clause-placed
returns-clause-placed c =
    let p = (goal.at.returns-clause-placed c).After-vacate in let f = c.in_ok-met.ensures in (
      c.in_ok-met.met.label,
      f.free_label,
      vacated_rooted c.requires.0 c.requires.1 f.free_label (outside p f) (small p f) c.vacate.ensures.vacated c.args.self.now.linked.size_taken
          (subst (λ n. Rooted n.own c.vacate.new.self.taken c.args.start c.args.before c.args.root c.in_ok-met.met.label c.shift.new.self.taken) c.vacate.ensures.same (c.shift.ensures.placed c.args.start c.args.before (asked p f) (met_free p f))),
    )
