-- A gap of 0: in every list of calls after an opening, the cost that such a report answers is the least of all one_to_one matchings' prices on the sheet, and a matching has it.
-- Assumes nothing.
use Rattle.std.proofs.Common.{◌≡◌, ℕ, List, [], ◌∷◌, ℤ, pos, ◌≤ℤ◌, sym, subst}
use Rattle.integers.proofs.Parts.{linear, sub}
use Rattle.instance.specs.Instance.{Instance}
use Rattle.instance.specs.Sheet.{instance_of}
use Rattle.rules.specs.Costs.{Matching, price_of}
use Rattle.rules.specs.Held.{kept_price, gap}
use Rattle.rules.specs.Calls.{Call, kept, reported, Point}
use Rattle.rules.specs.Demand.{Tells, Answers, At, Each, Holds}
use Rattle.messages.proofs.Trace.{Trace}
use Rattle.messages.proofs.Whole.{whole}

-- a matching has this price, and none a lower one
pub record Cheapest (I : Instance) (price : ℤ) : Type 0 where
  pub matching : List ℕ
  pub one_to_one : Matching I matching
  pub priced : price_of I matching ≡ price
  pub least : (x : List ℕ) → Matching I x → price ≤ℤ price_of I x

-- of a point: a report made there whose gap is 0 answers the cheapest cost
abbrev pub TrueZero : Instance → Point → Type 0
TrueZero I p = (bound cost : ℤ) → p.answer ≡ reported (kept bound cost (pos 0)) → Cheapest I cost

-- a matching is kept there, its price is the report's cost, and every other costs at least that less the gap, which is 0
pub true_zero : (I : Instance) (p : Point) → At I p → TrueZero I p
true_zero I p a bound cost e =
    let t : Tells I p.buffers (kept bound cost (pos 0)) = subst (Answers I p.buffers) e a.told in
    record {
      matching = p.buffers.incumbent;
      one_to_one = a.matched t.0;
      priced = sym t.2;
      least = λ x m. omega (linear, a.near t.0 x m, sub (kept_price I p.buffers) (gap I p.buffers), t.2, t.3);
    }

every_point : (I : Instance) (ps : List Point) → Holds I ps → Each I (TrueZero I) ps
every_point I [] h = tt
every_point I (p ∷ ps) h = (true_zero I p h.0, every_point I ps h.2)

-- every report of every trace
pub gap_zero : (s : List ℕ) (cs : List Call) (ps : List Point) → Trace s cs ps → Each (instance_of s) (TrueZero (instance_of s)) ps
gap_zero s cs ps t = every_point (instance_of s) ps (whole.held s cs ps t).1
