-- `edge_amounts` meets its contract: the least of each position, the least of these, and what each gives.
use Rattle.std.proofs.Common.{◌≡◌, ℕ, ◌<◌, ◌≤◌, Bool, List, ◌++◌, length, get_or, take, drop, ℤ, pos, ap, ◌∙◌, arith, length-take-le, get_or-take, w64, to_z, of_z}
use Rattle.integers.specs.Least.{least_of}
use Rattle.integers.specs.Sum.{Within}
use Rattle.integers.proofs.Bits.{answer}
use Rattle.rules.specs.Calls.{cost_limit}
use Rattle.messages.specs.declared.edge_message.Joint.{Joint}
use Rattle.messages.specs.EdgeMessage.{by_rows, usable_cells, edge_amounts, Ends, over, turned_least}
use Rattle.messages.specs.Joints.{least_in}
use Rattle.messages.proofs.OverLaws.{length_over, over_at, over_front}
use Rattle.messages.proofs.EdgeLaws.{zeros}
use Rattle.messages.proofs.UsableLaws.{own_few, low_within, position_within, edge_least_lem, edge_is}
use Rattle.messages.proofs.edge_message.Joint.edge_amounts.Goals as goal
use Rattle.messages.proofs.edge_message.Joint.edge_amounts.Goals.{After-leasts-passed, After-least_of-low, After-turn_all}

-- the end and its table
module _ (j : Joint) where
  abbrev b : Bool
  b = by_rows j.end

  abbrev n : ℕ
  n = length j.own.now

  abbrev ends : Ends b j.own.now j.other.now j.cells.now
  ends = j.joined.ends

  abbrev range : Within cost_limit j.cells.now
  range = j.joined.cell_range

  -- what each position gives
  abbrev given_by : ℕ → List ℤ
  given_by r = edge_amounts b j.own.now j.other.now j.cells.now r

-- the least of each position
module _ (c : After-leasts-passed) where
  abbrev j : Joint
  j = c.args.self.now

  abbrev leasts : List ℤ
  leasts = c.leasts-passed.new.least

  few : n j ≤ 16
  few = own_few (b j) (ends j)

  long : length leasts ≡ 16
  long = ap length c.leasts-passed.ensures.lows ∙ length_over (least_in j) (n j) zeros few

  taken : length (take (n j) leasts) ≡ n j
  taken = length-take-le (n j) leasts (omega (arith, few, long))

  -- where it is read
  module _ (k : ℕ) (h : k < n j) where
    at : get_or leasts k (pos 0) ≡ least_in j k
    at = ap (λ (l : List ℤ). get_or l k (pos 0)) c.leasts-passed.ensures.lows ∙ over_at (least_in j) (n j) zeros k h

    taken_is : get_or (take (n j) leasts) k (pos 0) ≡ get_or leasts k (pos 0)
    taken_is = get_or-take (n j) leasts k (pos 0) h

-- the least of all
module _ (c : After-least_of-low) where
  abbrev p : After-leasts-passed
  p = (goal.at.After-least_of-low c).After-leasts-passed

  low : to_z w64 (of_z w64 c.least_of-low.result) ≡ least_of (usable_cells (b (j p)) (j p).own.now (j p).other.now (j p).cells.now)
  low = answer c.least_of-low.type_inv c.least_of-low.ensures ∙ ap (λ (l : List ℤ). least_of (take (n (j p)) l)) c.leasts-passed.ensures.lows ∙ edge_least_lem (ends (j p)) (range (j p))

pub turn_all-requires : goal.turn_all-requires
turn_all-requires c =
    let l = (goal.at.turn_all-requires c).After-least_of-low in
    let s = p l in
    record {
      low_bound = rw (low l) (low_within (ends (j s)) (range (j s)));
      by_index = λ k h. let m : k < n (j s) = omega (arith, taken s) in rw (taken_is s k m ∙ at s k m) (position_within (ends (j s)) (range (j s)) k);
    }

-- what is given
given : (c : After-turn_all) → c.turn_all.new.least ++ drop (n c.args.self.now) c.leasts-passed.new.least ≡ given_by c.args.self.now c.args.share.parts
given c =
    let l = (goal.at.After-turn_all c).After-least_of-low in
    let s = p l in
    let r = c.args.share.parts in
    let z = to_z w64 (of_z w64 c.least_of-low.result) in
    ap (λ (m : List ℤ). m ++ drop (n (j s)) (leasts s)) c.turn_all.ensures
    ∙ over_front (λ k. turned_least (get_or (take (n (j s)) (leasts s)) k (pos 0)) z r) (λ k. turned_least (get_or (leasts s) k (pos 0)) z r) (leasts s) (taken s) (λ k h. ap (λ (x : ℤ). turned_least x z r) (taken_is s k h))
    ∙ (λ i. let m = c.leasts-passed.ensures.lows i in over (λ k. turned_least (get_or m k (pos 0)) (low l i) r) (n (j s)) m)
    ∙ edge_is (ends (j s)) (range (j s)) r

pub returns-clause-given : goal.returns-clause-given
returns-clause-given c = given (goal.at.returns-clause-given c).After-turn_all
