-- `cheapest` meets its contract: the smallest of the placings on tight cells that take all labels with a price; or none.
use Rattle.std.proofs.Common.{◌≡◌, sym, ap, ◌∙◌, subst, List, ℕ, ℤ, ◌≤◌, ◌<◌, arith, Some, get_or}
use Rattle.integers.specs.Places.{tabulate}
use Rattle.instance.specs.declared.sheet.Sheet.{Sheet}
use Rattle.instance.specs.Instance.{Instance}
use Rattle.instance.specs.Sheet.{instance_of}
use Rattle.instance.proofs.Sheets.{proper, nodes_is, nodes_few}
use Rattle.assignment.specs.First.{First}
use mathlib.Core.Option.{some}
use Rattle.rules.specs.Assigned.{assignment}
use Rattle.placing.specs.declared.tables.Nodes.{Nodes}
use Rattle.placing.specs.declared.seats.Seats.{Seats}
use Rattle.placing.specs.Assigning.{node_costs, rounded_by, Seatable}
use Rattle.placing.proofs.Answers.{ranks}
use Rattle.placing.specs.Words.{entry, All, Full, rank, Laid, Linked, Seated}
use Rattle.placing.specs.Priced.{cost_at, Priced, Tight}
use Rattle.placing.proofs.Undercut.{takes_own, tight_seatable, tight_seated, priced_filled, none_assigned, found_assigned, found_few}
use Rattle.placing.proofs.assigning.cheapest.Goals as goal
use Rattle.placing.proofs.assigning.cheapest.Goals.{After-lay_words-nodes, In_ok-prices, After-smallest_full-taken}

-- the nodes laid out are the sheet's
module _ (t : After-lay_words-nodes) where
  abbrev x : Sheet
  x = t.args.costed.now.sheet.now

  abbrev I : Instance
  I = instance_of x.bytes.now

  abbrev nodes : Nodes
  nodes = t.lay_words-nodes.result

  count_is : nodes.count ≡ I.node_count
  count_is = t.lay_words-nodes.ensures.0 ∙ nodes_is x

  words : Laid I I.node_count nodes.sets nodes.own
  words = subst (λ n. Laid I n nodes.sets nodes.own) (nodes_is x) t.lay_words-nodes.ensures.1

  few : I.node_count ≤ 64
  few = omega (arith, nodes_is x, nodes_few x)

pub returns-in_err-prices : goal.returns-in_err-prices
unfolding rounded_by
returns-in_err-prices c =
    let t = (goal.at.returns-in_err-prices c).After-lay_words-nodes in
    let none_placed = subst (λ n. (q : ℕ → ℕ) → All n (nodes t).sets (nodes t).own q → ⊥) (count_is t) c.in_err-prices.ensures.placed in
    c.from_residual.ensures ∙ ap rounded_by (sym (none_assigned (proper (x t)) (words t) (node_costs t.args.costed.now.costs.now) none_placed))

-- the nodes as they were placed at least cost
module _ (t : In_ok-prices) where
  abbrev begun : After-lay_words-nodes
  begun = (goal.at.In_ok-prices t).After-lay_words-nodes

  abbrev s : Seats
  s = t.assign_all.new.self

  abbrev c : ℕ → ℕ → ℤ
  c = cost_at (I begun) (nodes begun).sets t.args.costed.now.costs.now

  linked : Linked (nodes begun).sets s.taken s.holders s.reach s.free
  linked = subst (λ m. Linked m.sets s.taken s.holders s.reach s.free) (t.in_ok-prices.ensures.same ∙ t.new-seats.ensures.0) s.linked

  seated : Seated (nodes begun).own 64 (nodes begun).count s.taken
  seated = t.in_ok-prices.ensures.placed.0

  priced : Priced (λ u. u < (nodes begun).count) (nodes begun).sets (nodes begun).own c s.taken s.free t.in_ok-prices.prices
  priced = t.in_ok-prices.ensures.placed.1

pub tight-tight-requires-clause-taken : goal.tight-tight-requires-clause-taken
tight-tight-requires-clause-taken c = let t = (goal.at.tight-tight-requires-clause-taken c).In_ok-prices in takes_own (nodes (begun t)).few (priced t) (linked t) (seated t)

pub smallest_full-taken-requires-clause-seatable : goal.smallest_full-taken-requires-clause-seatable
smallest_full-taken-requires-clause-seatable c =
    let t = (goal.at.smallest_full-taken-requires-clause-seatable c).In_ok-prices in
    subst (λ n. Seatable n c.tight-tight.result.sets (s t).taken) (sym c.tight-tight.ensures.count) (tight_seatable (nodes (begun t)).few (priced t) (linked t) (seated t) c.tight-tight.ensures.tight)

pub smallest_full-taken-requires-clause-seated : goal.smallest_full-taken-requires-clause-seated
smallest_full-taken-requires-clause-seated c =
    let t = (goal.at.smallest_full-taken-requires-clause-seated c).In_ok-prices in
    subst (λ n. Seated c.tight-tight.result.own 64 n (s t).taken) (sym c.tight-tight.ensures.count) (tight_seated (nodes (begun t)).few (priced t) (linked t) (seated t) c.tight-tight.ensures.tight)

pub smallest_full-taken-requires-clause-filled : goal.smallest_full-taken-requires-clause-filled
smallest_full-taken-requires-clause-filled c =
    let t = (goal.at.smallest_full-taken-requires-clause-filled c).In_ok-prices in priced_filled (nodes (begun t)).few (priced t) (linked t) (seated t) c.unpriced.ensures

-- the smallest on tight cells
module _ (d : After-smallest_full-taken) where
  abbrev t : In_ok-prices
  t = (goal.at.After-smallest_full-taken d).In_ok-prices

  abbrev b : After-lay_words-nodes
  b = begun t

  module _ (e : (nodes b).count ≡ (I b).node_count) where
    all_priced : Priced (λ u. u < (I b).node_count) (nodes b).sets (nodes b).own (c t) (s t).taken (s t).free t.in_ok-prices.prices
    all_priced = subst (λ n. Priced (λ u. u < n) (nodes b).sets (nodes b).own (c t) (s t).taken (s t).free t.in_ok-prices.prices) e (priced t)

    all_seated : Seated (nodes b).own 64 (I b).node_count (s t).taken
    all_seated = subst (λ n. Seated (nodes b).own 64 n (s t).taken) e (seated t)

    all_tight : Tight (I b).node_count (nodes b).sets (nodes b).own (c t) (s t).taken t.in_ok-prices.prices d.tight-tight.result.sets d.tight-tight.result.own
    all_tight = subst (λ n. Tight n (nodes b).sets (nodes b).own (c t) (s t).taken t.in_ok-prices.prices d.tight-tight.result.sets d.tight-tight.result.own) e d.tight-tight.ensures.tight

    found : First (Full (I b).node_count d.tight-tight.result.sets d.tight-tight.result.own d.unpriced.result) (I b).node_count (entry d.smallest_full-taken.result)
    found = subst (λ n. First (Full n d.tight-tight.result.sets d.tight-tight.result.own d.unpriced.result) n (entry d.smallest_full-taken.result)) (d.tight-tight.ensures.count ∙ e) d.smallest_full-taken.ensures

    assigned : assignment (I b) (node_costs t.args.costed.now.costs.now) ≡ some (ranks (I b).node_count (nodes b).sets (entry d.smallest_full-taken.result))
    assigned = found_assigned (proper (x b)) (few b) (words b) t.args.costed.now.costs.now all_priced (linked t) all_seated all_tight d.unpriced.ensures found

    rank_small : (u : ℕ) → u < (I b).node_count → rank (entry (nodes b).sets u) (entry d.smallest_full-taken.result u) < 16
    rank_small = found_few (proper (x b)) (few b) (words b) t.args.costed.now.costs.now all_priced (linked t) all_seated all_tight d.unpriced.ensures found

pub positions-requires : goal.positions-requires
positions-requires c u h =
    let d = (goal.at.positions-requires c).After-smallest_full-taken in let e = count_is (b d) in rank_small d e u (omega (arith, e))

pub returns : goal.returns
unfolding rounded_by
returns c =
    let d = (goal.at.returns c).After-smallest_full-taken in
    let e = count_is (b d) in
    let f : ℕ → ℕ = (λ u. rank (entry (nodes (b d)).sets u) (entry c.smallest_full-taken.result u)) in
    ap (λ (y : List ℕ). Some y) (c.positions.ensures ∙ ap (λ (n : ℕ). tabulate 64 (λ k. get_or (tabulate n f) k 0)) e) ∙ ap rounded_by (sym (assigned d e))
