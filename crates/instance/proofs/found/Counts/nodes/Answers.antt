-- `nodes` meets its contract: the degrees, and room for the ends.
use Rattle.std.proofs.Common.{◌≡◌, ℕ, ◌≤◌, true, List, ap, ◌∙◌, arith, lit<}
use Rattle.instance.specs.declared.found.Counts.{Counts}
use Rattle.instance.specs.Instance.{node_cells}
use Rattle.instance.specs.Refusal.{number}
use Rattle.instance.specs.Sheet.{instance_of, degrees_ok, checks}
use Rattle.instance.specs.Passes.{Degrees, degrees, degrees_in, good_degrees}
use Rattle.instance.proofs.Stages.{told, untold, positions_few_lem, ends_short, ends_fit_lem, passed_at, refused_at}
use Rattle.instance.proofs.Told.{handed_on}
use Rattle.instance.proofs.found.Counts.nodes.Goals as goal
use Rattle.instance.proofs.found.Counts.nodes.Goals.{In_ok-positions}

-- past the test of the degrees: they are good, N is their sum and at most 1,024
module _ (q : In_ok-positions) where
  abbrev x : Counts
  x = q.args.self

  abbrev s : List ℕ
  s = x.bytes.now

  good : (degrees_ok s ≡ true) × (degrees q.in_ok-positions.positions q.read_degrees.new.starts ≡ good_degrees s)
  good = told (degrees_ok s) _ (λ (k : ℕ). degrees k q.read_degrees.new.starts) _ _ q.read_degrees.ensures q.in_ok-positions.ensures.value

  total : q.in_ok-positions.positions ≡ node_cells (instance_of s)
  total = ap (λ (x : Degrees). x.total) good.1

  few : q.in_ok-positions.positions ≤ 1_024
  few = omega (arith, total, positions_few_lem s x.counted good.0)

pub returns-in_err-positions : goal.returns-in_err-positions
unfolding checks
returns-in_err-positions c =
    let s = c.args.self.bytes.now in
    let (t, e) = untold (degrees_ok s) _ (λ (k : ℕ). degrees k c.read_degrees.new.starts) _ _ c.read_degrees.ensures c.in_err-positions.ensures.value in
    rw (handed_on _ _ c.from_residual.ensures.1) (ap number e ∙ refused_at s 4 (lit< tt) c.args.self.passed t)

pub overflow_mul-positions : goal.overflow_mul-positions
overflow_mul-positions c = omega (arith, few (goal.at.overflow_mul-positions c).In_ok-positions)

pub overflow_add-self : goal.overflow_add-self
overflow_add-self c = omega (arith, few (goal.at.overflow_add-self c).In_ok-positions, c.args.self.counted.few_nodes)

pub overflow_add-self-2 : goal.overflow_add-self-2
overflow_add-self-2 c = omega (arith, few (goal.at.overflow_add-self-2 c).In_ok-positions, c.args.self.counted.few_nodes, c.args.self.counted.few_edges)

pub overflow_add-self-3 : goal.overflow_add-self-3
overflow_add-self-3 c = omega (arith, few (goal.at.overflow_add-self-3 c).In_ok-positions, c.args.self.counted.few_nodes, c.args.self.counted.few_edges)

pub returns-then-self-positions : goal.returns-then-self-positions
unfolding checks
returns-then-self-positions c =
    let q = (goal.at.returns-then-self-positions c).In_ok-positions in
    refused_at (s q) 5 (lit< tt) (passed_at (s q) 4 (lit< tt) (x q).passed (good q).0) (ends_short (s q) (x q).counted (good q).0 (total q) c.if-self-positions.true)

pub invariant_of-result : goal.invariant_of-result
unfolding checks
invariant_of-result c =
    let q = (goal.at.invariant_of-result c).In_ok-positions in
    record {
      begun = record { counted = (x q).counted; small = (good q).0; begun = ap (degrees_in (s q)) (total q); room = rw (total q) at c.if-self-positions.false };
      passed = passed_at (s q) 5 (lit< tt) (passed_at (s q) 4 (lit< tt) (x q).passed (good q).0) (ends_fit_lem (s q) (x q).counted (good q).0 (total q) c.if-self-positions.false);
    }
