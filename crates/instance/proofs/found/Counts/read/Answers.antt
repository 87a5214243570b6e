-- `Counts::read` meets its contract: the trailer's counts and their limits.
use Rattle.std.proofs.Common.{◌≡◌, ◌+◌, ℕ, List, ap, ◌∙◌, arith, lit<}
use Rattle.instance.specs.Bytes.{byte, pair_at}
use Rattle.instance.specs.Sheet.{instance_of, trailer, checks}
use Rattle.instance.specs.Passes.{PassedTo}
use Rattle.instance.proofs.Stages.{nodes_over, labels_over, edges_over, counts_good, degrees_short, degrees_fit_lem, passed_at, refused_at}
use Rattle.instance.proofs.found.Counts.read.Goals as goal
use Rattle.instance.proofs.found.Counts.read.Goals.{After-pair-edges}

-- where the counts are read
module _ (p : After-pair-edges) where
  abbrev sheet : List ℕ
  sheet = p.args.bytes.now

  marked : PassedTo sheet 2
  marked = p.in_ok-at.ensures.1

  begins : p.in_ok-at.at ≡ trailer sheet
  begins = omega (arith, p.in_ok-at.ensures.0)

  en : p.from-nodes.result ≡ (instance_of sheet).node_count
  unfolding instance_of
  en = p.from-nodes.ensures ∙ ap (byte sheet) begins

  el : p.from-labels.result ≡ (instance_of sheet).label_count
  unfolding instance_of
  el = p.from-labels.ensures ∙ ap (λ (at : ℕ). byte sheet (at + 1)) begins

  ee : p.pair-edges.result ≡ (instance_of sheet).edge_count
  unfolding instance_of
  ee = p.pair-edges.ensures.0 ∙ ap (λ (at : ℕ). pair_at sheet (at + 2)) begins

pub returns-then-nodes-gt64 : goal.returns-then-nodes-gt64
unfolding checks
returns-then-nodes-gt64 c =
    let p = (goal.at.returns-then-nodes-gt64 c).After-pair-edges in refused_at (sheet p) 2 (lit< tt) (marked p) (nodes_over (sheet p) (en p) (el p) (ee p) c.if-nodes-gt64.true)

pub returns-then-labels-gt64 : goal.returns-then-labels-gt64
unfolding checks
returns-then-labels-gt64 c =
    let p = (goal.at.returns-then-labels-gt64 c).After-pair-edges in refused_at (sheet p) 2 (lit< tt) (marked p) (labels_over (sheet p) (en p) (el p) (ee p) c.if-nodes-gt64.false c.if-labels-gt64.true)

pub returns-then-edges-gt256 : goal.returns-then-edges-gt256
unfolding checks
returns-then-edges-gt256 c =
    let p = (goal.at.returns-then-edges-gt256 c).After-pair-edges in
    refused_at (sheet p) 2 (lit< tt) (marked p) (edges_over (sheet p) (en p) (el p) (ee p) c.if-nodes-gt64.false c.if-labels-gt64.false c.if-edges-gt256.true)

pub returns-then-bytes-nodes : goal.returns-then-bytes-nodes
unfolding checks
returns-then-bytes-nodes c =
    let p = (goal.at.returns-then-bytes-nodes c).After-pair-edges in
    refused_at (sheet p) 3 (lit< tt)
    (passed_at (sheet p) 2 (lit< tt) (marked p) (counts_good (sheet p) (en p) (el p) (ee p) c.if-nodes-gt64.false c.if-labels-gt64.false c.if-edges-gt256.false))
    (degrees_short (sheet p) (en p) (el p) (ee p) c.if-bytes-nodes.true)

pub invariant_of-result : goal.invariant_of-result
unfolding checks
invariant_of-result c =
    let p = (goal.at.invariant_of-result c).After-pair-edges in
    record {
      counted = record {
        long = omega (arith, p.in_ok-at.ensures.0);
        nodes = en p;
        few_nodes = c.if-nodes-gt64.false;
        known = el p;
        few_labels = c.if-labels-gt64.false;
        all = ee p;
        few_edges = c.if-edges-gt256.false;
        room = c.if-bytes-nodes.false;
      };
      passed = passed_at (sheet p) 3 (lit< tt)
          (passed_at (sheet p) 2 (lit< tt) (marked p) (counts_good (sheet p) (en p) (el p) (ee p) c.if-nodes-gt64.false c.if-labels-gt64.false c.if-edges-gt256.false))
          (degrees_fit_lem (sheet p) (en p) (el p) (ee p) c.if-bytes-nodes.false);
    }
