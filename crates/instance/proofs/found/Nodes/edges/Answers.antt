-- `edges` meets its contract: the ends, M, the length and the distances.
use Rattle.std.proofs.Common.{◌≡◌, true, List, ℕ, ◌≤◌, sym, ap, ◌∙◌, lit<}
use Rattle.instance.specs.declared.found.Nodes.{Nodes}
use Rattle.instance.specs.Refusal.{number}
use Rattle.instance.specs.Sheet.{ends_ok, checks}
use Rattle.instance.specs.Passes.{Ends, ends, ends_in, good_ends, PassedTo}
use Rattle.instance.proofs.Stages.{laid, told, untold, cells_is, cells_over, cells_good, passed_at, refused_at}
use Rattle.instance.proofs.Told.{handed_on}
use Rattle.instance.proofs.found.Nodes.edges.Goals as goal
use Rattle.instance.proofs.found.Nodes.edges.Goals.{In_ok-cells}

-- past the test of the ends
module _ (q : In_ok-cells) where
  abbrev x : Nodes
  x = q.args.self

  abbrev s : List ℕ
  s = x.counts.bytes.now

  good : (ends_ok s ≡ true) × (ends q.in_ok-cells.cells q.read_ends.new.tables ≡ good_ends s)
  good = told (ends_ok s) _ (λ (k : ℕ). ends k q.read_ends.new.tables) _ _ q.read_ends.ensures q.in_ok-cells.ensures.value

  total : ends_in s q.in_ok-cells.cells ≡ good_ends s
  total = ap (λ (x : Ends). ends_in s x.total) good.1

  ordered : PassedTo s 7
  unfolding checks
  ordered = passed_at s 6 (lit< tt) x.passed good.0

  few : q.in_ok-cells.cells ≤ 4_096 → PassedTo s 8
  unfolding checks
  few h = passed_at s 7 (lit< tt) ordered (cells_good s x.begun total h)

pub returns-in_err-cells : goal.returns-in_err-cells
unfolding checks
returns-in_err-cells c =
    let s = c.args.self.counts.bytes.now in
    let (t, e) = untold (ends_ok s) _ (λ (k : ℕ). ends k c.read_ends.new.tables) _ _ c.read_ends.ensures c.in_err-cells.ensures.value in
    rw (handed_on _ _ c.from_residual.ensures.1) (ap number e ∙ refused_at s 6 (lit< tt) c.args.self.passed t)

pub returns-then-cells-gt4096 : goal.returns-then-cells-gt4096
unfolding checks
returns-then-cells-gt4096 c =
    let q = (goal.at.returns-then-cells-gt4096 c).In_ok-cells in
    refused_at (s q) 7 (lit< tt) (ordered q) (cells_over _ (x q).begun (total q) c.if-cells-gt4096.true)

pub lengths_ok-requires : goal.lengths_ok-requires
lengths_ok-requires c =
    let q = (goal.at.lengths_ok-requires c).In_ok-cells in (cells_is _ (x q).begun (total q), c.if-cells-gt4096.false)

pub invariant_of-result : goal.invariant_of-result
unfolding checks
invariant_of-result c =
    let q = (goal.at.invariant_of-result c).In_ok-cells in
    let e = sym c.lengths_ok.ensures ∙ c.if-lengths_ok.true in
    record {
      laid = laid _ (x q).begun (total q) (good q).0 c.if-cells-gt4096.false e;
      passed = passed_at (s q) 8 (lit< tt) (few q c.if-cells-gt4096.false) e;
    }

pub returns-else-lengths_ok : goal.returns-else-lengths_ok
unfolding checks
returns-else-lengths_ok c =
    let q = (goal.at.returns-else-lengths_ok c).In_ok-cells in
    refused_at (s q) 8 (lit< tt) (few q c.if-cells-gt4096.false) (sym c.lengths_ok.ensures ∙ c.if-lengths_ok.false)
