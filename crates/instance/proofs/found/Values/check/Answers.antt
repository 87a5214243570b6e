-- `check` meets its contract: the labels, the prices and the usable cells.
use Rattle.std.proofs.Common.{◌≡◌, true, List, ℕ, sym, ◌∙◌, lit<}
use Rattle.instance.specs.Sheet.{labels_ok, prices_ok, checks}
use Rattle.instance.specs.Passes.{PassedTo}
use Rattle.instance.proofs.Stages.{passed_at, passed_all, refused_at}
use Rattle.instance.proofs.UsableCells.{usable_asked}
use Rattle.instance.proofs.found.Values.check.Goals as goal

-- past the labels, and past the prices
module _ (s : List ℕ) (p : PassedTo s 9) (l : labels_ok s ≡ true) where
  known : PassedTo s 10
  unfolding checks
  known = passed_at s 9 (lit< tt) p l

  priced : prices_ok s ≡ true → PassedTo s 11
  unfolding checks
  priced e = passed_at s 10 (lit< tt) known e

pub returns-then-not-labels_ok : goal.returns-then-not-labels_ok
unfolding checks
returns-then-not-labels_ok c =
    let x = c.args.self.now.found in refused_at x.nodes.counts.bytes.now 9 (lit< tt) x.passed (sym c.labels_ok.ensures ∙ c.if-not-labels_ok.true)

pub returns-then-not-all_prices_ok : goal.returns-then-not-all_prices_ok
unfolding checks
returns-then-not-all_prices_ok c =
    let x = c.args.self.now.found in
    refused_at x.nodes.counts.bytes.now 10 (lit< tt) (known _ x.passed (sym c.labels_ok.ensures ∙ c.if-not-labels_ok.false)) (sym c.all_prices_ok.ensures ∙ c.if-not-all_prices_ok.true)

pub invariant_of-cells : goal.invariant_of-cells
invariant_of-cells c =
    let x = c.args.self.now.found in
    record { asked = usable_asked _ x.laid c.args.self.now.begun c.ends_at.ensures.0 (sym c.labels_ok.ensures ∙ c.if-not-labels_ok.false); all = x.laid.begun.counted.all }

pub returns-then-not-edges_usable : goal.returns-then-not-edges_usable
unfolding checks
returns-then-not-edges_usable c =
    let x = c.args.self.now.found in
    refused_at x.nodes.counts.bytes.now 11 (lit< tt) (priced _ x.passed (sym c.labels_ok.ensures ∙ c.if-not-labels_ok.false) (sym c.all_prices_ok.ensures ∙ c.if-not-all_prices_ok.false)) (sym c.edges_usable.ensures ∙ c.if-not-edges_usable.true)

pub returns : goal.returns
unfolding checks
returns c =
    let x = c.args.self.now.found in
    passed_all _ (passed_at x.nodes.counts.bytes.now 11 (lit< tt) (priced _ x.passed (sym c.labels_ok.ensures ∙ c.if-not-labels_ok.false) (sym c.all_prices_ok.ensures ∙ c.if-not-all_prices_ok.false)) (sym c.edges_usable.ensures ∙ c.if-not-edges_usable.false))
