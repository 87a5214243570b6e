-- `all_prices_ok` meets its contract: the node prices, and then the edge prices.
use Rattle.std.proofs.Common.{sym, refl, ◌∙◌}
use Rattle.instance.proofs.Stages.{total_is, cells_is, prices_by}
use Rattle.instance.proofs.found.Edges.all_prices_ok.Goals as goal

pub returns-then-prices_ok : goal.returns-then-prices_ok
returns-then-prices_ok c =
    let l = c.args.self.now.laid in
    c.prices_ok-then-prices_ok.ensures
    ∙ sym (prices_by _ c.prices_at.ensures.0 c.edge_prices_at.ensures.0 (cells_is _ l.begun l.tabled) (total_is _ l.begun) ∙ rw (sym c.prices_ok.ensures ∙ c.if-prices_ok.true))

pub returns-else-prices_ok : goal.returns-else-prices_ok
returns-else-prices_ok c =
    let l = c.args.self.now.laid in
    c.if-prices_ok.false
    ∙ sym (prices_by _ c.prices_at.ensures.0 refl (cells_is _ l.begun l.tabled) (total_is _ l.begun) ∙ rw (sym c.prices_ok.ensures ∙ c.if-prices_ok.false))
