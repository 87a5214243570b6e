-- `cost` meets its contract: the cost stands at the label's rank.
use Rattle.std.proofs.Common.{rules, arith, ◌∙◌, get_or, to_z-of_z, w64, pos, ◌+◌}
use Rattle.placing.specs.Words.{entry}
use Rattle.placing.proofs.Offering.{start_few, rank_few, paid_is}
use Rattle.placing.proofs.offers.Offers.cost.Goals as goal

pub rank_of-requires : goal.rank_of-requires
rank_of-requires c = omega (arith, rank_few c.args.self.now c.requires.0 c.args.l c.requires.1)

pub overflow_add-result : goal.overflow_add-result
overflow_add-result c = omega (arith, start_few c.args.self.now c.requires.0, c.from-k.ensures, c.rank_of.ensures, rank_few c.args.self.now c.requires.0 c.args.l c.requires.1)

pub offset_bounds-self-self : goal.offset_bounds-self-self
offset_bounds-self-self c = omega (arith, start_few c.args.self.now c.requires.0, c.from-k.ensures, c.rank_of.ensures, rank_few c.args.self.now c.requires.0 c.args.l c.requires.1)

pub bounds-self-self : goal.bounds-self-self
bounds-self-self c = omega (arith, c.from-k.ensures, c.rank_of.ensures, rank_few c.args.self.now c.requires.0 c.args.l c.requires.1)

pub returns : goal.returns
returns c =
    let o = c.args.self.now in
    to_z-of_z {w = w64} {z = get_or o.costs.now (entry o.sheet.now.starts c.args.u + c.from-k.result) (pos 0)} (search rules)
    ∙ paid_is o c.requires.0 c.args.l c.from-k.result (c.from-k.ensures ∙ c.rank_of.ensures)
