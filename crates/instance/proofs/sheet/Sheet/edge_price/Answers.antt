-- `edge_price` meets its contract: the edge prices lie in the sheet.
use Rattle.std.proofs.Common.{arith}
use Rattle.instance.proofs.Sheets.{prices_there}
use Rattle.instance.proofs.sheet.Sheet.edge_price.Goals as goal

pub price_in-requires : goal.price_in-requires
price_in-requires c = omega (arith, (prices_there c.args.self.now).1, c.requires)
