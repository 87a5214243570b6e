-- `search` meets its contract: a label of the start that is a goal is met after no step.
use Rattle.std.proofs.Common.{rules}
use Rattle.placing.proofs.Searching.{searching_begun}
use Rattle.placing.proofs.seats.Seats.search.Goals as goal

pub layers-requires : goal.layers-requires
layers-requires c = (c.requires, c.if-begun-eq0.true)

pub returns : goal.returns
returns c = rw c.lowest-label.ensures (searching_begun (search rules) (search rules) c.ranges.start.fits c.requires c.if-begun-eq0.false)
