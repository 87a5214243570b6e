-- `length_of` meets its contract: the places whose label is not 255 are counted.
use native.Mathlib.Omega.{arith}
use Rattle.instance.proofs.Sheets.{edges_few, positions_is, positions_few}
use Rattle.schedule.proofs.IndexedSheet.{exclusive_nodes, length_is}
use Rattle.schedule.proofs.sweep.length_of.Goals as goal

pub length_by-requires : goal.length_by-requires
length_by-requires c =
    let x = c.args.sheet.now in
    (omega (arith, edges_few x), omega (arith, c.exclusive_places-places.ensures, exclusive_nodes x, positions_is x, positions_few x))

pub returns : goal.returns
returns c = omega (arith, c.length_by.ensures, c.exclusive_places-places.ensures, length_is c.args.sheet.now)
