-- `edge_part` meets its contract: after e turns the sum is that of the first e edges.
use Rattle.std.proofs.Common.{◌≤◌, ◌+ℤ◌, nat_abs, ap, ◌∙◌, arith, to_z-of_z, w64, SFits, to_z}
use Rattle.integers.proofs.Bits.{same}
use Rattle.instance.specs.Sheet.{instance_of}
use Rattle.instance.proofs.Sheets.{proper, edges_few, cells_is}
use Rattle.messages.proofs.SumLaws.{added_none, added_fits, added_more, added_all}
use Rattle.messages.proofs.labelled.Labelled.edge_part.Goals as goal
use Rattle.messages.proofs.labelled.Labelled.edge_part.Goals.{After-edge_price-sum}

-- the price that was read
module _ (c : After-edge_price-sum) where
  small : nat_abs c.edge_price-sum.result ≤ 1_000_000
  small = rw c.edge_price-sum.ensures ((proper c.args.self.now.sheet.now).edge_priced c.cell_of.result (omega (arith, c.cell_of.ensures.1, cells_is c.args.self.now.sheet.now)))

  fits : SFits w64 (to_z w64 c.loop-e.sum-bits +ℤ c.edge_price-sum.result)
  fits = added_fits c.loop-e.invariant c.edge_price-sum.result small (omega arith) (omega (arith, c.loop-e-test.true, edges_few c.args.self.now.sheet.now))

pub loop-e-init : goal.loop-e-init
loop-e-init c = added_none _ _

pub overflow_add-sum : goal.overflow_add-sum
overflow_add-sum c = rw (same c.edge_price-sum.result c.edge_price-sum.type_inv) (fits c)

pub loop-e-preserved : goal.loop-e-preserved
loop-e-preserved c =
    rw (same c.edge_price-sum.result c.edge_price-sum.type_inv, to_z-of_z (fits c))
    (added_more c.loop-e.invariant c.edge_price-sum.result (small c) (c.edge_price-sum.ensures ∙ ap (instance_of c.args.self.now.sheet.now.bytes.now).edge_price c.cell_of.ensures.0))

pub returns : goal.returns
returns c =
    let d = added_all c.loop-e.invariant (omega arith) c.loop-e-test.false in
    (d.0, omega (arith, d.1, edges_few c.args.self.now.sheet.now))
