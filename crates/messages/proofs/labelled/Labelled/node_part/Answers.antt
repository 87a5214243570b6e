-- `node_part` meets its contract: after u turns the sum is that of the first u nodes.
use Rattle.std.proofs.Common.{◌≡◌, ℕ, ◌+◌, ◌<◌, ◌≤◌, get_or, ◌+ℤ◌, nat_abs, sym, ap, ◌∙◌, arith, to_z-of_z, w64, SFits, to_z}
use Rattle.integers.proofs.Bits.{same}
use Rattle.instance.specs.Sheet.{instance_of}
use Rattle.instance.proofs.Sheets.{proper, nodes_few, positions_is, positions_few, node_there}
use Rattle.rules.specs.Costs.{chosen}
use Rattle.messages.proofs.SumLaws.{added_none, added_fits, added_more, added_all}
use Rattle.messages.proofs.IncumbentLaws.{place_is, place_in}
use Rattle.messages.proofs.labelled.Labelled.node_part.Goals as goal
use Rattle.messages.proofs.labelled.Labelled.node_part.Goals.{After-node_price-sum, In-loop-u}

-- in a turn
module _ (p : In-loop-u) where
  abbrev place : ℕ
  place = get_or p.args.self.now.sheet.now.starts p.loop-u.u 0 + get_or p.args.self.now.x.now p.loop-u.u 0

  inside : place < p.args.self.now.sheet.now.positions
  inside = place_in p.args.self.now.sheet.now p.args.self.now.x.now p.loop-u-test.true (p.args.self.now.labelling.within p.loop-u.u (node_there p.args.self.now.sheet.now p.loop-u-test.true))

-- the price that was read
module _ (c : After-node_price-sum) where
  abbrev turn : In-loop-u
  turn = (goal.at.After-node_price-sum c).In-loop-u

  price : c.node_price-sum.result ≡ (instance_of c.args.self.now.sheet.now.bytes.now).node_price (chosen (instance_of c.args.self.now.sheet.now.bytes.now) c.args.self.now.x.now c.loop-u.u)
  price =
      c.node_price-sum.ensures
      ∙ ap (instance_of c.args.self.now.sheet.now.bytes.now).node_price (ap (λ (z : ℕ). get_or c.args.self.now.sheet.now.starts c.loop-u.u 0 + z) c.from.ensures ∙ place_is c.args.self.now.sheet.now c.args.self.now.x.now c.loop-u-test.true)

  small : nat_abs c.node_price-sum.result ≤ 1_000_000
  small = rw (price, sym (place_is c.args.self.now.sheet.now c.args.self.now.x.now c.loop-u-test.true)) ((proper c.args.self.now.sheet.now).node_priced (place turn) (omega (arith, inside turn, positions_is c.args.self.now.sheet.now)))

  fits : SFits w64 (to_z w64 c.loop-u.sum-bits +ℤ c.node_price-sum.result)
  fits = added_fits c.loop-u.invariant c.node_price-sum.result small (omega arith) (omega (arith, c.loop-u-test.true, nodes_few c.args.self.now.sheet.now))

pub loop-u-init : goal.loop-u-init
loop-u-init c = added_none _ _

pub offset_bounds-sheet-u : goal.offset_bounds-sheet-u
offset_bounds-sheet-u c = omega (arith, c.loop-u-test.true, nodes_few c.args.self.now.sheet.now)

pub bounds-sheet-u : goal.bounds-sheet-u
bounds-sheet-u c = omega (arith, c.loop-u-test.true, nodes_few c.args.self.now.sheet.now)

pub overflow_add-sheet : goal.overflow_add-sheet
overflow_add-sheet c = omega (arith, inside (goal.at.overflow_add-sheet c).In-loop-u, positions_few c.args.self.now.sheet.now, c.from.ensures)

pub node_price-sum-requires : goal.node_price-sum-requires
node_price-sum-requires c = omega (arith, inside (goal.at.node_price-sum-requires c).In-loop-u, c.from.ensures)

pub overflow_add-sum : goal.overflow_add-sum
overflow_add-sum c = rw (same c.node_price-sum.result c.node_price-sum.type_inv) (fits c)

pub loop-u-preserved : goal.loop-u-preserved
loop-u-preserved c =
    rw (same c.node_price-sum.result c.node_price-sum.type_inv, to_z-of_z (fits c)) (added_more c.loop-u.invariant c.node_price-sum.result (small c) (price c))

pub returns : goal.returns
returns c =
    let d = added_all c.loop-u.invariant (omega arith) c.loop-u-test.false in
    (d.0, omega (arith, d.1, nodes_few c.args.self.now.sheet.now))
