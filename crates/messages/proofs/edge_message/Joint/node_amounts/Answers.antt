-- `node_amounts` meets its contract. The loop's invariant: the first k places hold what those positions give, and the others 0.
use Rattle.std.proofs.Common.{◌≡◌, get_or, ℤ, pos, ◌-ℤ◌, ◌∙◌, ap₂, w64, to_z, of_z, arith, to_z-of_z, rules}
use Rattle.integers.specs.Least.{least_of}
use Rattle.integers.specs.Share.{share}
use Rattle.integers.proofs.Bits.{answer}
use Rattle.rules.specs.Calls.{cost_limit}
use Rattle.messages.proofs.RowLaws.{least_of_within}
use Rattle.messages.proofs.OverLaws.{written_start, written_more, written_all}
use Rattle.messages.proofs.EdgeLaws.{node_is}
use Rattle.messages.proofs.edge_message.Joint.node_amounts.Goals as goal
use Rattle.messages.proofs.edge_message.Joint.node_amounts.Goals.{After-least_of-low, After-loop-k}

-- the least read back
low : (c : After-least_of-low) → to_z w64 (of_z w64 c.least_of-low.result) ≡ least_of c.args.self.now.row.now
low c = answer c.least_of-low.type_inv c.least_of-low.ensures

pub share_of-requires : goal.share_of-requires
share_of-requires c =
    let l = c.args.self.now.row.now in
    let k = c.loop-k.k in
    rw (low (goal.at.share_of-requires c).After-least_of-low, to_z-of_z {w = w64} {z = get_or l k (pos 0)} (search rules)) (c.args.self.now.joined.row_range k, least_of_within cost_limit l c.args.self.now.joined.row_range)

pub loop-k-preserved : goal.loop-k-preserved
loop-k-preserved c =
    written_more c.loop-k.invariant (omega arith)
    (answer c.share_of.type_inv c.share_of.ensures
    ∙ ap₂ (λ (x b : ℤ). share (x -ℤ b) c.args.share.parts) (to_z-of_z {w = w64} {z = get_or c.args.self.now.row.now c.loop-k.k (pos 0)} (search rules)) (low (goal.at.loop-k-preserved c).After-least_of-low))

pub loop-k-init : goal.loop-k-init
loop-k-init c = written_start _ _ c.requires.zeros c.args.self.now.joined.few

pub returns : goal.returns
returns c = let x = c.args.self.now in written_all c.loop-k.invariant (omega arith) ∙ node_is x.row.now c.args.share.parts x.joined.few
