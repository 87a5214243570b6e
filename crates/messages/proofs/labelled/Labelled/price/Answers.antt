-- `price` meets its contract: the nodes' part and the edges', neither large.
use Rattle.std.proofs.Common.{ℕ, ◌≤◌, ℤ, ◌+ℤ◌, nat_abs, sym, ap, ◌∙◌, subst, ap₂, arith, to_z-of_z, w64, SFits}
use Rattle.integers.specs.Places.{total}
use Rattle.integers.proofs.Parts.{linear, add, abs}
use Rattle.integers.proofs.Sum.{abs_add}
use Rattle.integers.proofs.Bits.{same}
use Rattle.instance.specs.Sheet.{instance_of}
use Rattle.instance.proofs.Sheets.{nodes_is, edges_is}
use Rattle.rules.specs.Costs.{chosen, chosen_cell}
use Rattle.messages.proofs.IncumbentLaws.{price_parts}
use Rattle.messages.proofs.labelled.Labelled.price.Goals as goal
use Rattle.messages.proofs.labelled.Labelled.price.Goals.{After-edge_part}

module _ (c : After-edge_part) where
  abbrev a : ℤ
  a = c.node_part.result

  abbrev b : ℤ
  b = c.edge_part.result

  fits : SFits w64 (a +ℤ b)
  fits = omega (linear, add a b, abs a, abs b, c.node_part.ensures.1, c.edge_part.ensures.1)

pub overflow_add-result : goal.overflow_add-result
overflow_add-result c = rw (same (a c) c.node_part.type_inv, same (b c) c.edge_part.type_inv) (fits c)

pub returns : goal.returns
returns c =
    let q = c.args.self.now.sheet.now in
    let J = instance_of q.bytes.now in
    let x = c.args.self.now.x.now in
    let e = to_z-of_z (overflow_add-result c) ∙ ap₂ ◌+ℤ◌ (same (a c) c.node_part.type_inv) (same (b c) c.edge_part.type_inv) in (
      e ∙ price_parts J x (c.node_part.ensures.0 ∙ ap (λ (k : ℕ). total k (λ u. J.node_price (chosen J x u))) (nodes_is q)) (c.edge_part.ensures.0 ∙ ap (λ (k : ℕ). total k (λ e. J.edge_price (chosen_cell J x e))) (edges_is q)),
      subst (λ (z : ℤ). nat_abs z ≤ 320_000_000) (sym e) (omega (arith, abs_add (a c) (b c), c.node_part.ensures.1, c.edge_part.ensures.1)),
    )
