-- `give` meets its contract: the tables stay linked, and the label is one that the node can leave if it has 255.
use Rattle.std.proofs.Math.Path.{sym, subst₂}
use Prim.Native.Nat.{ℕ}
use lib.Bits.{bit_or, bit_xor}
use lib.ListN.{set}
use Rattle.placing.specs.Words.{entry, Linked, Owning}
use Rattle.placing.proofs.Linking.{linked_take}
use Rattle.placing.proofs.Leaving.{owning_same, owning_more}
use Rattle.placing.proofs.seats.Seats.give.Goals as goal
use Rattle.placing.proofs.seats.Seats.give.Goals.{After-bit_of-word}

-- the tables, whether or not the node has 255
linked : (p : After-bit_of-word) → Linked p.args.self.now.nodes.now.sets (set p.args.self.now.taken p.args.u p.args.l) (set p.args.self.now.holders p.from-at.result p.args.u)
    (set p.args.self.now.reach p.from-at.result (entry p.args.self.now.nodes.now.sets p.args.u)) (bit_xor p.args.self.now.free p.bit_of-word.result)
linked p =
    let q = p.requires in
    let s = p.args.self.now in
    subst₂ (λ (at w : ℕ). Linked s.nodes.now.sets (set s.taken p.args.u p.args.l) (set s.holders at p.args.u) (set s.reach at (entry s.nodes.now.sets p.args.u)) (bit_xor s.free w))
    (sym p.from-at.ensures) (sym p.bit_of-word.ensures) (linked_take s.linked p.args.l q.0 q.1 q.2 q.3 q.4)

pub invariant_of-self : goal.invariant_of-self
invariant_of-self c =
    let q = c.requires in
    let s = c.args.self.now in
    record {
      linked = linked (goal.at.invariant_of-self c).After-bit_of-word;
      owning = subst₂ (λ (at w : ℕ). Owning s.nodes.now.own (set s.holders at c.args.u) (bit_xor s.free w) (bit_or s.owned w))
          (sym c.from-at.ensures) (sym c.bit_of-word.ensures) (owning_more s.owning c.args.u q.1 s.linked.size_holders q.3 c.if-leaves.true);
    }

pub invariant_of-self-else-leaves : goal.invariant_of-self-else-leaves
invariant_of-self-else-leaves c =
    let q = c.requires in
    let s = c.args.self.now in
    record {
      linked = linked (goal.at.invariant_of-self-else-leaves c).After-bit_of-word;
      owning = subst₂ (λ (at w : ℕ). Owning s.nodes.now.own (set s.holders at c.args.u) (bit_xor s.free w) s.owned)
          (sym c.from-at.ensures) (sym c.bit_of-word.ensures) (owning_same s.owning c.args.u q.1 s.linked.size_holders q.3 c.if-leaves.false);
    }
