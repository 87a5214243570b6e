-- `write_members` meets its contract: the bytes so far say which nodes are caught.
-- Assumes nothing.
use Prim.Native.Nat.{ℕ, ◌+◌}
use mathlib.Core.Path.{◌≡◌, sym, ap, ◌∙◌, subst}
use mathlib.Core.Bool.{Bool, cond, ◌&&◌, ◌||◌}
use mathlib.Core.List.{List}
use lib.Dec.{eqb, ltb}
use lib.ListN.{set}
use mir.Val.{bool_byte}
use Rattle.integers.specs.Words.{bit}
use Rattle.integers.proofs.Filling.{Filling, fill_none, fill_more}
use Rattle.placing.specs.Words.{entry, caught}
use Rattle.placing.proofs.Laying.{byte_is}
use Rattle.placing.proofs.answer.write_members.Goals as goal
use Rattle.placing.proofs.answer.write_members.Invariants.{members}

member_is : (root seen : ℕ) (taken : List ℕ) (u : ℕ) {r : Bool} → r ≡ bit seen (entry taken u) → bool_byte (eqb u root || (ltb u root && r)) ≡ members root seen taken u
unfolding caught
member_is root seen taken u {r} e = byte_is (eqb u root || (ltb u root && r)) ∙ ap (λ (b : Bool). cond (eqb u root || (ltb u root && b)) 1 0) e

pub loop-node-init : goal.loop-node-init
loop-node-init c = let q = c.args.unplaced.now in fill_none (members q.root q.seen q.taken) _

pub loop-node-preserved : goal.loop-node-preserved
loop-node-preserved c =
    let q = c.args.unplaced.now in let l = c.loop-node in
    let e = c.from.ensures ∙ member_is q.root q.seen q.taken l.node c.has.ensures in
    let f = members q.root q.seen q.taken in
    subst (λ b. Filling f c.args.out.now (set l.out l.node b) (l.node + 1)) (sym e) (fill_more f 0 l.invariant c.loop-node-test.true)
