-- `reseat` meets its contract: a chain from the node that has left its label, which is put back where there is none.
use Prim.Native.Nat.{ℕ}
use mathlib.Core.Path.{sym, ap, ◌∙◌, subst, transport}
use mathlib.Core.List.{List}
use lib.Bits.{bit_or, bit_xor}
use lib.ListN.{set}
use Rattle.std.proofs.lemmas.List.{set-set, set-get_or}
use Rattle.placing.specs.Words.{entry, Asked, Aimed, Rooted, Ended, Passed}
use Rattle.placing.proofs.Linking.{linked_as}
use Rattle.placing.proofs.Reseating.{reseat_asked, reseat_aimed, reseat_rooted, reseat_passed}
use Rattle.placing.proofs.seats.Seats.reseat.Goals as goal
use Rattle.placing.proofs.seats.Seats.reseat.Goals.{In-Err}

pub chain-requires : goal.chain-requires
chain-requires c =
    let s = c.args.self.now in let j = c.with_label-before.ensures in let e = c.leave.ensures.same in let f = c.leave.ensures.taken in
    let mid = c.with_label-before.result in
    transport (λ i. Asked (sym e i).sets (sym f i) (bit_xor (bit_or (entry (sym e i).sets c.args.x) mid) mid) mid c.args.x × Aimed (sym e i).own (sym f i) c.args.goals mid)
    (reseat_asked s.linked c.requires.0 c.ranges.before.fits j, reseat_aimed s.linked c.requires.0 c.ranges.before.fits j c.requires.2)

-- no chain: what the search saw
passed : (p : In-Err) → Passed p.args.self.now.nodes.now.sets p.args.self.now.taken p.args.goals p.args.before p.args.x p.in-Err.seen
passed p =
    let s = p.args.self.now in let mid = p.with_label-before.result in let e = p.leave.ensures.same in
    reseat_passed s.linked p.requires.0 p.ranges.before.fits p.with_label-before.ensures (linked_as (ap (λ n. n.sets) e) p.leave.ensures.taken p.leave.new.self.linked)
    (subst (λ n. Ended p.leave.new.self.reach p.args.goals (bit_xor (bit_or (entry n.sets p.args.x) mid) mid) mid p.in-Err.seen) e p.in-Err.ensures.barred.1)

pub returns-then-label-lt64-clause-barren : goal.returns-then-label-lt64-clause-barren
returns-then-label-lt64-clause-barren c =
    let taken = c.args.self.now.taken in let x = c.args.x in (
      c.give.ensures.taken ∙ ap (λ (t : List ℕ). set t x (entry taken x)) (c.in-Err.ensures.barred.0 ∙ c.leave.ensures.taken) ∙ set-set taken x 255 (entry taken x) ∙ set-get_or taken x 0,
      passed (goal.at.returns-then-label-lt64-clause-barren c).In-Err,
    )

pub returns-else-label-lt64-clause-barren : goal.returns-else-label-lt64-clause-barren
returns-else-label-lt64-clause-barren c =
    let taken = c.args.self.now.taken in let x = c.args.x in (
      c.in-Err.ensures.barred.0 ∙ c.leave.ensures.taken ∙ ap (set taken x) (sym (c.requires.1 c.if-label-lt64.false)) ∙ set-get_or taken x 0,
      passed (goal.at.returns-else-label-lt64-clause-barren c).In-Err,
    )

pub returns-clause-placed : goal.returns-clause-placed
returns-clause-placed c =
    let s = c.args.self.now in let mid = c.with_label-before.result in let e = c.leave.ensures.same in
    let (met, g, r) = c.in_default.ensures.placed in (
      met,
      g,
      reseat_rooted s.linked c.requires.0 c.ranges.before.fits c.with_label-before.ensures
          (transport (λ i. Rooted (e i).own (c.leave.ensures.taken i) (bit_xor (bit_or (entry (e i).sets c.args.x) mid) mid) mid c.args.x met c.chain.new.self.taken) r),
    )
