-- `lows_by_four` meets its contract. The loop's invariant: the first 4q places hold the least of all cells there.
use Rattle.std.proofs.Common.{◌≡◌, ℕ, ◌+◌, ◌*◌, ◌/◌, ◌<◌, ◌≤◌, List, length, get_or, ℤ, pos, refl, ap, ◌∙◌, arith, w64, to_z, of_z, to_z-of_z, rules}
use Rattle.integers.proofs.Places.{get_d_tabulate}
use Rattle.messages.specs.EdgeMessage.{by_rows}
use Rattle.messages.specs.Joints.{low_in}
use Rattle.messages.proofs.OverLaws.{written_start, written_on, written_all}
use Rattle.messages.proofs.UsableLaws.{own_few}
use Rattle.messages.proofs.edge_message.Joint.lows_by_four.Goals as goal

pub loop-q-init : goal.loop-q-init
loop-q-init c =
    let j = c.args.self.now in
    let few = own_few (by_rows j.end) j.joined.ends in
    written_start (low_in j) (length j.own.now / 4 * 4) c.requires (omega (arith, few))

pub loop-q-preserved : goal.loop-q-preserved
loop-q-preserved c =
    let j = c.args.self.now in
    let f = low_in j in
    let k = 4 * c.loop-q.q in
    let h : k + 4 ≤ length j.own.now / 4 * 4 = omega (arith, c.loop-q-test.true) in
    let read : ℕ → ℤ = (λ t. to_z w64 (of_z w64 (get_or c.four_lows.result t (pos 0)))) in
    let at : (t : ℕ) → t < 4 → read t ≡ f (k + t) =
    (λ t g. to_z-of_z {w = w64} {z = get_or c.four_lows.result t (pos 0)} (search rules)
    ∙ ap (λ (l : List ℤ). get_or l t (pos 0)) c.four_lows.ensures ∙ get_d_tabulate 4 (λ t. f (k + t)) t (pos 0) g) in
    let z : k + 0 ≡ k = omega arith in
    written_on (written_on (written_on (written_on c.loop-q.invariant (omega arith) refl refl (at 0 (omega arith) ∙ ap f z)) (omega arith) refl (omega arith) (at 1 (omega arith)))
    (omega arith) refl (omega arith) (at 2 (omega arith))) (omega arith) refl (omega arith) (at 3 (omega arith))

pub returns : goal.returns
returns c = written_all c.loop-q.invariant (omega (arith, c.loop-q-test.false))
