-- `least` meets its contract. The loop's invariant: the least of the four and of what is left is the least of all.
use Rattle.std.proofs.Common.{◌≡◌, ℕ, ◌*◌, ◌/◌, ◌<◌, List, [], drop, drop-drop, length-drop, sym, ◌+◌, ◌∙◌, length, get_or, take, ℤ, pos, ap, ap₂, arith, get_or-take, to_z-of_z, w64, to_z, of_z, rules, SFits}
use Rattle.std.specs.Int.{int_min}
use Rattle.integers.specs.Least.{min_ℤ, least_from}
use Rattle.integers.proofs.Bits.{answer}
use Rattle.messages.proofs.RowLaws.{less, less_back, chunk_at}
use Rattle.messages.proofs.LeastLaws.{lesser_self, abreast}
use Rattle.messages.proofs.rows.least.Goals as goal

-- the less of one of four elements and a minimum, as the code reads both
taken : (l m : List ℤ) (k : ℕ) (b : ℤ) {z : ℤ} → m ≡ take 4 l → k < 4 → SFits w64 (get_or m k (pos 0)) → z ≡ int_min b (to_z w64 (of_z w64 (get_or m k (pos 0)))) → z ≡ min_ℤ (get_or l k (pos 0)) b
taken l m k b e h f q =
    q ∙ ap (int_min b) (to_z-of_z f ∙ ap (λ (n : List ℤ). get_or n k (pos 0)) e ∙ get_or-take 4 l k (pos 0) h) ∙ less_back b (get_or l k (pos 0))

pub loop-four-init : goal.loop-four-init
loop-four-init c = ap (λ (z : ℤ). least_from z c.args.row.now) (lesser_self (to_z w64 (of_z w64 c.args.start)))

pub loop-four-preserved : goal.loop-four-preserved
loop-four-preserved c =
    let i = c.loop-four.four-index in
    let l = drop (4 * i) c.args.row.now in
    let k : i < length c.args.row.now / 4 = omega (arith, c.loop-four-test.true, c.as_chunks.ensures.front_len) in
    let e = ap (λ (m : List (List ℤ)). get_or m i []) c.as_chunks.ensures.front ∙ chunk_at 4 (length c.args.row.now / 4) i c.args.row.now k in
    let n : 3 < length l = omega (arith, k, length-drop (4 * i) c.args.row.now) in
    let m = get_or c.as_chunks.result.0.now i [] in
    let a = answer c.min-a.type_inv (taken l m 0 (to_z w64 c.loop-four.a-bits) e (omega arith) (search rules) c.min-a.ensures.value) in
    let b = answer c.min-b.type_inv (taken l m 1 (to_z w64 c.loop-four.b-bits) e (omega arith) (search rules) c.min-b.ensures.value) in
    let x = answer c.min-c.type_inv (taken l m 2 (to_z w64 c.loop-four.c-bits) e (omega arith) (search rules) c.min-c.ensures.value) in
    let y = answer c.min-d.type_inv (taken l m 3 (to_z w64 c.loop-four.d-bits) e (omega arith) (search rules) c.min-d.ensures.value) in
    let left : drop (4 * (i + 1)) c.args.row.now ≡ drop 4 l = ap (λ (k : ℕ). drop k c.args.row.now) (omega arith) ∙ sym (drop-drop 4 (4 * i) c.args.row.now) in
    ap₂ least_from (ap₂ min_ℤ (ap₂ min_ℤ a b) (ap₂ min_ℤ x y)) left ∙ abreast l _ _ _ _ n ∙ c.loop-four.invariant

pub returns : goal.returns
returns c =
    let p = c.loop-four in
    let a = to_z w64 p.a-bits in
    let b = to_z w64 p.b-bits in
    let x = to_z w64 p.c-bits in
    let y = to_z w64 p.d-bits in
    let left : c.as_chunks.result.1.now ≡ drop (4 * p.four-index) c.args.row.now = c.as_chunks.ensures.back ∙ ap (λ (k : ℕ). drop k c.args.row.now) (omega (arith, c.loop-four-test.false, c.as_chunks.ensures.front_len, p.auto)) in
    let e = answer c.min.type_inv (c.min.ensures.value ∙ less a b) in
    let f = answer c.min-2.type_inv (c.min-2.ensures.value ∙ less x y) in
    answer c.least_in_turn.type_inv c.least_in_turn.ensures
    ∙ ap₂ least_from (answer c.min-3.type_inv (c.min-3.ensures.value ∙ ap₂ int_min e f ∙ less (min_ℤ a b) (min_ℤ x y))) left
    ∙ p.invariant ∙ ap (λ (z : ℤ). least_from z c.args.row.now) (to_z-of_z c.ranges.start)
