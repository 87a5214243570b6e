-- `four_lows` meets its contract. The loop's invariant: each of the four is the least of its position's first i cells.
use Rattle.std.proofs.Common.{◌≡◌, ℕ, ◌+◌, ◌<◌, None, [], ◌∷◌, length, ℤ, refl, ap, ◌∙◌, arith, w64, to_z, of_z, to_z-of_z, SFits, rules}
use Rattle.std.specs.Int.{int_min}
use Rattle.integers.specs.Least.{min_ℤ}
use Rattle.integers.specs.Places.{tabulate, range}
use Rattle.integers.proofs.Bits.{answer}
use Rattle.messages.specs.EdgeMessage.{unbounded}
use Rattle.messages.specs.Joints.{low_in}
use Rattle.messages.proofs.RowLaws.{less_back}
use Rattle.messages.proofs.UsableLaws.{but_none}
use Rattle.messages.proofs.StrideLaws.{low_so_far, cell_in, low_more, low_all}
use Rattle.messages.proofs.edge_message.Joint.four_lows.Goals as goal

-- the less of a cell and a minimum, as the code reads both
taken : (x b : ℤ) {z : ℤ} → SFits w64 x → z ≡ int_min b (to_z w64 (of_z w64 x)) → z ≡ min_ℤ x b
taken x b f q = q ∙ ap (int_min b) (to_z-of_z f) ∙ less_back b x

-- four one after the other
four : (f : ℕ → ℤ) {a b c d : ℤ} → a ≡ f 0 → b ≡ f 1 → c ≡ f 2 → d ≡ f 3 → a ∷ b ∷ c ∷ d ∷ [] ≡ tabulate 4 f
unfolding tabulate range
four f p q r s = λ i. p i ∷ q i ∷ r i ∷ s i ∷ []

pub loop-i-init : goal.loop-i-init
loop-i-init c = (but_none _ unbounded None, but_none _ unbounded None, but_none _ unbounded None, but_none _ unbounded None)

pub bounds-self-at-in-loop-i : goal.bounds-self-at-in-loop-i
bounds-self-at-in-loop-i c = omega (arith, cell_in c.args.self.now c.strides-own.ensures (c.args.k + 1) c.loop-i.i (omega arith) c.loop-i-test.true)

pub bounds-self-at-in-loop-i-2 : goal.bounds-self-at-in-loop-i-2
bounds-self-at-in-loop-i-2 c = omega (arith, cell_in c.args.self.now c.strides-own.ensures (c.args.k + 2) c.loop-i.i (omega arith) c.loop-i-test.true)

pub bounds-self-at-in-loop-i-3 : goal.bounds-self-at-in-loop-i-3
bounds-self-at-in-loop-i-3 c = omega (arith, cell_in c.args.self.now c.strides-own.ensures (c.args.k + 3) c.loop-i.i (omega arith) c.loop-i-test.true)

pub loop-i-preserved : goal.loop-i-preserved
loop-i-preserved c =
    let j = c.args.self.now in
    let s = c.strides-own.ensures in
    let k = c.args.k in
    let i = c.loop-i.i in
    let v = c.loop-i.invariant in (
      answer c.min-a.type_inv (taken _ (to_z w64 c.loop-i.a-bits) (search rules) c.min-a.ensures.value ∙ low_more j s k i None refl refl v.0),
      answer c.min-b.type_inv (taken _ (to_z w64 c.loop-i.b-bits) (search rules) c.min-b.ensures.value ∙ low_more j s (k + 1) i None refl (omega arith) v.1),
      answer c.min-c.type_inv (taken _ (to_z w64 c.loop-i.c-bits) (search rules) c.min-c.ensures.value ∙ low_more j s (k + 2) i None refl (omega arith) v.2),
      answer c.min-d.type_inv (taken _ (to_z w64 c.loop-i.d-bits) (search rules) c.min-d.ensures.value ∙ low_more j s (k + 3) i None refl (omega arith) v.3),
    )

pub returns : goal.returns
returns c =
    let j = c.args.self.now in
    let k = c.args.k in
    let e : c.loop-i.i ≡ length j.other.now = omega (arith, c.loop-i-test.false, c.loop-i.auto) in
    let v = c.loop-i.invariant in
    let so : ℕ → ℤ = (λ n. low_so_far j n None c.loop-i.i) in
    let whole : (t : ℕ) → t < 4 → so (k + t) ≡ low_in j (k + t) = (λ t h. low_all j (k + t) (omega arith) None e) in
    let z : k ≡ k + 0 = omega arith in
    four (λ t. low_in j (k + t)) (v.0 ∙ ap so z ∙ whole 0 (omega arith)) (v.1 ∙ whole 1 (omega arith)) (v.2 ∙ whole 2 (omega arith)) (v.3 ∙ whole 3 (omega arith))
