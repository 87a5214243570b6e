-- `share_of` meets its contract: one 1st is the distance itself, and else a distance of either sign goes by its size.
use Rattle.std.proofs.Common.{◌≡◌, ℕ, ◌^◌, ◌≤◌, ℤ, pos, ◌-ℤ◌, neg_ℤ, nat_abs, sym, ap, ◌∙◌, arith, to_z-of_z, w64, to_z, of_z}
use Rattle.integers.specs.Share.{share, nearest}
use Rattle.integers.proofs.Parts.{linear, parts}
use Rattle.integers.proofs.Share.{nearest_le, share-pos, share_one}
use Rattle.integers.proofs.Bits.{low, answer}
use Rattle.messages.proofs.RowLaws.{apart_within, difference_is, share_below, from_zero, zero_fits}
use Rattle.messages.proofs.rows.share_of.Goals as goal
use Rattle.messages.proofs.rows.share_of.Goals.{After-cast_signed-size, After-nearest_to, Start}

-- the distance
module _ (q : Start) where
  abbrev x : ℤ
  x = q.args.cost

  abbrev y : ℤ
  y = q.args.low

  abbrev d : ℤ
  d = x -ℤ y

  is : to_z w64 (of_z w64 (to_z w64 (of_z w64 x) -ℤ to_z w64 (of_z w64 y))) ≡ d
  is = difference_is x y q.requires.0 q.requires.1

pub returns-then-part-eq1 : goal.returns-then-part-eq1
returns-then-part-eq1 c =
    let q = (goal.at.returns-then-part-eq1 c).Start in is q ∙ sym (ap (share (d q)) c.if-part-eq1.true ∙ share_one (d q))

-- one r-th of its size
module _ (c : After-nearest_to) where
  abbrev q : Start
  q = (goal.at.After-nearest_to c).Start

  part : c.nearest_to.result ≡ nearest (nat_abs (d q)) q.args.part.parts
  part = c.nearest_to.ensures ∙ ap (λ (n : ℕ). nearest n q.args.part.parts) (c.unsigned_abs.ensures.value ∙ ap nat_abs (is q))

  few : c.nearest_to.result ≤ 2 ^ 41
  few = omega (arith, part, nearest_le (nat_abs (d q)) q.args.part.parts, apart_within (x q) (y q) q.requires.0 q.requires.1)

  read : to_z w64 c.nearest_to.result ≡ pos c.nearest_to.result
  read = low w64 c.nearest_to.result (omega (arith, few))

-- as a signed number
sized : (c : After-cast_signed-size) → to_z w64 (of_z w64 c.cast_signed-size.result) ≡ pos c.nearest_to.result
sized c = answer c.cast_signed-size.type_inv (c.cast_signed-size.ensures ∙ read (goal.at.After-cast_signed-size c).After-nearest_to)

pub overflow_sub-result : goal.overflow_sub-result
overflow_sub-result c =
    let p = (goal.at.overflow_sub-result c).After-nearest_to in rw (sized (goal.at.overflow_sub-result c).After-cast_signed-size) (zero_fits (pos c.nearest_to.result) (few p))

pub returns-then-apart-lt0 : goal.returns-then-apart-lt0
returns-then-apart-lt0 c =
    let p = (goal.at.returns-then-apart-lt0 c).After-nearest_to in
    let n = c.nearest_to.result in
    rw (sized (goal.at.returns-then-apart-lt0 c).After-cast_signed-size) (to_z-of_z (zero_fits (pos n) (few p)) ∙ from_zero (pos n) ∙ ap (λ (k : ℕ). neg_ℤ (pos k)) (part p))
    ∙ sym (share_below (d (q p)) c.args.part.parts (omega (linear, parts (is (q p)), c.if-apart-lt0.true)))

pub returns-else-apart-lt0 : goal.returns-else-apart-lt0
returns-else-apart-lt0 c =
    let p = (goal.at.returns-else-apart-lt0 c).After-nearest_to in
    sized (goal.at.returns-else-apart-lt0 c).After-cast_signed-size ∙ ap pos (part p) ∙ sym (share-pos (d (q p)) c.args.part.parts (omega (linear, parts (is (q p)), c.if-apart-lt0.false)))
