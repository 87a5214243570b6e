-- The rows of an index: how long, and what stands in them.
-- Assumes nothing.
use mathlib.Core.Path.{◌≡◌, ap, ◌∙◌}
use mathlib.Core.List.{List}
use Prim.Native.Nat.{ℕ, ◌+◌, ◌*◌, ◌<◌}
use native.Mathlib.Omega.{arith}
use lib.ListN.{length, get_or}
use Rattle.integers.proofs.Places.{get_or-range}
use Rattle.index.specs.Index.{many, held}
use Rattle.index.proofs.Indexed.{length-held}
use Rattle.schedule.specs.Writing.{Rows}

pub row_long : (index : List ℕ) (l : ℕ) {r : List ℕ} → r ≡ held index l → length r ≡ many index l
row_long index l e = ap length e ∙ length-held index l

-- a thing of a row
pub row_inside : {index : List ℕ} {bound : ℕ} (l : ℕ) {r : List ℕ} → Rows index bound → r ≡ held index l → l < 64 → (i : ℕ) → i < length r → get_or r i 0 < bound
row_inside {index} {bound} l {r} x e h i b =
    let c : i < many index l = omega (arith, row_long index l e) in
    omega (arith, ap (λ (k : List ℕ). get_or k i 0) e, get_or-range (λ p. get_or index p 0) (65 * l + 1) (many index l) i 0 c, x.inside l i h c)
