-- The numbers of what the code has as enums, and the bytes of a number.
-- Assumes nothing.
use mathlib.Core.Path.{◌≡◌, refl}
use mathlib.Core.List.{List, [], ◌∷◌}
use Prim.Native.Nat.{ℕ, ◌+◌, ◌/◌, ◌%◌, ◌<◌}
use native.Mathlib.Omega.{arith}
use denote.Enum.Declared.{tag_of}
use lib.ListN.{get_or}
use Rattle.std.proofs.Common.{w16}
use Rattle.std.specs.Int.{to_le_bytes}
use Rattle.schedule.specs.contracts.writer.Kind.{the_type as kind_type}
use Rattle.schedule.specs.declared.writer.Kind.{Kind}
use Rattle.schedule.specs.declared.writer.Kind.TheVariants.{ToEdge, FromEdge, ToLabel, FromLabel, Round}
use Rattle.schedule.specs.Sweep.{entry, bytes}
use Rattle.schedule.specs.Writing.{kind_number}

kind_is : (k : Kind) → tag_of kind_type k + 1 ≡ kind_number k
kind_is ToEdge = refl
kind_is FromEdge = refl
kind_is ToLabel = refl
kind_is FromLabel = refl
kind_is Round = refl

-- a record's bytes
pub record_bytes : (k : Kind) (node index share : ℕ) {b : List ℕ} → index < 65_536 → b ≡ to_le_bytes w16 index
    → (tag_of kind_type k + 1) ∷ node ∷ get_or b 0 0 ∷ get_or b 1 0 ∷ share ∷ [] ≡ bytes (entry (kind_number k) node index share ∷ [])
unfolding bytes
record_bytes k node index share {b} h e =
    let d : index / 256 % 256 ≡ index / 256 = omega arith in
    rw (kind_is k, e, d)
