-- Where the labels of an edge's one end have a label of the other end that only one node may take: the cell there is unusable (document 02, wish 2).
-- Labels rise within a node, so that there is at most one such place.
use Rattle.std.specs.Prelude.{◌≡◌, ℕ, suc, ◌%◌, ◌^◌, ◌<◌, Bool, true, not, Option, Some, IfSome, List, length, nat_eq, slice_index}
use Rattle.std.specs.Option.{option_eq}
use Rattle.integers.specs.Words.{bit}
use Rattle.instance.specs.Instance.{usable}

-- labels that rise strictly
abbrev pub Rising : List ℕ → Type 0
Rising l = (i : ℕ) → suc i < length l → slice_index l i < slice_index l (suc i)

-- whether a place is the one that is skipped
abbrev pub skipped : Option ℕ → ℕ → Bool
skipped skip p = option_eq nat_eq (Some p) skip

-- the one place at which a label meets an unusable cell, if there is one
pub record Skips (labels : List ℕ) (label : ℕ) (skip : Option ℕ) : Type 0 where
  pub inside : IfSome skip (λ p. p < length labels)
  pub passed : (p : ℕ) → p < length labels → usable label (slice_index labels p) ≡ not (skipped skip p)

-- a word that has each of some labels, modulo 64: a label whose bit it lacks is none of them
abbrev pub bit_at : ℕ → ℕ
bit_at label = 2 ^ (label % 64)

abbrev pub Masks : List ℕ → ℕ → Type 0
Masks labels mask = (p : ℕ) → p < length labels → bit mask (slice_index labels p % 64) ≡ true
