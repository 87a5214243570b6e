-- Sets of small numbers as the bits of a word of 64.
use Rattle.std.specs.Prelude.{Bool, List, ℕ, zero, suc, ◌/◌, ◌%◌, ◌^◌, ◌<◌, eqb, get_or}
use Rattle.std.specs.Int.Bits.{bit_or}

-- whether the word w has the number l
unfoldable pub bit : ℕ → ℕ → Bool
bit w l = eqb (w / 2 ^ l % 2) 1

-- the word of the first d numbers of f
unfoldable pub word_of : (ℕ → ℕ) → ℕ → ℕ
word_of f zero = 0
word_of f (suc d) = bit_or (word_of f d) (2 ^ f d)

-- a table of words
abbrev pub Words : List ℕ → Type 0
Words t = (i : ℕ) → get_or t i 0 < 2 ^ 64
