-- Text in a lent buffer.
use Rattle.std.specs.Prelude.{cond, List, ◌++◌, ℕ, ltb, length, drop}

-- what a buffer holds at exit, and how many bytes of it are text
pub record Output : Type 0 where
  pub bytes : List ℕ
  pub count : ℕ

abbrev pub outputs : List ℕ → ℕ → Output
outputs bytes count = record { bytes = bytes; count = count }

-- a text from the buffer's start on, the rest as it was; nothing in a buffer of fewer than 256 bytes
unfoldable pub output_of : List ℕ → List ℕ → Output
output_of text l = cond (ltb (length l) 256) (outputs l 0) (outputs (text ++ drop (length text) l) (length text))
