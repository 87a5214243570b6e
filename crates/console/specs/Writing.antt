-- Text written one piece after another, for private functions.
use Rattle.std.specs.Prelude.{◌≡◌, List, ◌++◌, ℕ, ◌+◌, ◌≤◌, length, take, drop}
use Rattle.console.specs.declared.text.Text.{Text}

-- a piece was written: the text is what it was, and then the piece; the rest is as it was
pub record Wrote (t : Text) (piece : List ℕ) (t' : Text) : Type 0 where
  pub same_reference : t'.out.ghost_name ≡ t.out.ghost_name
  pub size : length t'.out.now ≡ length t.out.now
  pub place : t'.len ≡ t.len + length piece
  pub content : take t'.len t'.out.now ≡ take t.len t.out.now ++ piece
  pub rest : drop t'.len t'.out.now ≡ drop t'.len t.out.now

-- there is room for so many bytes
pub record Room (t : Text) (count : ℕ) : Type 0 where
  pub fits : t.len + count ≤ length t.out.now
