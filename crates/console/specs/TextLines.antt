-- A text taken apart into its lines, as its reader does.
use Rattle.std.specs.Prelude.{cond, ◌≡◌, List, [], ◌∷◌, ◌++◌, ◌⊎◌, ℕ, eqb}

-- what stands ahead of each newline; the line that is being read begins with `ahead`
unfoldable pub lines_from : List ℕ → List ℕ → List (List ℕ)
lines_from ahead [] = []
lines_from ahead (b ∷ text) = cond (eqb b 10) (ahead ∷ lines_from [] text) (lines_from (ahead ++ (b ∷ [])) text)

unfoldable pub lines_of : List ℕ → List (List ℕ)
lines_of text = lines_from [] text

-- a line is one of them
abbrev pub Among : List (List ℕ) → List ℕ → Type 0
Among [] x = ⊥
Among (y ∷ l) x = (x ≡ y) ⊎ Among l x

-- a text has a line
abbrev pub HasLine : List ℕ → List ℕ → Type 0
HasLine text x = Among (lines_of text) x
