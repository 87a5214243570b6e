-- The numbers of a reading, and the stretch of the sheet that holds the prices of an edge.
use Rattle.std.specs.Prelude.{List, [], ◌∷◌, ◌++◌, ℕ, length}
use Rattle.instance.specs.declared.layout.Layout.{Layout}
use Rattle.instance.specs.Sheet.{refusal_of}
use Rattle.instance.specs.Layout.{layout_of, edge_refusal_of, edge_place_of, edge_prices_of}
use Rattle.exports.specs.Stored.{Answered, answered, answered_in}

-- the refusal, n, L, E, N, M
unfoldable pub counts_of : Layout → List ℕ
counts_of l = l.refusal ∷ l.nodes ∷ l.labels ∷ l.edges ∷ l.positions ∷ l.cells ∷ []

-- then the 64 node starts and the 256 edge starts: 326 numbers
unfoldable pub numbers_of : Layout → List ℕ
numbers_of l = counts_of l ++ (l.starts ++ l.tables)

-- what reading answers, and leaves in the lent buffer: all of it but the refusal is 0 when the sheet is refused
unfoldable pub read_in : List ℕ → List ℕ → Answered ℕ
read_in s lent = answered_in 326 (refusal_of s) (answered (refusal_of s) (numbers_of (layout_of s))) lent

-- where the shown part begins in the sheet, and how many bytes it has: 0 and 0 where the edge is not shown
unfoldable pub span_of : List ℕ → ℕ → List ℕ
span_of s e = edge_place_of s e ∷ length (edge_prices_of s e) ∷ []

-- what showing an edge answers, and leaves in the lent span; the edge (12) comes before the span (8), as a sweep's direction does
unfoldable pub shown_in : List ℕ → ℕ → List ℕ → Answered ℕ
shown_in s e span = answered_in 2 (edge_refusal_of s e) (answered (edge_refusal_of s e) (span_of s e)) span
