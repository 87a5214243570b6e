-- `word_of` meets its contract: the word so far is that of the labels so far.
-- Assumes nothing.
use mathlib.Core.Path.{◌≡◌}
use Rattle.integers.specs.Words.{word_of}
use Rattle.placing.specs.Words.{entry}
use Rattle.placing.proofs.tables.word_of.Given as goal

abbrev pub invariant-loop-label : goal.invariant-loop-label
invariant-loop-label l = l.word ≡ word_of (entry l.labels) l.label-index
