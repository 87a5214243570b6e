-- `of` meets its contract: zeros, the index of the things so far, and of one more.
use mathlib.Core.Path.{◌≡◌}
use Rattle.index.specs.Index.{key_at}
use Rattle.index.proofs.Filling.{filled}
use Rattle.index.proofs.table.Index.of.Given as goal

abbrev pub invariant-loop-thing : goal.invariant-loop-thing
invariant-loop-thing l = l.entries ≡ filled (key_at l.bytes l.stride) l.thing
