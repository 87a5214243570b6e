-- What is known of bytes that a check found readable.
-- Assumes nothing.
use Rattle.std.proofs.Common.{◌≡◌, ℕ, List}
use Rattle.instance.specs.Sheet.{instance_of, refusal_of}
use Rattle.instance.specs.Readable.{Proper, Readable}
use Rattle.instance.proofs.Readable.{readable}

module _ (s : List ℕ) (readable_is : refusal_of s ≡ 0) where
  pub whole : Readable s
  whole = readable s readable_is

  pub proper : Proper (instance_of s)
  proper = whole.proper
