-- `answers` is safe: there is room for as many numbers as a byte can count.
use Rattle.std.proofs.Common.{◌≡◌}
use Rattle.arrayvec.specs.ArrayVec.{array_vec_len}
use Rattle.replay.proofs.reader.Reader.answers.Given as goal

abbrev pub invariant-loop : goal.invariant-loop
invariant-loop l = array_vec_len l.numbers ≡ l.counter
