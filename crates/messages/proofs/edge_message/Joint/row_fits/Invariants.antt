-- `row_fits` meets its contract: what each cost gives is joined.
use Rattle.std.proofs.Common.{length, get_or, pos, ◌+ℤ◌, neg_ℤ}
use Rattle.integers.specs.Checks.{within}
use Rattle.messages.proofs.ExcessLaws.{Joining}
use Rattle.messages.proofs.edge_message.Joint.row_fits.Given as goal

abbrev pub invariant-loop-k : goal.invariant-loop-k
invariant-loop-k l = Joining (λ i. within l.limit.most (get_or l.self.row.now i (pos 0) +ℤ neg_ℤ (get_or l.amounts.each.now i (pos 0)))) (length l.self.row.now) l.k l.all
