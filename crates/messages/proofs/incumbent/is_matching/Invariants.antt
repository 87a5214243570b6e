-- `is_matching` meets its contract: after u nodes each of them passed, and `untaken` the labels that may still be taken.
use Rattle.instance.specs.Sheet.{instance_of}
use Rattle.messages.proofs.IncumbentLaws.{MatchTurn}
use Rattle.messages.proofs.incumbent.is_matching.Given as goal

abbrev pub invariant-loop-u : goal.invariant-loop-u
invariant-loop-u l = MatchTurn (instance_of l.sheet.bytes.now) l.x l.sheet.nodes l.untaken l.u
