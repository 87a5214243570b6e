-- `run_all` meets its contract: the run so far and the rest of it are the whole run.
use Rattle.messages.specs.State.{Same, limit_in, buffers_in}
use Rattle.messages.proofs.RunLaws.{Going}
use Rattle.messages.proofs.state.State.run_all.Given as goal

abbrev pub invariant-loop-done : goal.invariant-loop-done
invariant-loop-done l = let s = l.initial.self in Same s l.self × Going s.run.now.sheet.bytes.now (limit_in s) l.records (buffers_in s) (buffers_in l.self) l.done l.stuck
