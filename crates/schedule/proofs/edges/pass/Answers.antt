-- `pass` meets its contract: two lists, one after another.
use native.Mathlib.Omega.{arith}
use Rattle.index.specs.Index.{many}
use Rattle.schedule.proofs.WritingLaws.{length-received, wrote_append, room_left}
use Rattle.schedule.proofs.edges.pass.Goals as goal

pub to_edges-requires-clause-room : goal.to_edges-requires-clause-room
to_edges-requires-clause-room c =
    let a = c.args in
    room_left c.from_edges.ensures (many a.to.now a.u) c.requires.room (omega (arith, length-received a.from.now a.u))

pub returns : goal.returns
returns c = wrote_append c.from_edges.ensures c.to_edges.ensures
