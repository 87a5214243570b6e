-- `read_ends` meets its contract, by the laws of its turns.
use Rattle.std.proofs.Common.{◌≡◌, ℕ, ◌+◌, ◌*◌, ◌<◌, List, arith}
use Rattle.instance.specs.declared.found.Nodes.{Nodes}
use Rattle.instance.specs.Bytes.{byte}
use Rattle.instance.specs.Passes.{EndsAsked}
use Rattle.instance.proofs.Stages.{ends_asked}
use Rattle.instance.proofs.Turns.{ends_none, ends_bad, end_level, end_past, end_falls, ends_more, ends_done}
use Rattle.instance.proofs.found.Nodes.read_ends.Goals as goal
use Rattle.instance.proofs.found.Nodes.read_ends.Goals.{After-from-in-loop-e, After-from-v, At-loop-e, Start}

-- where both ends are read: the loop's head, the stage before, what is known of it, and that bytes are bytes
module _ (p : After-from-v) where
  abbrev head : At-loop-e
  head = (goal.at.After-from-v p).At-loop-e

  abbrev x : Nodes
  x = p.args.self.now

  abbrev s : List ℕ
  s = x.counts.bytes.now

  asked : EndsAsked s x.counts.nodes p.ends_at-at.result x.counts.edges
  asked = ends_asked s x.begun p.ends_at-at.ensures.0

  bytes : (i : ℕ) → byte s i < 256
  bytes i = omega (arith, p.type_inv.bytes i)

  abbrev u : ℕ
  u = p.from-u.result

  abbrev v : ℕ
  v = p.from-v.result

  abbrev eu : u ≡ byte s (p.ends_at-at.result + 2 * head.loop-e.e)
  eu = p.from-u.ensures

  abbrev ev : v ≡ byte s (p.ends_at-at.result + 2 * head.loop-e.e + 1)
  ev = p.from-v.ensures

pub loop-e-init : goal.loop-e-init
loop-e-init c = rw c.requires (ends_none _ _)

pub bounds-bytes-at : goal.bounds-bytes-at
bounds-bytes-at c = omega (arith, (ends_asked _ c.args.self.now.begun c.ends_at-at.ensures.0).room)

pub bounds-bytes-at-in-loop-e : goal.bounds-bytes-at-in-loop-e
bounds-bytes-at-in-loop-e c = omega (arith, (ends_asked _ c.args.self.now.begun c.ends_at-at.ensures.0).room)

pub returns-then-v-u : goal.returns-then-v-u
returns-then-v-u c =
    let p = (goal.at.returns-then-v-u c).After-from-v in ends_bad (asked p) (head p).loop-e.e c.loop-e-test.true
    (end_level (asked p) (bytes p) (head p).loop-e.invariant (u p) (v p) (eu p) (ev p) c.if-v-u.true)

pub returns-then-self-v : goal.returns-then-self-v
returns-then-self-v c =
    let p = (goal.at.returns-then-self-v c).After-from-v in ends_bad (asked p) (head p).loop-e.e c.loop-e-test.true
    (end_past (asked p) (bytes p) (head p).loop-e.invariant (u p) (v p) (eu p) (ev p) c.if-v-u.false c.if-self-v.true)

pub returns-then-u-v : goal.returns-then-u-v
returns-then-u-v c =
    let p = (goal.at.returns-then-u-v c).After-from-v in ends_bad (asked p) (head p).loop-e.e c.loop-e-test.true
    (end_falls (asked p) (bytes p) (head p).loop-e.invariant (u p) (v p) (eu p) (ev p) c.if-v-u.false c.if-self-v.false c.if-u-v.true)

pub loop-e-preserved : goal.loop-e-preserved
loop-e-preserved c =
    let p = (goal.at.loop-e-preserved c).After-from-v in rw (c.from.ensures, c.from-in-loop-e.ensures)
    (ends_more (asked p) (bytes p) (head p).loop-e.invariant (u p) (v p) (eu p) (ev p) c.loop-e-test.true
    c.if-v-u.false c.if-self-v.false c.if-u-v.false)

pub returns : goal.returns
returns c = ends_done (ends_asked _ c.args.self.now.begun c.ends_at-at.ensures.0) c.loop-e.invariant c.loop-e-test.false
