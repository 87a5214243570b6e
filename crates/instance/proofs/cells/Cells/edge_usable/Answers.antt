-- `edge_usable` meets its contract, by the law that an edge has no usable cell only if each end has one label.
use Rattle.std.proofs.Common.{◌≡◌, ℕ, ◌<◌, Bool, not, ◌||◌, ltb, List, length, sym, refl, ◌∙◌, ap₂, arith, le-ltb, lt-ltb}
use Rattle.integers.proofs.Places.{left_true, right_true}
use Rattle.instance.specs.declared.cells.Cells.{Cells}
use Rattle.instance.specs.Bytes.{byte}
use Rattle.instance.specs.Instance.{usable, first}
use Rattle.instance.specs.Sheet.{instance_of, none_usable}
use Rattle.instance.proofs.UsableCells.{ends_known, degrees_inside, edge_by}
use Rattle.instance.proofs.cells.Cells.edge_usable.Goals as goal
use Rattle.instance.proofs.cells.Cells.edge_usable.Goals.{After-from-v, Start}

-- where both ends are read
module _ (p : After-from-v) where
  abbrev start : Start
  start = (goal.at.After-from-v p).Start

  abbrev x : Cells
  x = start.args.self.now

  abbrev s : List ℕ
  s = x.bytes.now

  there : start.args.e < (instance_of s).edge_count
  there = omega (arith, x.all, start.requires)

  abbrev u : ℕ
  u = p.from-u.result

  abbrev v : ℕ
  v = p.from-v.result

  known : (u < x.nodes) × (v < x.nodes)
  known = let k = ends_known x.asked there p.from-u.ensures p.from-v.ensures in let d = x.asked.labels.degrees.nodes in (omega (arith, k.0, d), omega (arith, k.1, d))

  -- what is answered, by both degrees and the first labels
  abbrev firsts : Bool
  firsts = usable ((instance_of s).label (first (instance_of s) u)) ((instance_of s).label (first (instance_of s) v))

  told : ((ltb 1 (byte s u) || ltb 1 (byte s v)) || firsts) ≡ not (none_usable s start.args.e)
  told = edge_by x.asked there p.from-u.ensures p.from-v.ensures refl refl

  inside : (u < length s) × (v < length s)
  inside = degrees_inside x.asked there p.from-u.ensures p.from-v.ensures

pub bounds-self-u : goal.bounds-self-u
bounds-self-u c = (inside (goal.at.bounds-self-u c).After-from-v).0

pub bounds-self-v : goal.bounds-self-v
bounds-self-v c = (inside (goal.at.bounds-self-v c).After-from-v).1

pub first_label-requires : goal.first_label-requires
first_label-requires c = omega (arith, known (goal.at.first_label-requires c).After-from-v)

pub first_label-requires-2 : goal.first_label-requires-2
first_label-requires-2 c = omega (arith, known (goal.at.first_label-requires-2 c).After-from-v)

pub returns-then-self-u-gt1 : goal.returns-then-self-u-gt1
returns-then-self-u-gt1 c =
    let p = (goal.at.returns-then-self-u-gt1 c).After-from-v in sym (left_true (firsts p) (left_true (ltb 1 (byte (s p) (v p))) (lt-ltb 1 (byte (s p) (u p)) c.if-self-u-gt1.true))) ∙ told p

pub returns-then-self-v-gt1 : goal.returns-then-self-v-gt1
returns-then-self-v-gt1 c =
    let p = (goal.at.returns-then-self-v-gt1 c).After-from-v in sym (left_true (firsts p) (right_true (ltb 1 (byte (s p) (u p))) (lt-ltb 1 (byte (s p) (v p)) c.if-self-v-gt1.true))) ∙ told p

pub returns : goal.returns
returns c =
    let p = (goal.at.returns c).After-from-v in c.usable.ensures ∙ ap₂ usable c.first_label.ensures c.first_label-2.ensures
    ∙ ap₂ (λ (a b : Bool). (a || b) || firsts p) (sym (le-ltb 1 (byte (s p) (u p)) c.if-self-u-gt1.false)) (sym (le-ltb 1 (byte (s p) (v p)) c.if-self-v-gt1.false))
    ∙ told p
