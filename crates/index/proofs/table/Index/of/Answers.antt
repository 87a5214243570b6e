-- `of` meets its contract: zeros, the index of the things so far, and of one more. No row of it has more than 64.
use Prim.Native.Nat.{ℕ, ◌*◌, ◌<◌}
use mathlib.Core.Path.{◌≡◌, sym, ap, ap₂, subst, ◌∙◌}
use mathlib.Core.List.{List}
use native.Mathlib.Omega.{arith}
use lib.ListN.{length}
use Rattle.index.specs.Index.{key_at, Things, Few, entered, index_of}
use Rattle.index.proofs.Indexed.{index_few}
use Rattle.index.proofs.Filling.{filled, filled_none, filled_more, filled_all, thing_is}
use Rattle.index.proofs.table.Index.of.Goals as goal
use Rattle.index.proofs.table.Index.of.Goals.{In-loop-thing, After-loop-thing}

-- a thing, and where its key stands
module _ (p : In-loop-thing) where
  abbrev bytes : List ℕ
  bytes = p.args.bytes.now

  abbrev stride : ℕ
  stride = p.args.stride

  abbrev i : ℕ
  i = p.loop-thing.thing

  counted : Things (length bytes) stride p.count-thing-end.result
  counted = p.count-thing-end.ensures

  inside : stride * i < length bytes
  inside = thing_is (length bytes) stride i (counted.each i p.loop-thing-test.true)

pub loop-thing-init : goal.loop-thing-init
loop-thing-init c = filled_none (key_at c.args.bytes.now c.args.stride)

pub overflow_mul-stride : goal.overflow_mul-stride
overflow_mul-stride c = omega (arith, inside (goal.at.overflow_mul-stride c).In-loop-thing, c.ranges)

pub bounds-bytes-stride : goal.bounds-bytes-stride
bounds-bytes-stride c = inside (goal.at.bounds-bytes-stride c).In-loop-thing

pub loop-thing-preserved : goal.loop-thing-preserved
loop-thing-preserved c =
    let p = (goal.at.loop-thing-preserved c).In-loop-thing in
    c.enter.ensures ∙ ap₂ (λ (l : List ℕ) (k : ℕ). entered l k (i p)) c.loop-thing.invariant c.from.ensures ∙ filled_more (key_at (bytes p) (stride p)) (i p)

-- with all things entered it is the index
made : (c : After-loop-thing) → c.loop-thing.entries ≡ index_of c.args.bytes.now c.args.stride
made c =
    let e : c.loop-thing.thing ≡ c.count-thing-end.result = omega arith in
    c.loop-thing.invariant ∙ ap (filled (key_at c.args.bytes.now c.args.stride)) e ∙ filled_all c.args.bytes.now c.args.stride c.count-thing-end.ensures

pub invariant_of-result : goal.invariant_of-result
invariant_of-result c = subst Few (sym (made c)) (index_few _ _)

pub returns : goal.returns
returns c = made (goal.at.returns c).After-loop-thing
