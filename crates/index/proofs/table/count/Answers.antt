-- `count` meets its contract: the length by the stride, rounded up, and at most 65,536.
use native.Mathlib.Omega.{arith}
use native.Mathlib.Nat.{mul_comm}
use Rattle.std.proofs.lemmas.Grind.{div_ceil_times}
use Rattle.index.proofs.Filling.{counted_none, counted_by}
use Rattle.index.proofs.table.count.Goals as goal

pub returns-then-stride-eq0 : goal.returns-then-stride-eq0
returns-then-stride-eq0 c = counted_none c.args.len c.args.stride c.if-stride-eq0.true

pub returns : goal.returns
returns c =
    let a = c.args in
    let bounds = rw (← c.div_ceil.ensures) at (div_ceil_times a.len a.stride (omega arith)) in
    let by = mul_comm c.div_ceil.result a.stride in
    rw (c.min.ensures) (counted_by a.len a.stride c.div_ceil.result (omega (arith, bounds.0)) (omega (arith, bounds.1)))
