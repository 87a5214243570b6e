-- `row` meets its contract: the part of the index behind the row's count.
use mathlib.Core.Path.{◌≡◌, ap, ◌∙◌}
use mathlib.Core.List.{List}
use Prim.Native.Nat.{ℕ, ◌+◌, ◌-◌, ◌*◌}
use native.Mathlib.Omega.{arith}
use lib.ListN.{take, drop}
use Rattle.index.specs.Index.{many, held}
use Rattle.index.proofs.Indexed.{held_part}
use Rattle.index.proofs.table.Index.row.Goals as goal

pub returns-clause-things : goal.returns-clause-things
returns-clause-things c =
    let index = c.self.inside.entries in
    let key = c.args.key in
    let few = c.self.invariant key c.requires in
    let size : 65 * key + 1 + c.from-many.result - (65 * key + 1) ≡ many index key = omega arith in
    ap (λ (n : ℕ). take n (drop (65 * key + 1) index)) size ∙ held_part index key (omega arith) ∙ ap (λ (l : List ℕ). held l key) c.self.view_is
