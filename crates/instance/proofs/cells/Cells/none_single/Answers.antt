-- `none_single` meets its contract: each degree is above 1.
use Rattle.std.proofs.Common.{◌<◌, length, take, ltb, ltb-true, lt-ltb, get_or, ◌≡◌, ℕ, ap, ◌∙◌, rules, arith, length-take-le, get_or-take}
use Rattle.std.specs.Prelude.{IsTrue, ◌↔◌, EachIndex, slice_index}
use Rattle.integers.specs.Checks.{below}
use Rattle.instance.specs.Bytes.{byte}
use Rattle.instance.proofs.Told.{below_told}
use Rattle.instance.proofs.cells.Cells.none_single.Goals as goal

pub returns : goal.returns
returns c =
    let x = c.args.self.now in
    let s = x.bytes.now in
    let few = take x.nodes s in
    let told : IsTrue c.all.result ↔ EachIndex few (λ k. 1 < slice_index few k) = search rules in
    let size : length few ≡ x.nodes = length-take-le x.nodes s x.asked.labels.degrees.room in
    let same : (k : ℕ) → k < x.nodes → get_or few k 0 ≡ byte s k = λ k h. get_or-take x.nodes s k 0 h in
    below_told c.all.result x.nodes (λ u. ltb 1 (byte s u))
    (λ t k h. lt-ltb 1 (byte s k) (rw (same k h) at (told.0 t k (omega arith))))
    (λ f. told.1 (λ k h. let l : k < x.nodes = omega arith in rw (same k l) (ltb-true 1 (byte s k) (f k l))))
    ∙ ap (λ (n : ℕ). below n (λ u. ltb 1 (byte s u))) x.asked.labels.degrees.nodes
