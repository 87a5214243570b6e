-- `positions` meets its contract: the nodes' positions, and what lies past them.
use Rattle.std.proofs.Common.{◌≡◌, ap, ◌∙◌, List, ℕ, take, replicate, length, get_or, length-take-le}
use Rattle.integers.specs.Places.{tabulate}
use Rattle.integers.proofs.Places.{length-tabulate}
use Rattle.placing.specs.Words.{entry, rank}
use Rattle.placing.proofs.SeatLaws.{padded_out}
use Rattle.placing.proofs.assigning.positions.Goals as goal

pub returns : goal.returns
returns c =
    let n = c.args.nodes.now.count in
    let f : ℕ → ℕ = (λ u. rank (entry c.args.nodes.now.sets u) (entry c.args.taken.now u)) in
    let part : length (take n (replicate 64 0)) ≡ n = length-take-le n (replicate 64 0) c.args.nodes.now.few in
    let out : c.write_positions.new.out ≡ tabulate n f = c.write_positions.ensures ∙ ap (λ (m : ℕ). tabulate m f) part in
    padded_out c.write_positions.new.out c.args.nodes.now.few (ap length out ∙ length-tabulate n f) ∙ ap (λ (x : List ℕ). tabulate 64 (λ k. get_or x k 0)) out
