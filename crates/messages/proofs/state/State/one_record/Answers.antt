-- `one_record` meets its contract: a record that is refused for its kind leaves the buffers.
use Rattle.std.proofs.Common.{ℕ, Result, ap, ◌∙◌}
use Rattle.std.proofs.lemmas.Result.{err_from_is_err_and}
use Rattle.instance.specs.declared.refusal.Refusal.{Refusal}
use Rattle.instance.specs.Refusal.{number, refused_in}
use Rattle.messages.specs.Step.{settle, stuck_in}
use Rattle.messages.specs.State.{instance_in, limit_in, buffers_in}
use Rattle.messages.proofs.TurnLaws.{unknown_turn}
use Rattle.messages.proofs.state.State.one_record.Goals as goal

pub returns-in_err-kind-clause-left : goal.returns-in_err-kind-clause-left
returns-in_err-kind-clause-left c =
    let x = c.args.self.now in
    let (y, r, e) = err_from_is_err_and c.from_residual.result c.from_residual.ensures.1 in
    ap (λ (q : Result ℕ Refusal). settle (buffers_in x) (stuck_in q) (refused_in q)) r
    ∙ ap (λ (q : Refusal). settle (buffers_in x) 0 (number q)) e
    ∙ unknown_turn (instance_in x) (limit_in x) (buffers_in x) c.args.bytes.now c.in_err-kind.field-0.0 c.in_err-kind.ensures
