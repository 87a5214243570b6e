-- `way_to` meets its contract: by the kind of label.
use Rattle.std.proofs.Common.{rules, ◌∙◌, sym, arith, to_z-of_z, w64, ⊎_elim}
use Rattle.integers.proofs.Bits.{answer}
use Rattle.placing.proofs.Reaching.{far_small, far_home}
use Rattle.placing.proofs.paths.Paths.way_to.Goals as goal

pub returns-then-l-lt64 : goal.returns-then-l-lt64
returns-then-l-lt64 c = answer c.at.type_inv (c.at.ensures ∙ sym (far_small c.args.self.now c.if-l-lt64.true))

pub returns-else-l-lt64 : goal.returns-else-l-lt64
returns-else-l-lt64 c =
    let p = c.args.self.now in
    to_z-of_z {w = w64} {z = p.home} (search rules) ∙ sym (far_home p (⊎_elim (λ h. absurd (omega (arith, c.if-l-lt64.false))) (λ e. e) c.requires))
