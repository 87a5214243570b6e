-- The words of a sheet, by where each label stands.
-- Assumes nothing.
use mathlib.Core.Path.{◌≡◌, sym, ap, ◌∙◌}
use mathlib.Core.Bool.{Bool}
use mathlib.Core.List.{List}
use Prim.Native.Nat.{ℕ, ◌+◌}
use native.Mathlib.Omega.{arith}
use Rattle.instance.specs.Instance.{Instance, first}
use Rattle.placing.specs.Words.{entry, rank, Laid}
use Rattle.placing.specs.Listed.{Listed}

pub laid_listed : {I : Instance} {n : ℕ} {sets : List ℕ} {own : List Bool} → Laid I n sets own → Listed I n sets own
laid_listed {I} {n} {sets} {own} g = record {
  has = g.has;
  ranks = g.ranks;
  stands = λ u l h a.
      let (k, j, e) = g.only u l h a in
      let r : rank (entry sets u) l ≡ k = ap (rank (entry sets u)) (sym e) ∙ g.ranks u k h j in
      (omega arith, ap (λ (i : ℕ). I.label (first I u + i)) r ∙ e);
}
