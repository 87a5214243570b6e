-- The numbers of a reading: the node starts have 64 places, refused or not.
-- Assumes nothing.
use mathlib.Core.Path.{◌≡◌}
use mathlib.Core.List.{List, ◌++◌}
use Prim.Native.Nat.{ℕ}
use lib.Dec.{eqb}
use lib.ListN.{length, length-replicate}
use Rattle.integers.proofs.Places.{by_cond}
use Rattle.integers.proofs.Checks.{length-padded}
use Rattle.instance.specs.declared.layout.Layout.{Layout}
use Rattle.instance.specs.Instance.{first}
use Rattle.instance.specs.Sheet.{instance_of, refusal_of}
use Rattle.instance.specs.Layout.{refused_by, described, answer_of, layout_of}
use Rattle.exports.specs.Reading.{counts_of, numbers_of}

pub starts_long : (s : List ℕ) → length (layout_of s).starts ≡ 64
unfolding layout_of answer_of described refused_by
starts_long s =
    by_cond (λ (l : Layout). length l.starts ≡ 64) (eqb (refusal_of s) 0)
    (λ e. length-padded 64 (instance_of s).node_count (first (instance_of s))) (λ e. length-replicate {A = ℕ} 64 0)

-- the three parts together
pub numbers_by : (l : Layout) {counts starts tables : List ℕ} → counts ≡ counts_of l → starts ≡ l.starts → tables ≡ l.tables → counts ++ (starts ++ tables) ≡ numbers_of l
unfolding numbers_of
numbers_by l p q r = λ j. p j ++ (q j ++ r j)
