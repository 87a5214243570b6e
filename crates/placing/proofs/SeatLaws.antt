-- Nodes that take the labels of a table, one after another.
-- Assumes nothing.
use mathlib.Core.Path.{◌≡◌, sym, ap, ◌∙◌}
use mathlib.Core.List.{List, ◌++◌}
use Prim.Native.Nat.{ℕ, ◌+◌, ◌-◌, ◌≤◌, ◌<◌}
use native.Mathlib.Omega.{arith}
use borrow.Author.Tests.{ltb-true, ltb-false}
use lib.Dec.{ltb}
use lib.ListN.{length, drop, replicate, get_or, get_or-append, get_or-eq_default, length-append, length-replicate, length-drop, get_or-replicate}
use lib.Seq.{get_or-drop, get_or-append_right, ext_get_or}
use Rattle.integers.specs.Places.{tabulate}
use Rattle.integers.proofs.Places.{by-test, length-tabulate, get_d_tabulate}
use Rattle.placing.specs.Words.{entry}

-- the first i nodes do, and the others take none
pub record SeatedUpTo (taken : List ℕ) (i : ℕ) (taken' : List ℕ) : Type 0 where
  pub size : length taken' ≡ 64
  pub done : (u : ℕ) → u < i → entry taken' u ≡ entry taken u
  pub rest : (u : ℕ) → i ≤ u → u < 64 → entry taken' u ≡ 255

-- ---- positions with nothing after them

abbrev zeros : List ℕ
zeros = replicate 64 0

pub padded_out : {n : ℕ} (x : List ℕ) → n ≤ 64 → length x ≡ n → x ++ drop n zeros ≡ tabulate 64 (λ k. get_or x k 0)
padded_out {n} x few z = ext_get_or 0 (x ++ drop n zeros) (tabulate 64 (λ k. get_or x k 0)) (size ∙ sym (length-tabulate 64 (λ k. get_or x k 0))) (λ k h.
    let g : k < 64 = omega (arith, size) in
    by-test (ltb k n)
    (λ t. let l = ltb-true k n t in get_or-append x (drop n zeros) 0 k (omega arith) ∙ sym (get_d_tabulate 64 (λ k. get_or x k 0) k 0 g))
    (λ t. let l = ltb-false k n t in
    get_or-append_right x (drop n zeros) k 0 (omega arith) ∙ get_or-drop n zeros (k - length x) 0 ∙ get_or-replicate {A = ℕ} 64 (n + (k - length x)) 0 0 (omega arith)
    ∙ sym (get_or-eq_default x 0 {n = k} (omega arith)) ∙ sym (get_d_tabulate 64 (λ k. get_or x k 0) k 0 g)))
  where
    rest : length (drop n zeros) ≡ 64 - n
    rest = length-drop n zeros ∙ ap (λ (m : ℕ). m - n) (length-replicate {A = ℕ} 64 0)

    size : length (x ++ drop n zeros) ≡ 64
    size = length-append x (drop n zeros) ∙ (omega (arith, rest))
