-- What a caller of `answer`, `compose` and `refusal_text` may cite besides their promises.
-- Assumes nothing.
use mathlib.Core.Path.{◌≡◌, ap, ◌∙◌}
use mathlib.Core.List.{List, ◌++◌}
use Prim.Native.Nat.{ℕ, ◌≤◌}
use native.Mathlib.Omega.{arith}
use lib.Dec.{ltb}
use lib.ListN.{length, drop, length-append}
use Rattle.integers.proofs.Places.{by-test, if-true, if-false}
use Rattle.console.specs.Output.{Output, outputs, output_of}

-- the count lies within the buffer
pub output_counts : (text a : List ℕ) {b : List ℕ} {r : ℕ} → outputs b r ≡ output_of text a → r ≤ length b
unfolding output_of
output_counts text a {b} {r} e =
    by-test (ltb (length a) 256)
    (λ t. let q : outputs b r ≡ outputs a 0 = e ∙ if-true _ _ t in omega (arith, ap (λ (o : Output). o.count) q))
    (λ t. let q : outputs b r ≡ outputs (text ++ drop (length text) a) (length text) = e ∙ if-false _ _ t in
    omega (arith, ap (λ (o : Output). o.count) q, ap (λ (o : Output). length o.bytes) q, length-append text (drop (length text) a)))
