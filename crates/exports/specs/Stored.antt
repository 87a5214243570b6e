-- Numbers stored in a buffer that is lent for them.
use Rattle.std.specs.Prelude.{cond, List, ℕ, eqb, length}

-- a refusal's number beside a buffer
pub record Answered (A : Type 0) : Type 0 where
  pub refusal : ℕ
  pub lent : List A

abbrev pub answered : {A : Type 0} → ℕ → List A → Answered A
answered refusal lent = record { refusal = refusal; lent = lent }

-- 8, "a lent buffer not exactly" so long, after the refusals that come before it
unfoldable pub unlent : ℕ → ℕ
unlent before = cond (eqb before 0) 8 before

-- an answer in a buffer of so many places; one of another length is refused, and left as it was
unfoldable pub answered_in : {A : Type 0} → ℕ → ℕ → Answered A → List A → Answered A
answered_in places before answer lent = cond (eqb (length lent) places) answer (answered (unlent before) lent)
