-- A record of kind 5 or 6: what it leaves of the incumbent and answers, and what its code asks of the lent buffers.
use Rattle.std.specs.Prelude.{◌≡◌, ℕ, true, cond, ◌&&◌, List, length, ℤ, ◌==◌}
use Rattle.std.proofs.Math.Option.{Option, none, some}
use Rattle.instance.specs.Instance.{Instance}
use Rattle.instance.specs.Sheet.{instance_of}
use Rattle.rules.specs.Calls.{incumbent_ok}
use Rattle.rules.specs.Assigned.{Way, candidate}
use Rattle.messages.specs.Incumbent.{adopted_of}
use Rattle.messages.specs.Rounded.{costs_by}

-- the incumbent left, 1 for a rounding that is stuck, and the refusal
pub record RoundMove : Type 0 where
  pub incumbent : List ℕ
  pub stuck : ℕ
  pub refusal : ℕ

abbrev pub round_move : List ℕ → ℕ → ℕ → RoundMove
round_move incumbent stuck refusal = record { incumbent = incumbent; stuck = stuck; refusal = refusal }

-- a rounding that is stuck leaves the incumbent; one that is not may replace it
unfoldable pub round_left : Instance → Option (List ℕ) → List ℕ → RoundMove
round_left I none old = round_move old 1 0
round_left I (some x) old = round_move (adopted_of I x old) 0 0

-- a record is refused unless its node, its index and its share are 0
unfoldable pub round_taken : Instance → List ℤ → List ℤ → List ℕ → Way → ℕ → ℕ → ℕ → RoundMove
round_taken I nodes edges old w u k r =
    cond (u == 0 && k == 0 && r == 0) (round_left I (candidate I (costs_by nodes edges) w) old) (round_move old 0 12)

-- an incumbent of the right length that is a matching or none
pub record IncumbentFits (s old : List ℕ) : Type 0 where
  pub size : length old ≡ (instance_of s).node_count
  pub ok : incumbent_ok (instance_of s) old ≡ true
