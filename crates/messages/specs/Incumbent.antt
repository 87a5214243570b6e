-- What a labelling that may replace the incumbent leaves.
use Rattle.std.specs.Prelude.{ℕ, Bool, cond, ◌||◌, List, int_lt}
use Rattle.instance.specs.Instance.{Instance}
use Rattle.rules.specs.Costs.{none_kept, price_of}

-- x replaces the incumbent if none is kept or its price is lower
unfoldable pub replaces : Instance → List ℕ → List ℕ → Bool
replaces I x old = none_kept old || int_lt (price_of I x) (price_of I old)

unfoldable pub adopted_of : Instance → List ℕ → List ℕ → List ℕ
adopted_of I x old = cond (replaces I x old) x old
