-- Numbers in decimal, as ASCII bytes.
use Rattle.std.specs.Prelude.{cond, List, [], ◌∷◌, ◌++◌, ℕ, zero, suc, ◌+◌, ◌-◌, ◌*◌, ◌/◌, ◌%◌, ltb, ℤ, pos, negsuc}

-- at most `room` digits of n, which is all of them where n lies below `room`
unfoldable pub digits_in : ℕ → ℕ → List ℕ
digits_in zero n = []
digits_in (suc room) n = cond (ltb n 10) ((48 + n) ∷ []) (digits_in room (n / 10) ++ ((48 + n % 10) ∷ []))

-- a digit, or n / 10 in decimal and then the last digit
unfoldable pub decimal : ℕ → List ℕ
decimal n = digits_in (suc n) n

-- with a leading '-' below 0
unfoldable pub signed : ℤ → List ℕ
signed (pos n) = decimal n
signed (negsuc n) = 45 ∷ decimal (suc n)

-- what digits stand for, after digits that stand for `ahead`
unfoldable pub value_from : ℕ → List ℕ → ℕ
value_from ahead [] = ahead
value_from ahead (d ∷ l) = value_from (ahead * 10 + (d - 48)) l
