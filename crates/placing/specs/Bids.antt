-- Bids for labels, by which nodes are placed without a search.
use Rattle.std.specs.Prelude.{◌≡◌, true, List, ◌⊎◌, ℕ, ◌*◌, ◌^◌, ◌≤◌, ◌<◌, ℤ, pos, ◌+ℤ◌, ◌≤ℤ◌, nat_abs}
use Rattle.integers.specs.Words.{bit}
use Rattle.placing.specs.declared.offers.Offers.{Offers}
use Rattle.placing.specs.Words.{entry, Stands, Standing}
use Rattle.placing.specs.Priced.{price, net, Priced}
use Rattle.placing.specs.Paths.{paid, may}

-- u's label of least net cost, and how far its price can rise until another of u's labels costs as little: not at all if u has no other
pub record Choice (o : Offers) (prices : List ℤ) (u label : ℕ) (raise : ℤ) : Type 0 where
  pub has : may o u label
  pub floor : pos 0 ≤ℤ raise
  pub others : (k : ℕ) → may o u k → (k ≡ label → ⊥) → (net (paid o) prices u label +ℤ raise) ≤ℤ net (paid o) prices u k
  pub exact : ((k : ℕ) × may o u k × (k ≡ label → ⊥) × (net (paid o) prices u label +ℤ raise ≡ net (paid o) prices u k)) ⊎ (((k : ℕ) → may o u k → k ≡ label) × (raise ≡ pos 0))

-- the node a, which took the label l, has left it; 255 for none
pub record Displaced (taken : List ℕ) (free l : ℕ) (taken' : List ℕ) (free' a : ℕ) : Type 0 where
  pub kind : (a ≡ 255) ⊎ ((a < 64) × (entry taken a ≡ l) × (entry taken' a ≡ 255))
  pub only : (x : ℕ) → x < 64 → entry taken x ≡ l → x ≡ a
  pub others : (x : ℕ) → (x ≡ a → ⊥) → entry taken' x ≡ entry taken x
  pub vacant : bit free' l ≡ true
  pub back : (x : ℕ) → x < 64 → (x ≡ l → ⊥) → bit free' x ≡ bit free x

-- no price is above that of m bids: each adds at most the difference of two costs
abbrev pub UpTo : ℕ → List ℤ → Type 0
UpTo m prices = (l : ℕ) → nat_abs (price prices l) ≤ m * 2 ^ 41

-- the nodes below n that are not of the word `out`, but for a
abbrev pub Others : ℕ → ℕ → ℕ → ℕ → Type 0
Others n out a x = Stands n out x × (x ≡ a → ⊥)

-- after m bids those are placed at least cost, and a is not; 255 for none
pub record Aloft (o : Offers) (taken : List ℕ) (free : ℕ) (prices : List ℤ) (out m a : ℕ) : Type 0 where
  pub kind : (a ≡ 255) ⊎ Stands o.nodes.now.count out a
  pub seated : Standing (Others o.nodes.now.count out a) o.nodes.now.own taken
  pub priced : Priced (Others o.nodes.now.count out a) o.nodes.now.sets o.nodes.now.own (paid o) taken free prices
  pub bound : UpTo m prices

-- after m bids the nodes that are not of `out` are placed at least cost
pub record Landed (o : Offers) (taken : List ℕ) (free : ℕ) (prices : List ℤ) (out m : ℕ) : Type 0 where
  pub seated : Standing (Stands o.nodes.now.count out) o.nodes.now.own taken
  pub priced : Priced (Stands o.nodes.now.count out) o.nodes.now.sets o.nodes.now.own (paid o) taken free prices
  pub bound : UpTo m prices
