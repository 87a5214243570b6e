-- An index of things by a key below 64: for each key a row of 65 numbers, how many things have the key and then those things, rising.
use Rattle.std.specs.Prelude.{◌≡◌, Bool, true, false, cond, ◌&&◌, List, ◌∷◌, map, ℕ, ◌+◌, ◌*◌, ◌/◌, ◌%◌, ◌≤◌, ◌<◌, ltb, eqb, length, get_or, set, take}
use Rattle.integers.specs.Places.{range, select, tabulate}

-- ---- the entries of an index

-- the rows, one after another: how many things, those things, and zeros
unfoldable pub in_rows : (ℕ → List ℕ) → List ℕ
in_rows row = tabulate 4160 (λ p. get_or (length (row (p / 65)) ∷ row (p / 65)) (p % 65) 0)

-- thing i has as its key the byte at stride times i, and is none where no byte stands; with a stride of 0 there are no things
unfoldable pub thing : ℕ → ℕ → ℕ → Bool
thing size stride i = ltb 0 stride && ltb (stride * i) size

abbrev pub key_at : List ℕ → ℕ → ℕ → ℕ
key_at bytes stride i = get_or bytes (stride * i) 0

-- of the first 65,536 things the first 64 that have the key l
unfoldable pub row_of : List ℕ → ℕ → ℕ → List ℕ
row_of bytes stride l = take 64 (select (λ i. thing (length bytes) stride i && eqb (key_at bytes stride i) l) (range 0 65_536))

unfoldable pub index_of : List ℕ → ℕ → List ℕ
index_of bytes stride = in_rows (row_of bytes stride)

-- ---- what a reader of an index knows

-- the things below m that have the key l, rising
abbrev pub having : (ℕ → ℕ) → ℕ → ℕ → List ℕ
having key l m = select (λ i. eqb (key i) l) (range 0 m)

-- how many things the row of l has, and which
abbrev pub many : List ℕ → ℕ → ℕ
many index l = get_or index (65 * l) 0

abbrev pub held : List ℕ → ℕ → List ℕ
held index l = map (λ j. get_or index j 0) (range (65 * l + 1) (many index l))

-- no row has more things than it has room for
abbrev pub Few : List ℕ → Type 0
Few index = (l : ℕ) → l < 64 → many index l ≤ 64

-- the index of the things below m
pub record Indexed (key : ℕ → ℕ) (m : ℕ) (index : List ℕ) : Type 0 where
  pub size : length index ≡ 4160
  pub few : (l : ℕ) → l < 64 → many index l ≤ 64
  pub rows : (l : ℕ) → l < 64 → held index l ≡ having key l m
  pub inside : (l j : ℕ) → l < 64 → j < many index l → get_or index (65 * l + 1 + j) 0 < m

-- m things in some bytes: m is their length by the stride, rounded up; these are the keys, and no key below 64 has more than 64 things
pub record Indexable (bytes : List ℕ) (stride : ℕ) (key : ℕ → ℕ) (m : ℕ) : Type 0 where
  pub all : length bytes ≤ stride * m
  pub each : stride * m < length bytes + stride
  pub few : m ≤ 65_536
  pub keys : (i : ℕ) → i < m → get_or bytes (stride * i) 0 ≡ key i
  pub roomy : (l : ℕ) → l < 64 → length (having key l m) ≤ 64

-- ---- how it is made

-- the things are the numbers below m
pub record Things (size stride m : ℕ) : Type 0 where
  pub few : m ≤ 65_536
  pub each : (i : ℕ) → i < m → thing size stride i ≡ true
  pub all : (i : ℕ) → m ≤ i → i < 65_536 → thing size stride i ≡ false

-- one thing more, of the key k, where its row has room
unfoldable pub entered : List ℕ → ℕ → ℕ → List ℕ
entered index k i = cond (ltb k 64 && ltb (many index k) 64) (set (set index (65 * k + 1 + many index k) i) (65 * k) (many index k + 1)) index
