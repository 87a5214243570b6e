-- Writing records one after another.
-- Assumes nothing.
use mathlib.Core.Path.{◌≡◌, refl, sym, ap, ap₂, subst, ◌∙◌}
use mathlib.Core.List.{List, [], ◌∷◌, ◌++◌, map, map-append, append-nil, append_assoc}
use mathlib.Core.List.Memᴰ.{head as here}
use mathlib.Core.List.Memᴰ.{not-nil}
use mathlib.Core.List.Memᴰ.{tail as there}
use mathlib.Core.List.{Memᴰ as Mem}
use Prim.Native.Nat.{ℕ, zero, suc, ◌+◌, ◌-◌, ◌*◌, ◌/◌, ◌%◌, ◌≤◌, ◌<◌}
use native.Mathlib.Omega.{arith}
use lib.ListN.{length, get_or, take, set, length-set, length-append, length-map}
use lib.Seq.{take_all, length-take-le}
use Rattle.std.proofs.lemmas.List.{take_more}
use Rattle.std.proofs.lemmas.Grind.{take-set_at}
use Rattle.integers.specs.Places.{range}
use Rattle.integers.proofs.Places.{range_mem, length-range}
use Rattle.integers.proofs.Ranges.{range_add}
use Rattle.index.specs.Index.{many, held}
use Rattle.index.proofs.Indexed.{length-held}
use Rattle.schedule.specs.declared.labels.Spot.{Spot}
use Rattle.schedule.specs.declared.writer.Writer.{Writer}
use Rattle.schedule.specs.Sweep.{Entry, entry, bytes, each, falling, from_edges, to_edges, to_labels}
use Rattle.schedule.specs.Writing.{Wrote, Room, received, sent, passed, spotted, label_by}

-- ---- bytes

pub bytes_append : (k l : List Entry) → bytes (k ++ l) ≡ bytes k ++ bytes l
unfolding bytes
bytes_append [] l = refl
bytes_append (x ∷ k) l = ap (λ (b : List ℕ). x.kind ∷ x.node ∷ x.index % 256 ∷ x.index / 256 ∷ x.share ∷ b) (bytes_append k l)

pub length-bytes : (l : List Entry) → length (bytes l) ≡ 5 * length l
unfolding bytes
length-bytes [] = refl
length-bytes (x ∷ l) = let h = length-bytes l in omega arith

-- ---- how many records

pub length-to_edges : (u q : ℕ) (l : List ℕ) → length (to_edges u q l) ≡ length l
unfolding to_edges
length-to_edges u q [] = refl
length-to_edges u q (e ∷ l) = ap suc (length-to_edges u (q - 1) l)

pub length-to_labels : (u degree : ℕ) → length (to_labels u (range 0 degree)) ≡ degree
unfolding to_labels
length-to_labels u degree = length-map (range 0 degree) (λ k. entry 3 u k 1) ∙ length-range 0 degree

pub length-received : (edges : List ℕ) (u : ℕ) → length (received edges u) ≡ many edges u
unfolding from_edges
length-received edges u = length-map (held edges u) (λ e. entry 2 u e 1) ∙ length-held edges u

pub length-sent : (edges : List ℕ) (more u : ℕ) → length (sent edges more u) ≡ many edges u
length-sent edges more u = length-to_edges u (many edges u + more) (held edges u) ∙ length-held edges u

pub length-passed : (from to : List ℕ) (more u : ℕ) → length (passed from to more u) ≡ many from u + many to u
length-passed from to more u = omega (arith, length-append (received from u) (sent to more u), length-received from u, length-sent to more u)

pub length_label : (places : List ℕ) (spots : List Spot) (l : ℕ) → length (label_by places spots l) ≡ many places l
length_label places spots l = length-map (held places l) (spotted spots) ∙ length-held places l

pub length-mapped : {A : Type 0} (f : A → Entry) (xs : List A) (i : ℕ) → i ≤ length xs → length (map f (take i xs)) ≡ i
length-mapped f xs i h = length-map (take i xs) f ∙ length-take-le i xs h

pub length-shared : (u q : ℕ) (xs : List ℕ) (i : ℕ) → i ≤ length xs → length (to_edges u q (take i xs)) ≡ i
length-shared u q xs i h = length-to_edges u q (take i xs) ∙ length-take-le i xs h

-- ---- writing

pub wrote_none : (w : Writer) → Wrote w [] w
unfolding bytes
wrote_none w = record { same_reference = refl; size = refl; place = omega arith; content = sym (append-nil _) }

module _ {w : Writer} {k : List Entry} {w' : Writer} (x : Wrote w k w') where
  -- one list after another
  pub wrote_append : {l : List Entry} {w'' : Writer} → Wrote w' l w'' → Wrote w (k ++ l) w''
  wrote_append {l} y = record {
    same_reference = y.same_reference ∙ x.same_reference;
    size = y.size ∙ x.size;
    place = omega (arith, x.place, y.place, length-append k l);
    content = y.content ∙ ap (λ (b : List ℕ). b ++ bytes l) x.content ∙ append_assoc (take w.at w.out.now) (bytes k) (bytes l) ∙ ap (λ (b : List ℕ). take w.at w.out.now ++ b) (sym (bytes_append k l));
  }

  -- the same list in other words
  pub wrote_as : {l : List Entry} → k ≡ l → Wrote w l w'
  wrote_as e = subst (λ (r : List Entry). Wrote w r w') e x

  -- of the room for n records what is left
  pub room_left : {n : ℕ} (m : ℕ) → Room w n → length k + m ≤ n → Room w' m
  room_left m r h = record { fits = omega (arith, x.place, x.size, r.fits) }

-- room for fewer
pub room_for : {w : Writer} {n : ℕ} (m : ℕ) → Room w n → m ≤ n → Room w m
room_for m r h = record { fits = omega (arith, r.fits) }

-- a whole buffer
pub wrote_all : {w w' : Writer} {l : List Entry} → Wrote w l w' → w.at ≡ 0 → length w.out.now ≡ length (bytes l) → w'.out.now ≡ bytes l
wrote_all {w} {w'} {l} x z e =
    let n : length w'.out.now ≤ w'.at = omega (arith, x.place, x.size, length-bytes l) in
    sym (take_all w'.at w'.out.now n) ∙ x.content ∙ ap (λ (i : ℕ). take i w.out.now ++ bytes l) z

-- five stores
pub five : (l : List ℕ) (i a b c d e : ℕ) → i + 5 ≤ length l → take (i + 5) (set (set (set (set (set l i a) (i + 1) b) (i + 2) c) (i + 3) d) (i + 4) e) ≡ take i l ++ a ∷ b ∷ c ∷ d ∷ e ∷ []
five l i a b c d e h =
    let l1 = set l i a in
    let l2 = set l1 (i + 1) b in
    let l3 = set l2 (i + 2) c in
    let l4 = set l3 (i + 3) d in
    let n1 : length l1 ≡ length l = length-set l i a in
    let n2 : length l2 ≡ length l = length-set l1 (i + 1) b ∙ n1 in
    let n3 : length l3 ≡ length l = length-set l2 (i + 2) c ∙ n2 in
    let n4 : length l4 ≡ length l = length-set l3 (i + 3) d ∙ n3 in
    take-set_at l4 (i + 4) (i + 5) e (omega arith) (omega arith)
    ∙ ap (λ (k : List ℕ). k ++ e ∷ [])
    (take-set_at l3 (i + 3) (i + 4) d (omega arith) (omega arith)
    ∙ ap (λ (k : List ℕ). k ++ d ∷ [])
    (take-set_at l2 (i + 2) (i + 3) c (omega arith) (omega arith)
    ∙ ap (λ (k : List ℕ). k ++ c ∷ [])
    (take-set_at l1 (i + 1) (i + 2) b (omega arith) (omega arith) ∙ ap (λ (k : List ℕ). k ++ b ∷ []) (take-set_at l i (i + 1) a (omega arith) (omega arith)))))
    ∙ simp append_assoc

-- ---- turns of a loop over a list: one thing more

module _ {A : Type 0} (xs : List A) (i : ℕ) (d : A) (h : i < length xs) where
  pub mapped_more : (f : A → Entry) → map f (take i xs) ++ f (get_or xs i d) ∷ [] ≡ map f (take (i + 1) xs)
  mapped_more f = sym (map-append f (take i xs) (get_or xs i d ∷ [])) ∙ ap (map f) (sym (take_more xs i d h))

-- with shares that fall
to_edges_append : (u q : ℕ) (k l : List ℕ) → to_edges u q (k ++ l) ≡ to_edges u q k ++ to_edges u (q - length k) l
unfolding to_edges
to_edges_append u q [] l = let e : q ≡ q - 0 = omega arith in ap (λ (r : ℕ). to_edges u r l) e
to_edges_append u q (e ∷ k) l =
    let d : q - 1 - length k ≡ q - suc (length k) = omega arith in
    ap (λ (r : List Entry). entry 1 u e q ∷ r) (to_edges_append u (q - 1) k l ∙ ap (λ (r : ℕ). to_edges u (q - 1) k ++ to_edges u r l) d)

pub shared_more : (xs : List ℕ) (i u q : ℕ) → i < length xs → to_edges u q (take i xs) ++ entry 1 u (get_or xs i 0) (q - i) ∷ [] ≡ to_edges u q (take (i + 1) xs)
unfolding to_edges
shared_more xs i u q h =
    ap (λ (r : ℕ). to_edges u q (take i xs) ++ entry 1 u (get_or xs i 0) (q - r) ∷ []) (sym (length-take-le i xs (omega arith)))
    ∙ sym (to_edges_append u q (take i xs) (get_or xs i 0 ∷ [])) ∙ ap (to_edges u q) (sym (take_more xs i 0 h))

-- a position more
pub positions_more : (u k : ℕ) → to_labels u (range 0 k) ++ entry 3 u k 1 ∷ [] ≡ to_labels u (range 0 (k + 1))
unfolding to_labels range
positions_more u k =
    let f : ℕ → Entry = (λ k. entry 3 u k 1) in
    let z : 0 + k ≡ k = omega arith in
    ap (λ (a : ℕ). map f (range 0 k) ++ f a ∷ []) (sym z) ∙ sym (map-append f (range 0 k) (range (0 + k) 1)) ∙ ap (map f) (sym (range_add 0 k 1))

-- the lists of each
pub each_append : (f : ℕ → List Entry) (k l : List ℕ) → each f (k ++ l) ≡ each f k ++ each f l
unfolding each
each_append f [] l = refl
each_append f (i ∷ k) l = ap (λ (r : List Entry). f i ++ r) (each_append f k l) ∙ sym (append_assoc (f i) (each f k) (each f l))

pub each_next : (f : ℕ → List Entry) (n : ℕ) → each f (range 0 (suc n)) ≡ each f (range 0 n) ++ f n
unfolding each range
each_next f n =
    let e : suc n ≡ n + 1 = omega arith in
    let z : 0 + n ≡ n = omega arith in
    ap (λ (m : ℕ). each f (range 0 m)) e ∙ ap (each f) (range_add 0 n 1 ∙ ap (λ (a : ℕ). range 0 n ++ range a 1) z) ∙ each_append f (range 0 n) (range n 1)
    ∙ ap (λ (r : List Entry). each f (range 0 n) ++ r) (append-nil (f n))

pub each_ext : (f g : ℕ → List Entry) (l : List ℕ) → ((i : ℕ) → Mem i l → f i ≡ g i) → each f l ≡ each g l
unfolding each
each_ext f g [] h = refl
each_ext f g (i ∷ l) h = ap₂ ◌++◌ (h i (here refl)) (each_ext f g l (λ j m. h j (there m)))

-- ---- a loop that writes a list for each of some numbers: some are done, and `rest` is left

pub record Turns (f : ℕ → List Entry) (w : Writer) (all : List ℕ) (w' : Writer) (rest : List ℕ) : Type 0 where
  pub done : List Entry
  pub wrote : Wrote w done w'
  pub left : done ++ each f rest ≡ each f all

pub turns_start : (f : ℕ → List Entry) (w : Writer) {all rest : List ℕ} → rest ≡ all → Turns f w all w rest
turns_start f w e = record { done = []; wrote = wrote_none w; left = ap (each f) e }

module _ {f : ℕ → List Entry} {w : Writer} {all : List ℕ} {w' : Writer} {rest : List ℕ} (x : Turns f w all w' rest) where
  module _ {i : ℕ} {l : List ℕ} (e : rest ≡ i ∷ l) where
    split : each f rest ≡ f i ++ each f l
    unfolding each
    split = ap (each f) e

    pub turns_room : Room w (length (each f all)) → Room w' (length (f i))
    turns_room r =
        room_left x.wrote (length (f i)) r
        (omega (arith, ap length x.left, length-append x.done (each f rest), ap length split, length-append (f i) (each f l)))

    pub turns_more : {w'' : Writer} → Wrote w' (f i) w'' → Turns f w all w'' l
    turns_more y = record {
      done = x.done ++ f i;
      wrote = wrote_append x.wrote y;
      left = append_assoc x.done (f i) (each f l) ∙ ap (λ (r : List Entry). x.done ++ r) (sym split) ∙ x.left;
    }

  pub turns_end : rest ≡ [] → Wrote w (each f all) w'
  unfolding each
  turns_end e = wrote_as x.wrote (sym (append-nil x.done) ∙ ap (λ (r : List ℕ). x.done ++ each f r) (sym e) ∙ x.left)

-- ---- of the numbers below n what is left from i on, rising; and what is left of them, falling

abbrev pub onward : ℕ → ℕ → List ℕ
onward n i = range i (n - i)

pub onward_start : (n : ℕ) → onward n 0 ≡ range 0 n
onward_start n = let e : n - 0 ≡ n = omega arith in ap (range 0) e

pub onward_more : {n i : ℕ} → i < n → onward n i ≡ i ∷ onward n (i + 1)
unfolding range
onward_more {n} {i} h =
    let e : n - i ≡ suc (n - (i + 1)) = omega arith in
    let d : suc i ≡ i + 1 = omega arith in ap (range i) e ∙ ap (λ (k : ℕ). i ∷ range k (n - (i + 1))) d

pub onward_end : {n i : ℕ} → n ≤ i → onward n i ≡ []
unfolding range
onward_end {n} {i} h = let e : n - i ≡ 0 = omega arith in ap (range i) e

pub falling_more : {i : ℕ} → 0 < i → falling i ≡ (i - 1) ∷ falling (i - 1)
unfolding falling
falling_more {i} h = let e : i ≡ suc (i - 1) = omega arith in ap falling e

pub falling_end : {i : ℕ} → i ≡ 0 → falling i ≡ []
unfolding falling
falling_end e = ap falling e

-- ---- what is in a list of numbers below n

pub mem_below : {n i : ℕ} → Mem i (range 0 n) → i < n
mem_below {n} m = omega (arith, (range_mem 0 n m).1)

pub falling_mem : (n : ℕ) {i : ℕ} → Mem i (falling n) → i < n
unfolding falling
falling_mem zero m = absurd (not-nil m)
falling_mem (suc n) (here e) = omega arith
falling_mem (suc n) (there m) = let h = falling_mem n m in omega arith
