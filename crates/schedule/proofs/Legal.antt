-- Every record of a sweep is legal, so that a run of a written sweep, at any point of a list of calls after an opening, is refused with 13 or not at all.
-- Assumes nothing.
use mathlib.Core.Path.{◌≡◌, refl, sym, ap, ap₂, ◌∙◌}
use mathlib.Core.Bool.{Bool, true, ◌&&◌, ◌||◌, or-true}
use mathlib.Core.List.{List, [], ◌∷◌, ◌++◌, map}
use mathlib.Core.List.Memᴰ.{head as here}
use mathlib.Core.List.Memᴰ.{tail as there}
use mathlib.Core.List.{Memᴰ as Mem}
use mathlib.Core.Logic.{◌⊎◌}
use Prim.Native.Nat.{ℕ, ◌+◌, ◌-◌, ◌*◌, ◌/◌, ◌%◌, ◌≤◌, ◌<◌}
use native.Mathlib.Nat.{div-add-mod, mul-mod_right}
use native.Mathlib.Omega.{arith}
use borrow.Author.Tests.{eq-eqb, eqb-true, le-leb, lt-ltb}
use lib.Dec.{eqb}
use lib.ListN.{length}
use Rattle.integers.specs.Places.{range, select, every}
use Rattle.integers.proofs.Places.{by_cond, and_both, select_mem, every-all, if-true}
use Rattle.integers.proofs.Ranges.{every_append}
use Rattle.instance.specs.Instance.{Instance, exclusive, first}
use Rattle.instance.specs.Sheet.{instance_of}
use Rattle.instance.specs.Readable.{Proper}
use Rattle.instance.proofs.Readable.{readable}
use Rattle.instance.proofs.LaidOut.{low_inside, below_exclusive}
use Rattle.instance.proofs.Indexes.{higher_few, lower_few}
use Rattle.index.specs.Index.{having}
use Rattle.rules.specs.Run.{kind_of, Record, records, legal_share, legal_edge, legal_position, legal_message}
use Rattle.rules.specs.Calls.{run_of, Call, rules}
use Rattle.rules.proofs.Calls.{Under}
use Rattle.rules.proofs.Legal.{legal_kind, legal, legal_run_refused}
use Rattle.schedule.specs.Sweep.{Entry, entry, bytes, each, falling, from_edges, to_edges, to_labels, from_label, rounding, to_lower, to_higher, positions, labelled, exclusive_positions, forward_at, forward, label_at, backward_at, backward, sweep}
use Rattle.schedule.specs.Written.{sweep_refusal, sweep_of}
use Rattle.schedule.proofs.WritingLaws.{length-bytes, mem_below, falling_mem}
use Rattle.schedule.proofs.Written.{unrefused_readable}

-- ---- five bytes are one record

abbrev record_of : Entry → Record
record_of x = record { kind = kind_of x.kind; node = x.node; index = x.index; share = x.share }

pub records-bytes : (l : List Entry) → records (bytes l) ≡ map record_of l
unfolding records bytes
records-bytes [] = refl
records-bytes (x ∷ l) =
    let e : x.index % 256 + 256 * (x.index / 256) ≡ x.index = omega (arith, div-add-mod x.index 256) in
    ap₂ (λ (k : ℕ) (r : List Record). record { kind = kind_of x.kind; node = x.node; index = k; share = x.share } ∷ r) e (records-bytes l)

-- ---- a test of each record of a list

every_record : (t : Record → Bool) (l : List Entry) → every t (map record_of l) ≡ every (λ x. t (record_of x)) l
unfolding every
every_record t [] = refl
every_record t (x ∷ l) = ap (λ (b : Bool). t (record_of x) && b) (every_record t l)

module _ (t : Entry → Bool) where
  both : (k l : List Entry) → every t k ≡ true → every t l ≡ true → every t (k ++ l) ≡ true
  both k l p q = every_append t k l ∙ and_both p q

  every-each : (f : ℕ → List Entry) (l : List ℕ) → ((i : ℕ) → Mem i l → every t (f i) ≡ true) → every t (each f l) ≡ true
  unfolding each every
  every-each f [] h = refl
  every-each f (i ∷ l) h = both (f i) (each f l) (h i (here refl)) (every-each f l (λ j m. h j (there m)))

  -- shares that fall from q, of which there are enough
  every_shares : (u q : ℕ) (l : List ℕ) → length l ≤ q → q ≤ 64 → ((e r : ℕ) → Mem e l → 1 ≤ r → r ≤ 64 → t (entry 1 u e r) ≡ true) → every t (to_edges u q l) ≡ true
  unfolding to_edges every
  every_shares u q [] h k f = refl
  every_shares u q (e ∷ l) h k f = and_both (f e q (here refl) (omega arith) k) (every_shares u (q - 1) l (omega arith) (omega arith) (λ e r m. f e r (there m)))

-- ---- the records of a sweep

module _ (I : Instance) (p : Proper I) where
  abbrev good : Entry → Bool
  good x = legal I (record_of x)

  share_legal : {r : ℕ} → 1 ≤ r → r ≤ 64 → legal_share r ≡ true
  unfolding legal_share
  share_legal {r} h k = and_both (le-leb 1 r h) (le-leb r 64 k)

  edge_legal : (u e r : ℕ) → 1 ≤ r → r ≤ 64 → u < I.node_count → e < I.edge_count → (eqb u (I.low e) || eqb u (I.high e)) ≡ true → legal_edge I u e r ≡ true
  unfolding legal_edge
  edge_legal u e r a b h k m = and_both (and_both (and_both (share_legal a b) (lt-ltb u I.node_count h)) (lt-ltb e I.edge_count k)) m

  -- a position of u that passes a test, if its label is not 255
  position_legal : (t : ℕ → Bool) (u : ℕ) → u < I.node_count → ((k : ℕ) → t k ≡ true → exclusive (I.label (first I u + k)) ≡ true) → {k : ℕ} → Mem k (select t (range 0 (I.degree u))) → legal_position I u k 1 ≡ true
  unfolding legal_position
  position_legal t u h x {k} n =
      let (m, y) = select_mem t (range 0 (I.degree u)) n in
      and_both (and_both (and_both (share_legal (omega arith) (omega arith)) (lt-ltb u I.node_count h)) (lt-ltb k (I.degree u) (mem_below m))) (x k y)

  -- an edge with u at one end: at the higher, to a lower node; and at the lower, to a higher
  at_end : (end : ℕ → ℕ) (u : ℕ) → ((e : ℕ) → e < I.edge_count → end e < I.node_count) → ((e : ℕ) → u ≡ end e → (eqb u (I.low e) || eqb u (I.high e)) ≡ true)
      → {e : ℕ} → Mem e (having end u I.edge_count) → (r : ℕ) → 1 ≤ r → r ≤ 64 → legal_edge I u e r ≡ true
  at_end end u inside one {e} m r a b =
      let (k, t) = select_mem (λ e. eqb (end e) u) (range 0 I.edge_count) m in
      let q = sym (eqb-true (end e) u t) in
      let h = mem_below k in
      edge_legal u e r a b (omega (arith, inside e h)) h (one e q)

  at_lower : (u : ℕ) {e : ℕ} → Mem e (to_lower I u) → (r : ℕ) → 1 ≤ r → r ≤ 64 → legal_edge I u e r ≡ true
  unfolding to_lower
  at_lower u = at_end I.high u p.inside (λ e q. ap (λ (z : Bool). eqb u (I.low e) || z) (eq-eqb u (I.high e) q) ∙ or-true (eqb u (I.low e)))

  at_higher : (u : ℕ) {e : ℕ} → Mem e (to_higher I u) → (r : ℕ) → 1 ≤ r → r ≤ 64 → legal_edge I u e r ≡ true
  unfolding to_higher
  at_higher u = at_end I.low u (λ e h. low_inside p h) (λ e q. ap (λ (z : Bool). z || eqb u (I.high e)) (eq-eqb u (I.low e) q))

  rounding_legal : every good rounding ≡ true
  unfolding every rounding legal_kind kind_of
  rounding_legal = refl

  forward_at_legal : (u : ℕ) → u < I.node_count → every good (forward_at I u) ≡ true
  unfolding forward_at from_edges to_labels to_higher exclusive_positions positions legal_kind legal_message kind_of
  forward_at_legal u h =
      let few = higher_few I p h in
      let last = map (λ k. entry 3 u k 1) (exclusive_positions I u) in
      both good (map (λ e. entry 2 u e 1) (to_lower I u)) (to_edges u (length (to_higher I u) + 1) (to_higher I u) ++ last)
      (every-all good (λ e. entry 2 u e 1) (to_lower I u) (λ e m. at_lower u m 1 (omega arith) (omega arith)))
      (both good (to_edges u (length (to_higher I u) + 1) (to_higher I u)) last
      (every_shares good u (length (to_higher I u) + 1) (to_higher I u) (omega arith) (omega (arith, p.nodes_few)) (λ e r m a b. at_higher u m r a b))
      (every-all good (λ k. entry 3 u k 1) (exclusive_positions I u) (λ k m. position_legal (λ k. exclusive (I.label (first I u + k))) u h (λ k x. x) m)))

  backward_at_legal : (u : ℕ) → u < I.node_count → every good (backward_at I u) ≡ true
  unfolding backward_at from_edges to_lower legal_kind legal_message kind_of
  backward_at_legal u h =
      both good (map (λ e. entry 2 u e 1) (to_higher I u)) (to_edges u (length (to_lower I u)) (to_lower I u))
      (every-all good (λ e. entry 2 u e 1) (to_higher I u) (λ e m. at_higher u m 1 (omega arith) (omega arith)))
      (every_shares good u (length (to_lower I u)) (to_lower I u) (omega arith) (omega (arith, lower_few I p u, p.nodes_few)) (λ e r m a b. at_lower u m r a b))

  label_at_legal : (l : ℕ) → l < I.label_count → every good (label_at I l) ≡ true
  unfolding label_at from_label labelled positions legal_kind legal_message kind_of
  label_at_legal l h =
      every-each good (λ u. map (λ k. entry 4 u k 1) (labelled I l u)) (range 0 I.node_count) (λ u m.
      every-all good (λ k. entry 4 u k 1) (labelled I l u) (λ k n.
      position_legal (λ k. eqb (I.label (first I u + k)) l) u (mem_below m) (λ k t. ap exclusive (eqb-true (I.label (first I u + k)) l t) ∙ below_exclusive p h) n))

  forward_legal : every good (forward I) ≡ true
  unfolding forward
  forward_legal = both good (each (forward_at I) (range 0 I.node_count)) rounding (every-each good (forward_at I) (range 0 I.node_count) (λ u m. forward_at_legal u (mem_below m))) rounding_legal

  backward_legal : every good (backward I) ≡ true
  unfolding backward
  backward_legal =
      both good (each (label_at I) (falling I.label_count)) (each (backward_at I) (falling I.node_count) ++ rounding)
      (every-each good (label_at I) (falling I.label_count) (λ l m. label_at_legal l (falling_mem I.label_count m)))
      (both good (each (backward_at I) (falling I.node_count)) rounding
      (every-each good (backward_at I) (falling I.node_count) (λ u m. backward_at_legal u (falling_mem I.node_count m)))
      rounding_legal)

  -- every record of either sweep, read from its bytes, is legal
  pub sweep-legal : (direction : ℕ) → every (legal I) (records (bytes (sweep I direction))) ≡ true
  unfolding sweep
  sweep-legal direction =
      let l = sweep I direction in
      ap (every (legal I)) (records-bytes l) ∙ every_record (legal I) l
      ∙ by_cond (λ (l : List Entry). every good l ≡ true) (eqb direction 0) (λ _. forward_legal) (λ _. backward_legal)

-- ---- a run of a written sweep

-- whole records
whole : (l : List Entry) → length (bytes l) % 5 ≡ 0
whole l = ap (λ (k : ℕ). k % 5) (length-bytes l) ∙ mul-mod_right 5 (length l)

-- at any point of a list of calls after an opening, of which [] is the opening itself, each call with the limit
pub sweep_runs : (s : List ℕ) (direction : ℕ) (out : List ℕ) → (sweep_of s direction out).refusal ≡ 0 → (limit : ℕ) → 1_000_000 ≤ limit → (cs : List Call) → Under limit cs
    → let r = (run_of s limit (rules s cs).buffers (sweep_of s direction out).content).refusal in (r ≡ 0) ⊎ (r ≡ 13)
unfolding sweep_of
sweep_runs s direction out e limit wide cs u =
    let I = instance_of s in
    let z = unrefused_readable s direction out e in
    let l = bytes (sweep I direction) in
    rw (if-true l out (eq-eqb (sweep_refusal s direction out) 0 e))
    (legal_run_refused s z limit wide cs u l (whole (sweep I direction)) (sweep-legal I (readable s z).proper direction))
