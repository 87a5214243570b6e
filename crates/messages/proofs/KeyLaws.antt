-- The keys of a node's positions: node costs, and the rows of its edges to lower nodes added one after another.
-- Assumes nothing.
use Rattle.std.proofs.Common.{◌≡◌, ℕ, zero, suc, ◌+◌, ◌*◌, ◌^◌, ◌<◌, ◌≤◌, eqb, ltb, List, [], ◌∷◌, ◌++◌, length, get_or, take, set, replicate, ℤ, pos, ◌+ℤ◌, nat_abs, sym, refl, ap, ◌∙◌, ap₂, not-suc-le-zero, add_assoc, mul_comm, mul-le-mul_left, mul-suc, add-one, arith, ext_get_or, ltb-false, ltb-true, le-ltb, lt-ltb}
use lib.ListN.{length-replicate, get_or-replicate, get_or-eq_default}
use Rattle.integers.specs.Sum.{Within}
use Rattle.integers.specs.Rows.{part}
use Rattle.integers.specs.Places.{range, select, tabulate, total, only}
use Rattle.integers.proofs.Parts.{linear, add}
use Rattle.integers.proofs.Places.{by-test, if-true, if-false, length-tabulate, get_d_tabulate}
use Rattle.integers.proofs.Sum.{abs_add}
use Rattle.integers.proofs.Rows.{length_part, get_d_part}
use Rattle.index.specs.Index.{having}
use Rattle.index.proofs.Lists.{select_next, select_past}
use Rattle.instance.specs.Instance.{Instance, first, table_size, table, cell}
use Rattle.instance.specs.Sheet.{instance_of}
use Rattle.instance.proofs.LaidOut.{table_inside}
use Rattle.rules.specs.Calls.{cost_limit}
use Rattle.rules.specs.Costs.{Costs, position}
use Rattle.rules.specs.Rounding.{key}
use Rattle.messages.specs.Lent.{EdgeFits}
use Rattle.messages.specs.Rounded.{costs_by, added, keys_at, edge_row, Placed}
use Rattle.instance.specs.declared.sheet.Sheet.{Sheet}
use Rattle.instance.proofs.Sheets as sheet

-- ---- a row added, place by place: after i places the row's first i are added

pub added_none : (l : List ℤ) → added l [] ≡ l
unfolding added
added_none [] = refl
added_none (x ∷ l) = refl

pub length-added : (l m : List ℤ) → length (added l m) ≡ length l
unfolding added
length-added [] m = refl
length-added (x ∷ l) [] = refl
length-added (x ∷ l) (y ∷ m) = ap suc (length-added l m)

pub added_at : (l m : List ℤ) (i : ℕ) (d : ℤ) → get_or (added l (take i m)) i d ≡ get_or l i d
unfolding added
added_at [] m i d = refl
added_at (x ∷ l) m zero d = refl
added_at (x ∷ l) [] (suc i) d = refl
added_at (x ∷ l) (y ∷ m) (suc i) d = added_at l m i d

set_next : (l m : List ℤ) (i : ℕ) (d : ℤ) → i < length m → set (added l (take i m)) i (get_or l i d +ℤ get_or m i d) ≡ added l (take (suc i) m)
unfolding added
set_next [] m i d h = refl
set_next (x ∷ l) [] i d h = absurd (not-suc-le-zero h)
set_next (x ∷ l) (y ∷ m) zero d h = ap (λ (t : List ℤ). (x +ℤ y) ∷ t) (sym (added_none l))
set_next (x ∷ l) (y ∷ m) (suc i) d h = ap (λ (t : List ℤ). (x +ℤ y) ∷ t) (set_next l m i d (omega arith))

pub added_more : (l m : List ℤ) (i : ℕ) (d : ℤ) → i < length m → set (added l (take i m)) i (get_or l i d +ℤ get_or m i d) ≡ added l (take (i + 1) m)
added_more l m i d h = rw (add-one i) (set_next l m i d h)

-- ---- the keys of a node's positions

zero_left : (x : ℤ) → pos 0 +ℤ x ≡ x +ℤ pos 0
zero_left x = omega (linear, add (pos 0) x, add x (pos 0))

zero_right : (x : ℤ) → x ≡ x +ℤ pos 0
zero_right x = omega (linear, add x (pos 0))

get_or_added : (l m : List ℤ) (k : ℕ) → k < length l → get_or (added l m) k (pos 0) ≡ get_or l k (pos 0) +ℤ get_or m k (pos 0)
unfolding added
get_or_added [] m k h = absurd (not-suc-le-zero h)
get_or_added (x ∷ l) [] k h = zero_right (get_or (x ∷ l) k (pos 0))
get_or_added (x ∷ l) (y ∷ m) zero h = refl
get_or_added (x ∷ l) (y ∷ m) (suc k) h = get_or_added l m k (omega arith)

-- f of the positions below d, and 0 in the rest of 16 places
module _ (d : ℕ) where
  abbrev pub keys_for : (ℕ → ℤ) → List ℤ
  keys_for f = tabulate 16 (λ k. only (ltb k d) (f k))

  keys_long : (f : ℕ → ℤ) → length (keys_for f) ≡ 16
  keys_long f = length-tabulate 16 (λ k. only (ltb k d) (f k))

  keys_at_lem : (f : ℕ → ℤ) (k : ℕ) → k < 16 → k < d → get_or (keys_for f) k (pos 0) ≡ f k
  unfolding only
  keys_at_lem f k h l = get_d_tabulate 16 (λ k. only (ltb k d) (f k)) k (pos 0) h ∙ if-true (f k) (pos 0) (lt-ltb k d l)

  keys_past : (f : ℕ → ℤ) (k : ℕ) → k < 16 → d ≤ k → get_or (keys_for f) k (pos 0) ≡ pos 0
  unfolding only
  keys_past f k h l = get_d_tabulate 16 (λ k. only (ltb k d) (f k)) k (pos 0) h ∙ if-false (f k) (pos 0) (le-ltb k d l)

  keys_added : (f g : ℕ → ℤ) (row : List ℤ) → length row ≡ d → ((k : ℕ) → k < d → f k +ℤ get_or row k (pos 0) ≡ g k) → added (keys_for f) row ≡ keys_for g
  keys_added f g row e h =
      let a = length-added (keys_for f) row in
      let b = keys_long f in
      let b' = keys_long g in
      ext_get_or (pos 0) (added (keys_for f) row) (keys_for g) (omega arith)
      (λ k l. let l' : k < 16 = omega arith in
      get_or_added (keys_for f) row k (omega arith)
      ∙ by-test (ltb k d)
      (λ t. let q : k < d = ltb-true k d t in ap (λ (z : ℤ). z +ℤ get_or row k (pos 0)) (keys_at_lem f k l' q) ∙ h k q ∙ sym (keys_at_lem g k l' q))
      (λ t. let q : d ≤ k = ltb-false k d t in ap₂ ◌+ℤ◌ (keys_past f k l' q) (get_or-eq_default row (pos 0) (omega arith)) ∙ sym (keys_past g k l' q)))

  pub keys_ext : (f g : ℕ → ℤ) → ((k : ℕ) → f k ≡ g k) → keys_for f ≡ keys_for g
  keys_ext f g h =
      let b = keys_long f in
      let b' = keys_long g in
      ext_get_or (pos 0) (keys_for f) (keys_for g) (omega arith)
      (λ k l. let l' : k < 16 = omega arith in
      by-test (ltb k d)
      (λ t. let q : k < d = ltb-true k d t in keys_at_lem f k l' q ∙ h k ∙ sym (keys_at_lem g k l' q))
      (λ t. let q : d ≤ k = ltb-false k d t in keys_past f k l' q ∙ sym (keys_past g k l' q)))

  keys_zero : replicate 16 (pos 0) ≡ keys_for (λ k. pos 0)
  keys_zero =
      let b = keys_long (λ k. pos 0) in
      let a = length-replicate {A = ℤ} 16 (pos 0) in
      ext_get_or (pos 0) (replicate 16 (pos 0)) (keys_for (λ k. pos 0)) (omega arith)
      (λ k l. let l' : k < 16 = omega arith in
      get_or-replicate 16 k (pos 0) (pos 0) l'
      ∙ by-test (ltb k d) (λ t. sym (keys_at_lem (λ k. pos 0) k l' (ltb-true k d t))) (λ t. sym (keys_past (λ k. pos 0) k l' (ltb-false k d t))))

  keys_within : (m : ℕ) (f : ℕ → ℤ) → ((k : ℕ) → nat_abs (f k) ≤ m) → Within m (keys_for f)
  keys_within m f h k =
      by-test (ltb k 16)
      (λ s. let l : k < 16 = ltb-true k 16 s in
      by-test (ltb k d)
      (λ t. rw (keys_at_lem f k l (ltb-true k d t)) (h k))
      (λ t. rw (keys_past f k l (ltb-false k d t)) (omega arith)))
      (λ s. let l : 16 ≤ k = ltb-false k 16 s in
      let e : get_or (keys_for f) k (pos 0) ≡ pos 0 = get_or-eq_default (keys_for f) (pos 0) (omega (arith, keys_long f)) in rw e (omega arith))

-- a sum over the things of one key
sum_over : (ℕ → ℤ) → List ℕ → ℤ
sum_over f [] = pos 0
sum_over f (e ∷ l) = f e +ℤ sum_over f l

sum_last : (f : ℕ → ℤ) (l : List ℕ) (e : ℕ) → sum_over f (l ++ e ∷ []) ≡ sum_over f l +ℤ f e
unfolding sum_over
sum_last f [] e = omega (linear, add (f e) (pos 0), add (pos 0) (f e))
sum_last f (d ∷ l) e = ap (λ (z : ℤ). f d +ℤ z) (sum_last f l e) ∙ (let s = sum_over f l in omega (linear, add (f d) (s +ℤ f e), add s (f e), add (f d +ℤ s) (f e), add (f d) s))

total-having : (key : ℕ → ℕ) (u : ℕ) (f : ℕ → ℤ) (m : ℕ) → total m (λ e. only (eqb (key e) u) (f e)) ≡ sum_over f (having key u m)
unfolding total range select sum_over only
total-having key u f zero = refl
total-having key u f (suc m) =
    let z : m + 1 ≡ suc m = omega arith in
    let h = total-having key u f m in
    by-test (eqb (key m) u)
    (λ t. ap₂ ◌+ℤ◌ h (if-true (f m) (pos 0) t) ∙ sym (sum_last f (having key u m) m) ∙ ap (sum_over f) (sym (select_next (λ e. eqb (key e) u) m t) ∙ ap (having key u) z))
    (λ t. ap₂ ◌+ℤ◌ h (if-false (f m) (pos 0) t) ∙ sym (zero_right (sum_over f (having key u m))) ∙ ap (sum_over f) (sym (select_past (λ e. eqb (key e) u) m t) ∙ ap (having key u) z))

-- ---- the keys with some edges

sum_small : (f : ℕ → ℤ) → ((i : ℕ) → nat_abs (f i) ≤ cost_limit) → (l : List ℕ) → nat_abs (sum_over f l) ≤ length l * cost_limit
unfolding sum_over
sum_small f h [] = omega arith
sum_small f h (e ∷ l) = omega (arith, abs_add (f e) (sum_over f l), sum_small f h l, h e)

module _ (I : Instance) (nodes edges : List ℤ) (x : List ℕ) (u : ℕ) where
  abbrev c : Costs
  c = costs_by nodes edges

  -- what edge e adds at position k
  abbrev cell_at : ℕ → ℕ → ℤ
  cell_at k e = c.edge (cell I e (position x (I.low e)) k)

  key_over : List ℕ → ℕ → ℤ
  key_over l k = c.node (first I u + k) +ℤ sum_over (cell_at k) l

  pub keys_over : List ℕ → List ℤ
  keys_over l = keys_for (I.degree u) (key_over l)

  pub keys_length : (l : List ℕ) → length (keys_over l) ≡ 16
  unfolding keys_over
  keys_length l = keys_long (I.degree u) (key_over l)

  pub keys_small : Within cost_limit nodes → Within cost_limit edges → (l : List ℕ) → length l ≤ 64 → Within (2 ^ 50) (keys_over l)
  unfolding keys_over key_over
  keys_small p q l h =
      keys_within (I.degree u) (2 ^ 50) (key_over l)
      (λ k. let y = c.node (first I u + k) in
      omega (arith, abs_add y (sum_over (cell_at k) l), p (first I u + k), sum_small (cell_at k) (λ e. q (cell I e (position x (I.low e)) k)) l))

  -- the node costs alone
  pub keys_first : first I u + I.degree u ≤ length nodes → added (replicate 16 (pos 0)) (part nodes (first I u) (I.degree u)) ≡ keys_over []
  unfolding keys_over key_over sum_over
  keys_first h =
      ap (λ (l : List ℤ). added l (part nodes (first I u) (I.degree u))) (keys_zero (I.degree u))
      ∙ keys_added (I.degree u) (λ k. pos 0) (key_over []) (part nodes (first I u) (I.degree u)) (length_part nodes (first I u) (I.degree u) h)
      (λ k l. zero_left (get_or (part nodes (first I u) (I.degree u)) k (pos 0)) ∙ ap (λ (z : ℤ). z +ℤ pos 0) (get_d_part nodes (first I u) (I.degree u) k (pos 0) l))

  -- one edge more, of which u is the higher end
  pub keys_next : (l : List ℕ) (e : ℕ) → I.high e ≡ u → table I e + I.degree (I.high e) * position x (I.low e) + I.degree (I.high e) ≤ length edges
      → added (keys_over l) (edge_row I edges x e) ≡ keys_over (l ++ e ∷ [])
  unfolding keys_over key_over cell
  keys_next l e q room =
      let d = I.degree (I.high e) in
      let same : d ≡ I.degree u = ap I.degree q in
      let a = table I e + d * position x (I.low e) in
      keys_added (I.degree u) (key_over l) (key_over (l ++ e ∷ [])) (edge_row I edges x e) (length_part edges a d room ∙ same)
      (λ k h. let y = c.node (first I u + k) in
      let s = sum_over (cell_at k) l in
      let z = cell_at k e in
      ap (λ (w : ℤ). (y +ℤ s) +ℤ w) (get_d_part edges a d k (pos 0) (omega arith) ∙ ap c.edge (add_assoc (table I e) (d * position x (I.low e)) k))
      ∙ omega (linear, add (y +ℤ s) z, add y s, add y (s +ℤ z), add s z)
      ∙ ap (λ (w : ℤ). y +ℤ w) (sym (sum_last (cell_at k) l e)))

  -- with all of them they are those of the rule
  pub keys_all : keys_over (having I.high u I.edge_count) ≡ keys_at I c x u
  unfolding keys_over key_over keys_at key
  keys_all = keys_ext (I.degree u) (key_over (having I.high u I.edge_count)) (key I c x u) (λ k. ap (λ (z : ℤ). c.node (first I u + k) +ℤ z) (sym (total-having I.high u (cell_at k) I.edge_count)))

-- ---- the row of an edge lies in its table

row_end : (d a p : ℕ) → p < a → d * p + d ≤ a * d
row_end d a p h = omega (arith, mul-suc d p, mul_comm a d, mul-le-mul_left d h)

module _ (q : Sheet) where
  abbrev J : Instance
  J = instance_of q.bytes.now

  pub row_room : {edges : List ℤ} → EdgeFits q.bytes.now edges → (x : List ℕ) {u : ℕ} → Placed (instance_of q.bytes.now) x u → {e : ℕ} → e < q.edges → J.high e ≡ u
      → table J e + J.degree (J.high e) * position x (J.low e) + J.degree (J.high e) ≤ length edges
  unfolding table_size
  row_room f x placed {e} h z =
      let i = sheet.edge_there q h in
      let p = placed (J.low e) (omega (arith, (sheet.proper q).ordered e i)) in
      omega (arith, row_end (J.degree (J.high e)) (J.degree (J.low e)) (position x (J.low e)) p, table_inside J i, f.size)
