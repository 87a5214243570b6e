-- The indexes of a sheet, as they are made of its bytes.
-- Assumes nothing.
use Rattle.std.proofs.Common.{◌≡◌, Option, Some, Bor, ap, ℕ, ◌+◌, ◌-◌, ◌*◌, ◌<◌, ◌≤◌, eqb, List, length, get_or, take, drop, sym, subst, ap₂, ◌∙◌, arith}
use mathlib.Core.List.{Memᴰ as Mem}
use Rattle.std.specs.Option.{ForSome, option_copied}
use denote.Enum.Declared.{tag_of}
use Rattle.instance.specs.declared.sheet.Sheet.{Sheet}
use Rattle.instance.specs.Instance.{Instance, first, node_cells}
use Rattle.instance.specs.Sheet.{instance_of}
use Rattle.instance.proofs.Indexes.{labels_indexed, highs_indexed, lows_indexed}
use Rattle.instance.proofs.Sheets.{whole, nodes_is, edges_is}
use Rattle.index.specs.Index.{index_of, having, held, Indexed}
use Rattle.index.proofs.Lists.{at_place}
use Rattle.integers.specs.Places.{range, select}
use Rattle.integers.proofs.Places.{range_mem, select_mem}
use Rattle.messages.specs.Lows.{Apart}
use Rattle.messages.specs.contracts.end.End.{the_type as end_type}
use Rattle.messages.specs.declared.end.End.{End}
use Rattle.messages.specs.declared.end.End.TheVariants.{Lower, Higher}
use Rattle.messages.specs.LabelMessage.{Holders}
use Rattle.messages.specs.Indexes.{place_index, edge_index, Ended}

-- the first byte of an edge is its lower end, the second its higher
pub end_few : (e : End) → tag_of end_type e ≤ 1
end_few Lower = omega arith
end_few Higher = omega arith

-- ---- an index that is made where it is asked for: what holds of it holds of the one that is read

pub made_is : {A : Type 0} {P : A → Type 0} {made : Option A} {read : Option (Bor A)} {x : Bor A} → ForSome made P → option_copied read ≡ made → read ≡ Some x → P x.now
made_is {x = x} f e q = f x.now (sym e ∙ ap option_copied q)

-- ---- a row of any index

-- each thing of a row has its key
pub row_keyed : {key : ℕ → ℕ} {m : ℕ} {index row : List ℕ} → Indexed key m index → {l : ℕ} → l < 64 → row ≡ held index l → {j : ℕ} → j < length row → (key (get_or row j 0) ≡ l) × (get_or row j 0 < m)
row_keyed {key} {m} x {l} h e {j} b =
    subst (λ (r : List ℕ). j < length r → (key (get_or r j 0) ≡ l) × (get_or r j 0 < m)) (sym (e ∙ x.rows l h))
    (λ b. let a = at_place key l m j b in (a.0, a.2)) b

-- and none stands there twice: those before it are lower
pub row_apart : {key : ℕ → ℕ} {m : ℕ} {index row : List ℕ} → Indexed key m index → {l : ℕ} → l < 64 → row ≡ held index l → Apart row
unfolding select
row_apart {key} {m} x {l} h e =
    subst Apart (sym (e ∙ x.rows l h))
    (λ j b n. let a = at_place key l m j b in
    let thing = get_or (having key l m) j 0 in
    let low = range_mem 0 thing (select_mem (λ i. eqb (key i) l) (range 0 thing) (subst (Mem thing) (sym a.1) n)).0 in
    omega (arith, low))

module _ (x : Sheet) where
  abbrev s : List ℕ
  s = x.bytes.now

  abbrev I : Instance
  I = instance_of s

  -- the labels stand between the degrees and the node prices
  pub labels_between : x.prices ≡ x.nodes + node_cells I
  unfolding first instance_of
  labels_between = omega (arith, x.placed.0, nodes_is x)

  -- the ends stand in the sheet, with a byte behind them
  pub ends_inside : x.ends + 1 + 2 * x.edges ≤ length s
  unfolding first instance_of
  ends_inside = omega (arith, x.placed.1, edges_is x, (whole x).whole)

  pub place_index_is : {l : List ℕ} → l ≡ index_of (take (x.prices - x.nodes) (drop x.nodes s)) 1 → l ≡ place_index s
  place_index_is e =
      let f : x.prices - x.nodes ≡ node_cells I = omega (arith, labels_between) in
      e ∙ ap₂ (λ (n a : ℕ). index_of (take n (drop a s)) 1) f (nodes_is x)

  pub edge_index_is : (e : End) {l : List ℕ} {size : ℕ} → size ≡ 2 * x.edges → l ≡ index_of (take size (drop (x.ends + tag_of end_type e) s)) 2 → l ≡ edge_index s e
  edge_index_is Lower {l} {size} f q =
      let z : size ≡ 2 * I.edge_count = omega (arith, edges_is x) in
      q ∙ ap₂ (λ (n a : ℕ). index_of (take n (drop a s)) 2) z (omega (arith, x.placed.1))
  edge_index_is Higher {l} {size} f q =
      let z : size ≡ 2 * I.edge_count = omega (arith, edges_is x) in
      q ∙ ap₂ (λ (n a : ℕ). index_of (take n (drop a s)) 2) z (omega (arith, x.placed.1))

  pub holders_made : {l : List ℕ} → l ≡ index_of (take (x.prices - x.nodes) (drop x.nodes s)) 1 → Holders s l
  holders_made e =
      let f : x.prices - x.nodes ≡ node_cells I = omega (arith, labels_between) in
      subst (Indexed I.label (node_cells I)) (sym e) (labels_indexed s x.readable (nodes_is x) f)

  pub ended_made : (e : End) {l : List ℕ} {size : ℕ} → size ≡ 2 * x.edges → l ≡ index_of (take size (drop (x.ends + tag_of end_type e) s)) 2 → Ended s e l
  ended_made Lower {l} {size} f q =
      let z : size ≡ 2 * I.edge_count = omega (arith, edges_is x) in
      subst (Indexed I.low I.edge_count) (sym q) (lows_indexed s x.readable (omega (arith, x.placed.1)) z)
  ended_made Higher {l} {size} f q =
      let z : size ≡ 2 * I.edge_count = omega (arith, edges_is x) in
      subst (Indexed I.high I.edge_count) (sym q) (highs_indexed s x.readable x.placed.1 z)
