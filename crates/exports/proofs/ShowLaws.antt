-- Showing an edge: where what is shown begins and how many bytes it has, or neither.
-- Assumes nothing.
use mathlib.Core.Path.{◌≡◌, sym, ap, ap₂, ◌∙◌}
use mathlib.Core.List.{List, [], ◌∷◌}
use Prim.Native.Nat.{ℕ, ◌+◌, ◌*◌, ◌<◌}
use native.Mathlib.Omega.{arith}
use lib.ListN.{length, get_or, drop, length-drop}
use lib.Seq.{length-take-le}
use Rattle.std.specs.Prelude.{Result, Ok, Err, IfOk}
use Rattle.std.specs.Result.{result_unwrap_or}
use Rattle.instance.specs.declared.refusal.Refusal.{Refusal}
use Rattle.instance.specs.declared.sheet.Sheet.{Sheet}
use Rattle.instance.specs.Instance.{table_size}
use Rattle.instance.specs.Sheet.{instance_of}
use Rattle.instance.specs.Refusal.{refused_in}
use Rattle.instance.specs.Layout.{edge_refusal_of, edge_from, edge_bytes}
use Rattle.instance.proofs.Told.{numbered}
use Rattle.instance.proofs.Sheets.{whole, table_is, edge_there as there}
use Rattle.instance.proofs.Shown.{edge_there, edge_inside, edge_shown, edge_placed, edge_hidden, edge_unplaced}
use Rattle.exports.specs.Stored.{answered, unlent}
use Rattle.exports.specs.Reading.{span_of, shown_in}
use Rattle.exports.proofs.StoreLaws.{lent_well, lent_ill}

-- ---- an edge of a sheet that was read

module _ (x : Sheet) {e : ℕ} (h : e < x.edges) where
  abbrev s : List ℕ
  s = x.bytes.now

  unrefused : edge_refusal_of s e ≡ 0
  unrefused = edge_there s e x.readable (there x h)

  from_by : x.edge_prices + 4 * get_or x.tables e 0 ≡ edge_from s e
  unfolding edge_from
  from_by = ap₂ (λ (a t : ℕ). a + 4 * t) x.placed.2 (table_is x h)

  bytes_by : {n : ℕ} → n ≡ table_size (instance_of s) e → 4 * n ≡ edge_bytes s e
  unfolding edge_bytes
  bytes_by q = ap (λ (n : ℕ). 4 * n) q

  span_shown : (edge_from s e ∷ edge_bytes s e ∷ []) ≡ span_of s e
  unfolding span_of
  span_shown =
      let i = edge_inside s e (whole x) (there x h) in
      let d = length-drop (edge_from s e) s in
      ap₂ (λ (p b : ℕ). p ∷ b ∷ []) (sym (edge_placed s e unrefused))
      (sym (ap length (edge_shown s e unrefused) ∙ length-take-le (edge_bytes s e) (drop (edge_from s e) s) (omega arith)))

  pub span_by : {n : ℕ} → n ≡ table_size (instance_of s) e → ((x.edge_prices + 4 * get_or x.tables e 0) ∷ (4 * n) ∷ []) ≡ span_of s e
  span_by q = ap₂ (λ (p b : ℕ). p ∷ b ∷ []) from_by (bytes_by q) ∙ span_shown

-- ---- what is stored

module _ (s : List ℕ) (e : ℕ) where
  span_hidden : (edge_refusal_of s e ≡ 0 → ⊥) → (0 ∷ 0 ∷ []) ≡ span_of s e
  unfolding span_of
  span_hidden z = ap₂ (λ (p b : ℕ). p ∷ b ∷ []) (sym (edge_unplaced s e z)) (sym (ap length (edge_hidden s e z)))

  -- 0 and 0 in place of a span
  pub span_or : (r : Result (List ℕ) Refusal) → refused_in r ≡ edge_refusal_of s e → IfOk r (λ p. p ≡ span_of s e) → result_unwrap_or r (0 ∷ 0 ∷ []) ≡ span_of s e
  span_or (Ok p) q h = h
  span_or (Err r) q h = span_hidden (λ z. omega (arith, numbered r, q, z))

  -- a number and a span stored, or neither
  pub shown_by : {k : ℕ} (span : List ℕ) {lent : List ℕ} → length span ≡ 2 → k ≡ edge_refusal_of s e → lent ≡ span_of s e → answered k lent ≡ shown_in s e span
  unfolding shown_in
  shown_by span h r m = ap₂ answered r m ∙ lent_well 2 (edge_refusal_of s e) (answered (edge_refusal_of s e) (span_of s e)) span h

  pub shown_ill : {k : ℕ} (span : List ℕ) → (length span ≡ 2 → ⊥) → k ≡ unlent (edge_refusal_of s e) → answered k span ≡ shown_in s e span
  unfolding shown_in
  shown_ill span h r = lent_ill 2 (edge_refusal_of s e) (answered (edge_refusal_of s e) (span_of s e)) span h r
