-- The least usable cell of each position from the least of all cells there: where an unusable cell is above it, it stays.
-- Assumes nothing.
use Rattle.std.proofs.Common.{◌≡◌, ℕ, ◌+◌, ◌*◌, ◌<◌, ◌≤◌, Bool, true, false, ltb, None, Some, List, length, get_or, set, ℤ, pos, ◌<ℤ◌, sym, refl, ap, ◌∙◌, ap₂, arith, ltb-true, ltb-false}
use Rattle.integers.specs.Least.{least_from}
use Rattle.integers.proofs.Places.{by-test}
use Rattle.messages.specs.declared.edge_message.Joint.{Joint}
use Rattle.messages.specs.Clash.{Skips}
use Rattle.messages.specs.EdgeMessage.{by_rows, unbounded, over}
use Rattle.messages.specs.Joints.{own_step, other_step, line_in, low_in, least_in}
use Rattle.messages.proofs.LeastLaws.{least_above}
use Rattle.messages.proofs.OverLaws.{Overwritten, written_start, written_more, written_kept, written_next, written_all, length_over, over_at, over_again}
use Rattle.messages.proofs.EdgeLaws.{zeros}
use Rattle.messages.proofs.UsableLaws.{own_few, line_left, line_many}
use Rattle.messages.proofs.StrideLaws.{line_cell}

module _ (j : Joint) (k : ℕ) (g : k < length j.own.now) where
  -- with no unusable cell the least of all is that of the usable ones
  pub low_clear : Skips j.other.now (get_or j.own.now k 0) None → low_in j k ≡ least_in j k
  low_clear x = ap (least_from unbounded) (line_left (by_rows j.end) j.joined.ends k g x)

  -- and so it is with one that is above it
  module _ {own other : ℕ} (s : (own ≡ own_step j) × (other ≡ other_step j)) where
    -- the cell that is read is the position's
    cell_at : (p : ℕ) → p < length j.other.now → get_or (line_in j k) p (pos 0) ≡ get_or j.cells.now (k * own + p * other) (pos 0)
    cell_at p h = line_cell (by_rows j.end) j.joined.ends k p h ∙ ap₂ (λ (a b : ℕ). get_or j.cells.now (k * a + p * b) (pos 0)) (sym s.0) (sym s.1)

    -- above all of them it is not the least
    pub low_above : (p : ℕ) → Skips j.other.now (get_or j.own.now k 0) (Some p) → low_in j k <ℤ get_or j.cells.now (k * own + p * other) (pos 0)
        → low_in j k ≡ least_in j k
    low_above p x h =
        let i : p < length j.other.now = x.inside in
        let n = line_many (by_rows j.end) j.joined.ends k g in
        least_above unbounded (line_in j k) p (pos 0) (omega arith) (rw (cell_at p i) h)
        ∙ ap (least_from unbounded) (line_left (by_rows j.end) j.joined.ends k g x)

-- ---- the first k positions gone through: each has its least usable cell, and if none was passed over, that is the least of all

pub record Gone (j : Joint) (k : ℕ) (l : List ℤ) (passed : Bool) : Type 0 where
  pub told : Overwritten (least_in j) (length j.own.now) (over (low_in j) (length j.own.now) zeros) k l
  pub above : passed ≡ false → (i : ℕ) → i < k → low_in j i ≡ least_in j i

-- before the first of them
pub gone_none : (j : Joint) {l : List ℤ} → l ≡ over (low_in j) (length j.own.now) zeros → Gone j 0 l false
gone_none j e =
    let n = length j.own.now in
    let m = over (low_in j) n zeros in
    let few = own_few (by_rows j.end) j.joined.ends in
    let long = length_over (low_in j) n zeros (omega (arith, few)) in
    record { told = written_start (least_in j) n e (omega (arith, few, long)); above = λ _ i h. absurd (omega arith) }

module _ {j : Joint} {k : ℕ} {l : List ℤ} {passed : Bool} (g : Gone j k l passed) (h : k < length j.own.now) where
  -- what stands at the next position
  pub gone_next : get_or l k (pos 0) ≡ low_in j k
  gone_next = written_next g.told ∙ over_at (low_in j) (length j.own.now) zeros k h

  -- passed over
  pub gone_over : {v : ℤ} → v ≡ least_in j k → Gone j (k + 1) (set l k v) true
  gone_over e = record { told = written_more g.told h e; above = λ q. cc q }

  -- left as it is
  pub gone_by : low_in j k ≡ least_in j k → Gone j (k + 1) l passed
  gone_by e = record {
    told = written_kept g.told h (over_at (low_in j) (length j.own.now) zeros k h ∙ e);
    above = λ q i m.
        by-test (ltb i k) (λ t. g.above q i (ltb-true i k t)) (λ t. let r = ltb-false i k t in let z : i ≡ k = omega arith in ap (low_in j) z ∙ e ∙ ap (least_in j) (sym z));
  }

-- after the last
pub gone_all : {j : Joint} {k : ℕ} {l : List ℤ} {passed : Bool} → Gone j k l passed → length j.own.now ≤ k → l ≡ over (least_in j) (length j.own.now) zeros
gone_all {j} g h = written_all g.told h ∙ over_again (low_in j) (least_in j) (least_in j) (length j.own.now) zeros (λ k _. refl)
