-- Kinds 3 and 4: what a place gives to its label or takes from it, that it fits, and the one amount moved.
-- Assumes nothing.
use Rattle.std.proofs.Common.{◌≡◌, ℕ, zero, suc, ◌+◌, ◌^◌, ◌<◌, ◌≤◌, true, false, ◌&&◌, List, [], ◌∷◌, map, length, get_or, set, ℤ, pos, ◌+ℤ◌, ◌-ℤ◌, nat_abs, sym, refl, arith}
use Rattle.integers.specs.Checks.{within}
use Rattle.integers.specs.Least.{least_of}
use Rattle.integers.specs.Share.{share, amount}
use Rattle.integers.specs.Sum.{Within}
use Rattle.integers.specs.Places.{others}
use Rattle.integers.proofs.Parts.{sub, abs}
use Rattle.integers.proofs.Places.{if-true, if-false, and_both}
use Rattle.integers.proofs.Share.{abs_le, amount_toward}
use Rattle.integers.proofs.Rows.{within_map}
use Rattle.instance.specs.Instance.{Instance, first, node_cells}
use Rattle.instance.proofs.LaidOut.{row_inside}
use Rattle.rules.specs.Places.{node_places, label_places}
use Rattle.rules.specs.Calls.{cost_limit}
use Rattle.messages.specs.LabelMessage.{label_rival, label_move, label_moved, node_amount, label_amount}
use Rattle.messages.proofs.RowLaws.{least_of_within, amount_none}

-- what a cost within the limit gives against such rivals
amount_fits : (x : ℤ) (rivals : List ℤ) (r : ℕ) → nat_abs x ≤ cost_limit → Within cost_limit rivals → nat_abs (amount x rivals r) ≤ 2 ^ 41
amount_fits x [] r h g = rw (sym (amount_none x [] r refl)) (omega arith)
amount_fits x (y ∷ ys) r h g =
    omega (arith, abs_le (amount_toward x (y ∷ ys) r (omega arith)), least_of_within cost_limit (y ∷ ys) g, sub x (least_of (y ∷ ys)), abs x, abs (least_of (y ∷ ys)), abs (x -ℤ least_of (y ∷ ys)))

-- a node's row and a place of it in the costs of all places
module _ (I : Instance) {u : ℕ} (node : u < I.node_count) where
  pub row_in : (l : List ℤ) → length l ≡ node_cells I → first I u + I.degree u ≤ length l
  row_in l size = omega (arith, size, row_inside I node)

  module _ {k : ℕ} (position : k < I.degree u) where
    pub place_in : (l : List ℤ) → length l ≡ node_cells I → first I u + k < length l
    place_in l size = omega (arith, row_in l size, position)

module _ (I : Instance) (l : List ℤ) (h : Within cost_limit l) where
  -- the costs at some places
  abbrev costs : List ℕ → List ℤ
  costs places = map (λ j. get_or l j (pos 0)) places

  abbrev rivals : ℕ → List ℤ
  rivals i = pos 0 ∷ costs (others i (label_places I (I.label i)))

  bounded : (places : List ℕ) → Within cost_limit (costs places)
  bounded places = within_map cost_limit (λ j. get_or l j (pos 0)) places h

  rivals_bounded : (i : ℕ) → Within cost_limit (rivals i)
  rivals_bounded i zero = omega arith
  rivals_bounded i (suc k) = bounded (others i (label_places I (I.label i))) k

  pub node_fits : (u i r : ℕ) → nat_abs (node_amount I l u i r) ≤ 2 ^ 41
  node_fits u i r = amount_fits (get_or l i (pos 0)) (costs (others i (node_places I u))) r (h i) (bounded (others i (node_places I u)))

  pub label_fits : (i r : ℕ) → nat_abs (label_amount I l i r) ≤ 2 ^ 41
  label_fits i r = amount_fits (get_or l i (pos 0)) (rivals i) r (h i) (rivals_bounded i)

-- the label's amount is a share of the distance from the rival
pub label_shared : (I : Instance) (l : List ℤ) (i r : ℕ) → share (get_or l i (pos 0) -ℤ label_rival I l i) r ≡ label_amount I l i r
unfolding amount least_of
label_shared I l i r = refl

-- ---- one amount moved

module _ (limit : ℕ) (nodes labels : List ℤ) (i : ℕ) (p : ℤ) where
  abbrev node : ℤ
  node = get_or nodes i (pos 0) -ℤ p

  abbrev label : ℤ
  label = get_or labels i (pos 0) +ℤ p

  pub moved_both : within limit node ≡ true → within limit label ≡ true → label_move 0 (set nodes i node) (set labels i label) ≡ label_moved limit nodes labels i p
  unfolding label_moved
  moved_both h g = sym (if-true _ (label_move 13 nodes labels) (and_both h g))

  pub moved_not : (within limit node && within limit label) ≡ false → label_move 13 nodes labels ≡ label_moved limit nodes labels i p
  unfolding label_moved
  moved_not h = sym (if-false _ (label_move 13 nodes labels) h)
