-- Legality: what the code's tests say of it, and what a legal record is known by.
-- Assumes nothing.
use Rattle.std.proofs.Common.{◌&&◌, ltb, refl, ◌≡◌, ℕ, ◌+◌, ◌<◌, ◌≤◌, Bool, true, false, leb, List, ℤ, sym, le-ltb, lt-ltb, le-leb}
use borrow.Author.Tests.{lt-leb}
use Rattle.integers.proofs.Places.{if-true, if-false, and_true}
use Rattle.instance.specs.Instance.{Instance, first}
use Rattle.instance.specs.Sheet.{instance_of}
use Rattle.rules.specs.Run.{legal_share, legal_edge, legal_position}
use Rattle.rules.proofs.Run.{legal_edge_is, legal_position_is}
use Rattle.messages.specs.Lent.{NodeFits, EdgeFits}
use Rattle.messages.specs.LabelMessage.{label_move, label_moved, label_given, PlaceAsked}
use Rattle.messages.specs.EdgeRecord.{edge_move, edge_moved, CostsWithin, EdgeLegal}
use Rattle.messages.specs.Records.{label_taken, edge_taken}

-- ---- shares

pub share_none : (r : ℕ) → r < 1 → false ≡ legal_share r
unfolding legal_share
share_none r h = rw (lt-leb 1 r h)

pub share_some : (r : ℕ) → 1 ≤ r → leb r 64 ≡ legal_share r
unfolding legal_share
share_some r h = rw (le-leb 1 r h)

-- ---- edges and positions

-- four tests in a row: the first two together, the third of a number, and then the last
module _ (a b : Bool) (k m : ℕ) (x : Bool) where
  pub tests_off : (a && b) ≡ false → false ≡ (a && b && ltb k m && x)
  tests_off h = go a b h
    where
      go : (a b : Bool) → (a && b) ≡ false → false ≡ (a && b && ltb k m && x)
      go true true h = cc h
      go true false h = refl
      go false b h = refl

  module _ (h : (a && b) ≡ true) where
    pub tests_past : m ≤ k → false ≡ (a && b && ltb k m && x)
    tests_past g = let (p, q) = and_true a b h in rw (p, q, le-ltb k m g)

    pub tests_on : k < m → x ≡ (a && b && ltb k m && x)
    tests_on g = let (p, q) = and_true a b h in rw (p, q, lt-ltb k m g)

-- ---- taken, or refused

module _ (I : Instance) (limit : ℕ) (nodes edges : List ℤ) (turned : Bool) (u e r : ℕ) where
  pub edge_taken_lem : legal_edge I u e r ≡ true → edge_moved I nodes edges limit turned u e r ≡ edge_taken I limit nodes edges turned u e r
  unfolding edge_taken
  edge_taken_lem h = sym (if-true (edge_moved I nodes edges limit turned u e r) (edge_move 12 nodes edges) h)

  pub edge_refused : legal_edge I u e r ≡ false → edge_move 12 nodes edges ≡ edge_taken I limit nodes edges turned u e r
  unfolding edge_taken
  edge_refused h = sym (if-false (edge_moved I nodes edges limit turned u e r) (edge_move 12 nodes edges) h)

module _ (I : Instance) (limit : ℕ) (nodes labels : List ℤ) (turned : Bool) (u k r : ℕ) where
  pub label_taken_lem : legal_position I u k r ≡ true → label_moved limit nodes labels (first I u + k) (label_given I nodes labels turned u (first I u + k) r) ≡ label_taken I limit nodes labels turned u k r
  unfolding label_taken
  label_taken_lem h = sym (if-true (label_moved limit nodes labels (first I u + k) (label_given I nodes labels turned u (first I u + k) r)) (label_move 12 nodes labels) h)

  pub label_refused : legal_position I u k r ≡ false → label_move 12 nodes labels ≡ label_taken I limit nodes labels turned u k r
  unfolding label_taken
  label_refused h = sym (if-false (label_moved limit nodes labels (first I u + k) (label_given I nodes labels turned u (first I u + k) r)) (label_move 12 nodes labels) h)

-- what the moves ask
pub edge_legal : {s : List ℕ} {limit : ℕ} {nodes edges : List ℤ} → NodeFits s nodes → EdgeFits s edges → CostsWithin limit nodes edges
    → (u e r : ℕ) → legal_edge (instance_of s) u e r ≡ true → EdgeLegal limit s nodes edges u e r
edge_legal {s} f g w u e r h =
    let (a, b, c, d) = legal_edge_is (instance_of s) u e r h in
    record { node_costs = f; edge_costs = g; ranged = w; node = b; edge = c; touches = d; shares = a }

pub place_asked : (I : Instance) (u k r : ℕ) → legal_position I u k r ≡ true → PlaceAsked I u k r
place_asked I u k r h =
    let (a, b, c, d) = legal_position_is I u k r h in
    record { node = b; position = c; exclusive = d; some = a }
