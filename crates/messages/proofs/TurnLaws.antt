-- Between two records: what was lent well is good, what is good fits each kind's code, a record leaves what is good good, and the rules' outcome is what the code leaves.
-- Assumes nothing.
use Rattle.std.proofs.Common.{◌≡◌, ℕ, zero, suc, ◌+◌, ◌*◌, ◌<◌, ◌≤◌, Bool, true, false, cond, ◌&&◌, ◌||◌, eqb, List, [], ◌∷◌, length, replicate, ℤ, ◌+ℤ◌, neg_ℤ, sym, refl, ap, ◌∙◌, subst, ap₂, inl, inr, arith, eqb-true}
use Rattle.integers.specs.Places.{every}
use Rattle.integers.specs.Checks.{within}
use Rattle.integers.specs.Rows.{add_at}
use Rattle.integers.proofs.Places.{by-test, and_true, by_cond}
use Rattle.instance.specs.Instance.{Instance, first, node_cells}
use Rattle.instance.specs.Sheet.{instance_of}
use Rattle.instance.specs.declared.refusal.Refusal.{Refusal}
use Rattle.instance.specs.Refusal.{number}
use Rattle.instance.proofs.Readable as sheet
use Rattle.instance.proofs.LaidOut.{row_inside}
use Rattle.instance.specs.Readable.{Proper}
use Rattle.rules.specs.Costs.{Buffers, costs_of, in_range, Sized}
use Rattle.rules.specs.Messages.{node_to_edge, edge_to_node, node_to_label, label_to_node, to_label, deltas, shift}
use mathlib.Core.Option.{Option, none, some}
use Rattle.rules.specs.Assigned.{candidate}
use Rattle.rules.specs.Run.{Kind, message, rounding, unknown, kind_of, Outcome, refused, done, rounded, checked, effect, legal_message, legal_edge, legal_position}
use Rattle.rules.specs.Calls.{cost_limit, incumbent_ok, lent_refusal}
use Rattle.rules.proofs.Bridge.{moved_label, touched_label}
use Rattle.rules.proofs.Run.{Done, Ranged, legal_edge_is, legal_position_is, effect_later, effect_range}
use Rattle.rules.proofs.Matchings.{is_matching_lem}
use Rattle.rules.proofs.Calls.{incumbent_ok_lem, lengths_ok_lem}
use Rattle.messages.specs.Lent.{lent, NodeFits, EdgeFits}
use Rattle.messages.specs.Step.{Settled, settle, settled, settled_by}
use Rattle.std.specs.Prelude.{Err, slice_index}
use Rattle.messages.specs.LabelMessage.{Moved, label_move, label_moved, label_given}
use Rattle.messages.specs.EdgeRecord.{EdgeMove, edge_move, edge_moved}
use Rattle.messages.specs.RoundRecord.{IncumbentFits}
use Rattle.messages.specs.declared.records.Flow.{Flow}
use Rattle.messages.specs.declared.records.Flow.TheVariants.{FromNode, ToNode}
use Rattle.messages.specs.Records.{to_node, edge_message, label_message, kind_as, head_of, label_taken, edge_taken}
use Rattle.messages.specs.Turn.{Good}
use Rattle.rules.proofs.Opening.{lengths_are}
use Rattle.messages.proofs.LentLaws.{LentWell, lent_good, lent_well, fit_of}
use Rattle.messages.proofs.KindLaws.{kind_unknown, head_none}
use Rattle.messages.proofs.EdgeRecordLaws.{edge_settled, edge_settled_lem}

-- ---- what was lent well is good

-- all 255 are n times 255
all_none : (x : List ℕ) (n : ℕ) → length x ≡ n → every (eqb 255) x ≡ true → x ≡ replicate n 255
unfolding every
all_none [] zero e h = refl
all_none [] (suc n) e h = absurd (omega arith)
all_none (k ∷ x) zero e h = absurd (omega arith)
all_none (k ∷ x) (suc n) e h =
    let (a, b) = and_true (eqb 255 k) (every (eqb 255) x) h in
    ap₂ (λ (i : ℕ) (l : List ℕ). i ∷ l) (sym (eqb-true 255 k a)) (all_none x n (omega arith) b)

good_of : (s : List ℕ) (limit : ℕ) (b : Buffers) → LentWell s limit b → Good s limit b
unfolding incumbent_ok
good_of s limit b w = record {
  readable = w.readable;
  sound = record { sized = sized; incumbent = by-test (every (eqb 255) b.incumbent) (λ t. inl (all_none b.incumbent (instance_of s).node_count w.kept t)) (λ t. inr (is_matching_lem (instance_of s) w.kept (rest w.incumbent t))) };
  ranged = w.ranged;
}
  where
    sized : Sized (instance_of s) b
    sized = let (n, l, e, k) = lengths_are s b w.lengths in record { nodes = n; labels = l; edges = e; incumbent = k }

    rest : {p q : Bool} → (p || q) ≡ true → p ≡ false → q ≡ true
    rest {p} {q} h e = ap (λ (t : Bool). t || q) (sym e) ∙ h

pub good_lent : (s : List ℕ) (limit : ℕ) (b : Buffers) → lent_refusal s limit b ≡ 0 → Good s limit b
good_lent s limit b e = good_of s limit b (lent_well s limit b e)

-- what a move between a node's costs and a label's leaves, with the edges' costs and the incumbent as they were
abbrev pub label_settled : Buffers → Moved → Settled
label_settled b m = settle (lent m.nodes m.labels b.edges b.incumbent) 0 m.refusal

-- ---- what is good fits

module _ {s : List ℕ} {limit : ℕ} {b : Buffers} (g : Good s limit b) where
  abbrev I : Instance
  I = instance_of s

  proper : Proper I
  proper = (sheet.readable s g.readable).proper

  pub fit : limit ≤ cost_limit → NodeFits s b.nodes × NodeFits s b.labels × EdgeFits s b.edges
  fit h = fit_of s limit b h (lengths_ok_lem I g.sound.sized) g.ranged

  -- lent again it is not refused
  pub not_refused : lent_refusal s limit b ≡ 0
  not_refused = sym (lent_good s limit b g.readable (lengths_ok_lem I g.sound.sized) g.ranged (incumbent_ok_lem I g.sound))

  pub incumbent_fits : IncumbentFits s b.incumbent
  incumbent_fits = record { size = g.sound.sized.incumbent; ok = incumbent_ok_lem I g.sound }

  -- a record leaves what is good good, done or refused
  pub good_next : (kind : Kind) (u k r : ℕ) {b' : Buffers} {n number : ℕ} → settle b' n number ≡ settled b (effect I limit b kind u k r) → Good s limit b'
  good_next kind u k r {b'} {n} {number} e = go (effect I limit b kind u k r) (effect_later I proper limit b kind u k r g.sound) (effect_range I proper limit b kind u k r g.ranged) e
    where
      go : (o : Outcome) → Done I proper b o → Ranged I proper limit o → settle b' n number ≡ settled b o → Good s limit b'
      go (refused m) d h e = subst (Good s limit) (sym (ap (λ (z : Settled). z.buffers) e)) g
      go (done m k) d h e = subst (Good s limit) (sym (ap (λ (z : Settled). z.buffers) e)) (record { readable = g.readable; sound = d.0; ranged = h })

  -- ---- kinds 3 and 4

  label_settled_lem : (i : ℕ) (p : ℤ) → i < node_cells I → settled b (checked I limit (shift (to_label i p) b)) ≡ label_settled b (label_moved limit b.nodes b.labels i p)
  unfolding checked label_moved
  label_settled_lem i p h =
      ap₂ (λ (t : Bool) (b' : Buffers). settled b (cond t (done b' 0) (refused 13))) (touched_label I limit g.sound.sized g.ranged i p h) (moved_label I b i p)
      ∙ go (within limit ((costs_of b).node i +ℤ neg_ℤ p) && within limit ((costs_of b).label i +ℤ p)) (add_at b.nodes i (neg_ℤ p)) (add_at b.labels i p)
    where
      go : (t : Bool) (l m : List ℤ)
          → settled b (cond t (done (lent l m b.edges b.incumbent) 0) (refused 13)) ≡ label_settled b (cond t (label_move 0 l m) (label_move 13 b.nodes b.labels))
      go true l m = refl
      go false l m = refl

  -- ---- each kind

  -- a legal record by its move, another refused with 12
  edge_either : (t : Bool) (o : Outcome) (m : EdgeMove) → (t ≡ true → settled b o ≡ edge_settled b m)
      → settled b (cond t o (refused 12)) ≡ edge_settled b (cond t m (edge_move 12 b.nodes b.edges))
  edge_either true o m f = f refl
  edge_either false o m f = refl

  label_either : (t : Bool) (o : Outcome) (m : Moved) → (t ≡ true → settled b o ≡ label_settled b m)
      → settled b (cond t o (refused 12)) ≡ label_settled b (cond t m (label_move 12 b.nodes b.labels))
  label_either true o m f = f refl
  label_either false o m f = refl

  edge_kind : (turned : Bool) (u e r : ℕ)
      → settled b (cond (legal_edge I u e r) (checked I limit (shift (deltas I (costs_of b) (cond turned edge_to_node node_to_edge) u e r) b)) (refused 12)) ≡ edge_settled b (edge_taken I limit b.nodes b.edges turned u e r)
  unfolding edge_taken
  edge_kind turned u e r =
      edge_either (legal_edge I u e r) (checked I limit (shift (deltas I (costs_of b) (cond turned edge_to_node node_to_edge) u e r) b)) (edge_moved I b.nodes b.edges limit turned u e r)
      (λ t. let (x, y, z, w) = legal_edge_is I u e r t in edge_settled_lem I limit g.sound.sized g.ranged y z turned r)

  pub edge_turn : (flow : Flow) (u e r : ℕ) → settled b (effect I limit b (message (edge_message flow)) u e r) ≡ edge_settled b (edge_taken I limit b.nodes b.edges (to_node flow) u e r)
  unfolding effect legal_message
  edge_turn FromNode u e r = edge_kind false u e r
  edge_turn ToNode u e r = edge_kind true u e r

  place_in : (u k r : ℕ) → legal_position I u k r ≡ true → first I u + k < node_cells I
  place_in u k r t = let (x, y, z, e) = legal_position_is I u k r t in omega (arith, row_inside I y)

  label_kind : (turned : Bool) (u k r : ℕ)
      → settled b (cond (legal_position I u k r) (checked I limit (shift (deltas I (costs_of b) (cond turned label_to_node node_to_label) u k r) b)) (refused 12)) ≡ label_settled b (label_taken I limit b.nodes b.labels turned u k r)
  unfolding label_taken deltas
  label_kind turned u k r =
      label_either (legal_position I u k r) (checked I limit (shift (deltas I (costs_of b) (cond turned label_to_node node_to_label) u k r) b)) (label_moved limit b.nodes b.labels (first I u + k) (label_given I b.nodes b.labels turned u (first I u + k) r))
      (λ t. moved turned (place_in u k r t))
    where
      moved : (turned : Bool) → first I u + k < node_cells I
          → settled b (checked I limit (shift (deltas I (costs_of b) (cond turned label_to_node node_to_label) u k r) b)) ≡ label_settled b (label_moved limit b.nodes b.labels (first I u + k) (label_given I b.nodes b.labels turned u (first I u + k) r))
      moved true h = label_settled_lem (first I u + k) (label_given I b.nodes b.labels true u (first I u + k) r) h
      moved false h = label_settled_lem (first I u + k) (label_given I b.nodes b.labels false u (first I u + k) r) h

  pub label_turn : (flow : Flow) (u k r : ℕ) → settled b (effect I limit b (message (label_message flow)) u k r) ≡ label_settled b (label_taken I limit b.nodes b.labels (to_node flow) u k r)
  unfolding effect legal_message
  label_turn FromNode u k r = label_kind false u k r
  label_turn ToNode u k r = label_kind true u k r

  -- a record has at most one stuck rounding
  pub stuck_once : (kind : Kind) (u k r : ℕ) → (settled b (effect I limit b kind u k r)).stuck ≤ 1
  unfolding effect checked rounded
  stuck_once (message m) u k r =
      by_cond Once (legal_message I m u k r) (λ _. by_cond Once (in_range limit (shift (deltas I (costs_of b) m u k r) b)) (λ _. omega arith) (λ _. omega arith)) (λ _. omega arith)
    where
      Once : Outcome → Type 0
      Once o = (settled b o).stuck ≤ 1
  stuck_once (rounding w) u k r = by_cond Once (eqb u 0 && eqb k 0 && eqb r 0) (λ _. go (candidate I (costs_of b) w)) (λ _. omega arith)
    where
      Once : Outcome → Type 0
      Once o = (settled b o).stuck ≤ 1

      go : (o : Option (List ℕ)) → Once (rounded I b o)
      go none = omega arith
      go (some x) = omega arith
  stuck_once unknown u k r = omega arith

-- a kind that does not exist
pub none_turn : (I : Instance) (limit : ℕ) (b : Buffers) (u k r : ℕ) → settle b 0 12 ≡ settled b (effect I limit b unknown u k r)
unfolding effect
none_turn I limit b u k r = refl

-- a record that is refused for its kind
pub unknown_turn : (I : Instance) (limit : ℕ) (b : Buffers) (l : List ℕ) (e : Refusal) → Err e ≡ head_of l → settle b 0 (number e) ≡ settled_by I limit b l
unknown_turn I limit b l e h =
    let (k, q) = kind_unknown (kind_of (slice_index l 0)) (head_none (kind_as (kind_of (slice_index l 0))) l h) in
    rw (q, k) (none_turn I limit b (slice_index l 1) (slice_index l 2 + 256 * slice_index l 3) (slice_index l 4))
