-- What the nodes of a sheet pay: where it stands, and that it is not large.
-- Assumes nothing.
use mathlib.Core.Path.{◌≡◌, sym, ap, ◌∙◌}
use mathlib.Core.List.{List}
use Prim.Native.Nat.{ℕ, ◌+◌, ◌^◌, ◌≤◌, ◌<◌}
use native.Mathlib.Omega.{arith}
use lib.IntN.{ℤ, pos, nat_abs}
use lib.ListN.{length, get_or}
use Rattle.instance.specs.declared.sheet.Sheet.{Sheet}
use Rattle.instance.specs.Instance.{Instance, first}
use Rattle.instance.specs.Sheet.{instance_of}
use Rattle.instance.specs.Described.{labels_of}
use Rattle.instance.proofs.Sheets.{whole, start_is, row_here, degree_some, degree_few, positions_few, node_there}
use Rattle.placing.specs.declared.offers.Offers.{Offers}
use Rattle.placing.specs.Words.{entry, opens, rank}
use Rattle.placing.specs.Priced.{cost_at}
use Rattle.placing.specs.Paths.{paid, may}
use Rattle.placing.proofs.Laying.{bytes_long, bytes_at}

module _ (o : Offers) where
  abbrev x : Sheet
  x = o.sheet.now

  abbrev I : Instance
  I = instance_of x.bytes.now

  abbrev costs : List ℤ
  costs = o.costs.now

  pub paid_within : (u l : ℕ) → nat_abs (paid o u l) ≤ 2 ^ 40
  unfolding cost_at
  paid_within u l = o.fit.1 (first I u + rank (entry o.nodes.now.sets u) l)

  module _ {u : ℕ} (h : u < o.nodes.now.count) where
    pub on_sheet : u < x.nodes
    on_sheet = omega (arith, o.counted)

    pub start_few : entry x.starts u + 16 < 2 ^ 32
    start_few = omega (arith, start_is x on_sheet, row_here x on_sheet, positions_few x)

    -- the place of a label that u has
    pub rank_few : (l : ℕ) → may o u l → (rank (entry o.nodes.now.sets u) l < 16) × (entry x.starts u + rank (entry o.nodes.now.sets u) l < length costs)
    rank_few l a =
        let r = (o.listed.stands u l on_sheet a).0 in
        (omega (arith, r, degree_few x on_sheet), omega (arith, r, start_is x on_sheet, row_here x on_sheet, o.fit.0))

    pub paid_is : (l k : ℕ) → k ≡ rank (entry o.nodes.now.sets u) l → get_or costs (entry x.starts u + k) (pos 0) ≡ paid o u l
    unfolding cost_at
    paid_is l k e = let s = start_is x on_sheet in let z : entry x.starts u + k ≡ first I u + rank (entry o.nodes.now.sets u) l = omega arith in ap (λ (i : ℕ). get_or costs i (pos 0)) z

    -- the k-th label of u
    pub row_few : length (labels_of x.bytes.now u) ≤ 16
    row_few = omega (arith, bytes_long (whole x) (node_there x on_sheet), degree_few x on_sheet)

    pub row_label : (k : ℕ) → k < length (labels_of x.bytes.now u)
        → may o u (entry (labels_of x.bytes.now u) k) × (entry x.starts u + k < length costs) × (get_or costs (entry x.starts u + k) (pos 0) ≡ paid o u (entry (labels_of x.bytes.now u) k))
    row_label k g =
        let n = bytes_long (whole x) (node_there x on_sheet) in
        let d : k < I.degree u = omega arith in
        let e = bytes_at (whole x) (node_there x on_sheet) k g in (
          ap (opens o.nodes.now.sets o.nodes.now.own u) e ∙ o.listed.has u k on_sheet d,
          omega (arith, start_is x on_sheet, row_here x on_sheet, o.fit.0),
          paid_is (entry (labels_of x.bytes.now u) k) k (sym (ap (rank (entry o.nodes.now.sets u)) e ∙ o.listed.ranks u k on_sheet d)),
        )

    -- none twice
    pub row_once : (i j : ℕ) → i < length (labels_of x.bytes.now u) → j < length (labels_of x.bytes.now u) → entry (labels_of x.bytes.now u) i ≡ entry (labels_of x.bytes.now u) j → i ≡ j
    row_once i j g h e =
        let n = bytes_long (whole x) (node_there x on_sheet) in
        let a = bytes_at (whole x) (node_there x on_sheet) in
        sym (o.listed.ranks u i on_sheet (omega arith)) ∙ ap (rank (entry o.nodes.now.sets u)) (sym (a i g) ∙ e ∙ a j h) ∙ o.listed.ranks u j on_sheet (omega arith)

    pub row_some : 0 < length (labels_of x.bytes.now u)
    row_some = let n = bytes_long (whole x) (node_there x on_sheet) in omega (arith, degree_some x on_sheet)

    pub label_there : (l : ℕ) → may o u l → (k : ℕ) × (k < length (labels_of x.bytes.now u)) × (entry (labels_of x.bytes.now u) k ≡ l)
    label_there l a =
        let (r, e) = o.listed.stands u l on_sheet a in
        let n = bytes_long (whole x) (node_there x on_sheet) in
        let g : rank (entry o.nodes.now.sets u) l < length (labels_of x.bytes.now u) = omega arith in
        (rank (entry o.nodes.now.sets u) l, g, bytes_at (whole x) (node_there x on_sheet) (rank (entry o.nodes.now.sets u) l) g ∙ e)
