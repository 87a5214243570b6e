-- `cell_least` meets its contract: the labels of both ends are parts of the sheet.
use Rattle.std.proofs.Common.{◌≡◌, ℕ, true, List, sym, ap, ◌∙◌, subst}
use Rattle.instance.specs.declared.sheet.Sheet.{Sheet}
use Rattle.instance.specs.Instance.{Instance}
use Rattle.instance.specs.Sheet.{instance_of}
use Rattle.instance.specs.Described.{labels_of}
use Rattle.instance.proofs.Sheets.{edge_there}
use Rattle.messages.specs.EdgeMessage.{Ends}
use Rattle.messages.proofs.EndLaws.{ends_of}
use Rattle.messages.proofs.bound.cell_least.Goals as goal
use Rattle.messages.proofs.bound.cell_least.Goals.{After-labels_of-high}

-- the labels of the two ends
module _ (c : After-labels_of-high) where
  abbrev x : Sheet
  x = c.args.sheet.now

  abbrev s : List ℕ
  s = x.bytes.now

  abbrev I : Instance
  I = instance_of s

  low_is : c.labels_of-low.result.now ≡ labels_of s (I.low c.args.e)
  low_is = c.labels_of-low.ensures ∙ ap (labels_of s) c.low.ensures.0

  high_is : c.labels_of-high.result.now ≡ labels_of s (I.high c.args.e)
  high_is = c.labels_of-high.ensures ∙ ap (labels_of s) c.high.ensures.0

pub usable_least-requires : goal.usable_least-requires
usable_least-requires c =
    let l = c.args.cells.now in
    let d = (goal.at.usable_least-requires c).After-labels_of-high in
    record {
      ends = subst (λ (y : List ℕ). Ends true y c.labels_of-high.result.now l) (sym (low_is d))
          (subst (λ (y : List ℕ). Ends true (labels_of (s d) ((I d).low c.args.e)) y l) (sym (high_is d)) (ends_of (s d) (x d).readable (edge_there (x d) c.requires.edge) l c.requires.fits.size true));
      within = c.requires.fits.range;
    }
