-- `backward_labels` meets its contract: the labels' lists by the places that have them.
use Rattle.std.proofs.Common.{◌≡◌, length, ap, arith}
use Rattle.instance.specs.declared.sheet.Sheet.{Sheet}
use Rattle.instance.specs.Instance.{Instance}
use Rattle.instance.specs.Sheet.{instance_of}
use Rattle.instance.proofs.Sheets.{labels_few}
use Rattle.schedule.specs.Sweep.{each, falling, label_at}
use Rattle.schedule.specs.Writing.{label_by}
use Rattle.schedule.proofs.WritingLaws.{room_for, wrote_as}
use Rattle.schedule.proofs.IndexedSheet.{place_rows, label_lists}
use Rattle.schedule.proofs.sweep.backward_labels.Goals as goal
use Rattle.schedule.proofs.sweep.backward_labels.Goals.{After-spots}

-- the places by label
module _ (p : After-spots) where
  abbrev x : Sheet
  x = p.args.sheet.now

  abbrev I : Instance
  I = instance_of x.bytes.now

  lists : each (label_by p.places_by_label-places.result p.spots.result) (falling x.labels) ≡ each (label_at I) (falling I.label_count)
  lists = label_lists x p.places_by_label-places.ensures.rows p.spots.ensures

pub from_labels-requires-clause-rows : goal.from_labels-requires-clause-rows
from_labels-requires-clause-rows c =
    let p = (goal.at.from_labels-requires-clause-rows c).After-spots in place_rows (x p) p.places_by_label-places.ensures.rows c.spots.ensures

pub from_labels-requires-clause-labels_bound : goal.from_labels-requires-clause-labels_bound
from_labels-requires-clause-labels_bound c = labels_few c.args.sheet.now

pub from_labels-requires-clause-room : goal.from_labels-requires-clause-room
from_labels-requires-clause-room c = room_for _ c.requires (omega (arith, ap length (lists (goal.at.from_labels-requires-clause-room c).After-spots)))

pub returns : goal.returns
returns c = wrote_as c.from_labels.ensures (lists (goal.at.returns c).After-spots)
