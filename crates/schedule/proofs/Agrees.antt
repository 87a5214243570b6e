-- The table of `specs/Sample` holds, by evaluation of the definitions that the contract cites.
-- Assumes nothing.
use mathlib.Core.Path.{◌≡◌, refl}
use mathlib.Core.List.{map}
use Rattle.integers.specs.Places.{range, select, offset, tabulate}
use Rattle.integers.specs.Checks.{below, first_failure, within}
use Rattle.instance.specs.Instance.{exclusive, usable, first, table_size, table}
use Rattle.instance.specs.Sheet.{instance_of, rises, mark_at, short_enough, marked, counts_ok, degrees_fit, degrees_ok, ends_fit, ends_ok, cells_ok, length_ok, labels_ok, prices_ok, usable_ok, checks}
use Rattle.schedule.specs.Sweep.{bytes, each, falling, from_edges, to_edges, to_labels, from_label, rounding, to_lower, to_higher, positions, labelled, exclusive_positions, forward_at, forward, label_at, backward_at, backward, sweep, known, vanished, sweep_records, sweep_length}
use Rattle.schedule.specs.Written.{own_checks, sweep_refusal, sweep_of}
use Rattle.schedule.specs.Sample.{cases}

pub cases_hold : map (λ c. c.value) cases ≡ map (λ c. c.stated) cases
unfolding cases range select offset tabulate below first_failure within exclusive usable first table_size table instance_of rises mark_at short_enough marked counts_ok degrees_fit degrees_ok ends_fit ends_ok cells_ok length_ok labels_ok prices_ok usable_ok checks bytes each falling from_edges to_edges to_labels from_label rounding to_lower to_higher positions labelled exclusive_positions forward_at forward label_at backward_at backward sweep known vanished sweep_records sweep_length own_checks sweep_refusal sweep_of
cases_hold = refl
