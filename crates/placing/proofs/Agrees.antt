-- The table of `specs/Sample` holds, by evaluation of the definitions that the contract cites.
-- Assumes nothing.
use mathlib.Core.Path.{◌≡◌, refl}
use mathlib.Core.List.{map}
use Rattle.integers.specs.Places.{range, offset, every, tabulate}
use Rattle.integers.specs.Checks.{below, first_failure, within}
use Rattle.instance.specs.Instance.{exclusive, usable, first, table_size, table}
use Rattle.instance.specs.Sheet.{instance_of, rises, mark_at, short_enough, marked, counts_ok, degrees_fit, degrees_ok, ends_fit, ends_ok, cells_ok, length_ok, labels_ok, prices_ok, usable_ok, checks}
use Rattle.rules.specs.Costs.{chosen}
use Rattle.rules.specs.Rounding.{free}
use Rattle.rules.specs.Matchings.{is_matching, passing, joined, labellings_from, labellings, matchings, smallest}
use Rattle.assignment.specs.Rows.{count, some}
use Rattle.placing.specs.Placing.{labelled, own_checks, place_refusal, placed_of}
use Rattle.placing.specs.Sample.{cases}

pub cases_hold : map (λ c. c.value) cases ≡ map (λ c. c.stated) cases
unfolding cases range offset every tabulate below first_failure within exclusive usable first table_size table instance_of rises mark_at short_enough marked counts_ok degrees_fit degrees_ok ends_fit ends_ok cells_ok length_ok labels_ok prices_ok usable_ok checks chosen free is_matching passing joined labellings_from labellings matchings smallest count some labelled own_checks place_refusal placed_of
cases_hold = refl
