-- What the gap would be worth with a bound one too high, on a small sheet, computed from the definitions.
-- Assumes nothing.
use mathlib.Core.Path.{◌≡◌, refl}
use mathlib.Core.List.{List, [], ◌∷◌}
use mathlib.Core.Option.{bind}
use Prim.Native.Nat.{ℕ}
use lib.IntN.{pos, ◌+ℤ◌, ◌-ℤ◌}
use Rattle.integers.specs.Least.{min_ℤ, least_of, least_from}
use Rattle.integers.specs.Share.{to_even, nearest, share, excess, amount}
use Rattle.integers.specs.Places.{range, among, select, others, tabulate, every, total, offset, only}
use Rattle.integers.specs.Checks.{below, first_failure, within}
use Rattle.instance.specs.Instance.{exclusive, usable, first, table_size, table, cell}
use Rattle.instance.specs.Sheet.{instance_of, rises, mark_at, short_enough, marked, counts_ok, degrees_fit, degrees_ok, ends_fit, ends_ok, cells_ok, length_ok, labels_ok, prices_ok, usable_ok, checks, refusal_of}
use Rattle.rules.specs.Places.{end_place, node_places, label_places, edge_places, usable_places, end_places}
use Rattle.rules.specs.Costs.{in_range, none_kept, opened, node_least, edge_least, label_least, bound, chosen, chosen_cell, cost_of, price_of, Matching}
use Rattle.rules.specs.Messages.{to_label, to_edge, deltas, filled}
use Rattle.rules.specs.Rounding.{best_from, best, free, key, choice, round_below, adopt}
use Rattle.rules.specs.Assigned.{candidate}
use Rattle.rules.specs.Run.{Ran, proceed, rounded, kind_of, records, legal_share, legal_edge, legal_position, legal_message, checked, effect, run, run_list}
use Rattle.rules.specs.Matchings.{is_matching}
use Rattle.rules.specs.Calls.{Report, lengths_ok, incumbent_ok, lent_checks, lent_refusal, run_refusal, run_of, told, report_of, cost_limit}
use Rattle.rules.specs.Calls as calls
use Rattle.rules.proofs.Matchings.{is_matching_lem}
use Rattle.console.specs.Ascii.{ascii}
use Rattle.console.specs.Decimal.{digits_in, decimal, signed}
use Rattle.console.specs.Lines.{line, refused_line, count_lines, kept_lines, bound_lines, at_records, stop_line, report_text, text_of}
use Rattle.console.specs.Program.{ran_text, printed}

-- two nodes with the labels 0 and 1 each, no edge: node 0 has the prices 0 and 0, node 1 the prices 0 and 1
abbrev pub sheet : List ℕ
sheet =
    2 ∷ 2 ∷ 0 ∷ 1 ∷ 0 ∷ 1 ∷ 0 ∷ 0 ∷ 0 ∷ 0 ∷ 0 ∷ 0 ∷ 0 ∷ 0 ∷ 0 ∷ 0 ∷ 0 ∷ 0 ∷ 1 ∷ 0 ∷ 0 ∷ 0
    ∷ 2 ∷ 2 ∷ 0 ∷ 0 ∷ 32 ∷ 0 ∷ 0 ∷ 0 ∷ 16 ∷ 0 ∷ 0 ∷ 0 ∷ 77 ∷ 83 ∷ 72 ∷ 49 ∷ []

-- one rounding
abbrev pub list : List ℕ
list = 5 ∷ 0 ∷ 0 ∷ 0 ∷ 0 ∷ []

pub after : Ran
after = run_of sheet cost_limit (opened (instance_of sheet)) list

-- a report whose bound is one higher
pub raised : Report → Report
raised (calls.refused k) = calls.refused k
raised (calls.bound z) = calls.bound (z +ℤ pos 1)
raised (calls.kept z p g) = calls.kept (z +ℤ pos 1) p (p -ℤ (z +ℤ pos 1))

-- the rounding keeps a matching at 1; by the rules the gap is 1, with a bound one higher it would be printed as 0; and there is a matching at 0
pub one_higher : (printed sheet list ≡ ascii "done 1\nstuck 0\nbound 0\ncost 1\ngap 1\n")
    × (text_of after.finished after.stuck after.refusal (raised (report_of sheet cost_limit after.buffers)) ≡ ascii "done 1\nstuck 0\nbound 1\ncost 1\ngap 0\n")
    × Matching (instance_of sheet) (1 ∷ 0 ∷ [])
    × (price_of (instance_of sheet) (1 ∷ 0 ∷ []) ≡ pos 0)
unfolding after raised range among select others tabulate every total offset only below first_failure within min_ℤ least_of least_from to_even nearest share excess amount exclusive usable first table_size table cell end_place node_places label_places edge_places usable_places end_places instance_of rises mark_at short_enough marked counts_ok degrees_fit degrees_ok ends_fit ends_ok cells_ok length_ok labels_ok prices_ok usable_ok checks refusal_of in_range none_kept opened node_least edge_least label_least bound chosen chosen_cell cost_of to_label to_edge deltas filled best_from best free key choice round_below candidate adopt bind proceed rounded kind_of records legal_share legal_edge legal_position legal_message checked effect run run_list lengths_ok is_matching incumbent_ok lent_checks lent_refusal run_refusal run_of told report_of digits_in decimal signed line refused_line count_lines kept_lines bound_lines at_records stop_line report_text text_of ran_text printed
one_higher = (refl, refl, is_matching_lem (instance_of sheet) refl refl, refl)
