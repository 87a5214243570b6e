-- Whole runs, the document's sample first: one table, and one proof over it, from the definition that the contract cites.
use Rattle.std.specs.Prelude.{◌≡◌, refl, List, [], ◌∷◌, ◌++◌, map, ℕ}
use Rattle.std.proofs.Math.Option.{bind}
use Prim.Native.String.{String}
use Rattle.integers.specs.Least.{min_ℤ, least_of, least_from}
use Rattle.integers.specs.Share.{to_even, nearest, share, excess, amount}
use Rattle.integers.specs.Places.{range, among, select, others, tabulate, every, total, offset, only}
use Rattle.integers.specs.Checks.{below, first_failure, within}
use Rattle.instance.specs.Instance.{exclusive, usable, first, table_size, table, cell}
use Rattle.instance.specs.Sheet.{instance_of, rises, mark_at, short_enough, marked, counts_ok, degrees_fit, degrees_ok, ends_fit, ends_ok, cells_ok, length_ok, labels_ok, prices_ok, usable_ok, checks, refusal_of}
use Rattle.instance.specs.Sample.{sample, trailer_alone}
use Rattle.rules.specs.Places.{end_place, node_places, label_places, edge_places, usable_places, end_places}
use Rattle.rules.specs.Costs.{in_range, none_kept, opened, node_least, edge_least, label_least, bound, chosen, chosen_cell, cost_of}
use Rattle.rules.specs.Messages.{to_label, to_edge, deltas, filled}
use Rattle.rules.specs.Rounding.{best_from, best, free, key, choice, round_below, adopt}
use Rattle.rules.specs.Assigned.{assignment, candidate}
use Rattle.rules.specs.Run.{proceed, rounded, kind_of, records, legal_share, legal_edge, legal_position, legal_message, checked, effect, run, run_list}
use Rattle.rules.specs.Matchings.{is_matching, passing, joined, labellings_from, labellings, matchings}
use Rattle.rules.specs.Calls.{lengths_ok, incumbent_ok, lent_checks, lent_refusal, run_refusal, run_of, told, report_of}
use Rattle.rules.specs.Sample.{sample_records, both, clashing}
use Rattle.console.specs.Ascii.{ascii}
use Rattle.console.specs.Decimal.{digits_in, decimal, signed}
use Rattle.console.specs.Lines.{line, refused_line, count_lines, kept_lines, bound_lines, at_records, stop_line, report_text, text_of}
use Rattle.console.specs.Program.{ran_text, printed}

pub record Run : Type 0 where
  pub sheet : List ℕ
  pub list : List ℕ
  pub text : String

unfoldable pub runs : List Run
runs =
    record { sheet = sample; list = sample_records; text = "done 5\nstuck 0\nbound 10\ncost 11\ngap 1\n" }
    ∷ record { sheet = sample; list = sample_records ++ (2 ∷ 0 ∷ 0 ∷ 0 ∷ 1 ∷ []); text = "done 6\nstuck 0\nbound 11\ncost 11\ngap 0\n" }
    ∷ record { sheet = sample; list = 6 ∷ 0 ∷ 0 ∷ 0 ∷ 0 ∷ []; text = "done 1\nstuck 0\nbound 6\ncost 11\ngap 5\n" }
    ∷ record { sheet = sample; list = []; text = "done 0\nstuck 0\nbound 6\ncost none\ngap none\n" }
    ∷ record { sheet = trailer_alone; list = []; text = "done 0\nstuck 0\nbound 0\ncost 0\ngap 0\n" }
    ∷ record { sheet = sample; list = 3 ∷ 0 ∷ 0 ∷ 0 ∷ 64 ∷ 3 ∷ 0 ∷ 0 ∷ 0 ∷ 65 ∷ []; text = "done 1\nstuck 0\nbound 6\ncost none\ngap none\nrefused 12\n" }
    ∷ record { sheet = both; list = 5 ∷ 0 ∷ 0 ∷ 0 ∷ 0 ∷ []; text = "done 1\nstuck 0\nbound 3\ncost 3\ngap 0\n" }
    ∷ record { sheet = both; list = 3 ∷ 0 ∷ 1 ∷ 0 ∷ 1 ∷ []; text = "done 0\nstuck 0\nbound 3\ncost none\ngap none\nrefused 12\n" }
    ∷ record { sheet = sample; list = 3 ∷ 0 ∷ []; text = "refused 11\n" }
    ∷ record { sheet = clashing; list = 3 ∷ 0 ∷ []; text = "refused 15\n" }
    ∷ record { sheet = []; list = 3 ∷ 0 ∷ []; text = "refused 1\n" }
    ∷ []

pub runs_hold : map (λ r. printed r.sheet r.list) runs ≡ map (λ r. ascii r.text) runs
unfolding runs range among select others tabulate every total offset only below first_failure within min_ℤ least_of least_from to_even nearest share excess amount exclusive usable first table_size table cell end_place node_places label_places edge_places usable_places end_places instance_of rises mark_at short_enough marked counts_ok degrees_fit degrees_ok ends_fit ends_ok cells_ok length_ok labels_ok prices_ok usable_ok checks refusal_of in_range none_kept opened node_least edge_least label_least bound chosen chosen_cell cost_of to_label to_edge deltas filled best_from best free key choice round_below passing joined labellings_from labellings matchings assignment candidate adopt bind proceed rounded kind_of records legal_share legal_edge legal_position legal_message checked effect run run_list lengths_ok is_matching incumbent_ok lent_checks lent_refusal run_refusal run_of told report_of digits_in decimal signed line refused_line count_lines kept_lines bound_lines at_records stop_line report_text text_of ran_text printed
runs_hold = refl
