-- `show_refused` is safe: the count lies within the text.
use Rattle.std.proofs.Common.{sym}
use lib.Seq.{length-take-le}
use Rattle.console.proofs.Outputs.{output_counts}
use Rattle.console_cases.proofs.show_refused.Goals as goal

pub slice_bounds-text-end : goal.slice_bounds-text-end
slice_bounds-text-end g c = output_counts _ _ c.compose-count.ensures

pub slice_bounds-write_all-end : goal.slice_bounds-write_all-end
slice_bounds-write_all-end g c = sym (length-take-le _ _ (output_counts _ _ c.compose-count.ensures))
