-- `print` is safe: the count lies within the text.
use Rattle.std.proofs.Common.{rules}
use Rattle.console.specs.Program.{printed}
use Rattle.console.proofs.Outputs.{output_counts}
use Rattle.terminal.proofs.print.Goals as goal

pub write_text-requires-clause-within : goal.write_text-requires-clause-within
write_text-requires-clause-within g c = λ before after count r. output_counts (printed c.args.sheet.now c.args.records.now) before.now {b = after.now} {r = count} (search rules)
