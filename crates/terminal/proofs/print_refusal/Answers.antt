-- `print_refusal` is safe: the count lies within the text.
use Rattle.std.proofs.Common.{rules}
use Rattle.console.specs.Lines.{refused_line}
use Rattle.console.proofs.Outputs.{output_counts}
use Rattle.terminal.proofs.print_refusal.Goals as goal

pub write_text-requires-clause-within : goal.write_text-requires-clause-within
write_text-requires-clause-within g c = λ before after count r. output_counts (refused_line c.args.number) before.now {b = after.now} {r = count} (search rules)
