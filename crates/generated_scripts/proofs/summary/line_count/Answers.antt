use Rattle.std.proofs.Common.{◌∙◌}
use Rattle.generated_scripts.proofs.SummaryLaws.{counted_lines}
use Rattle.generated_scripts.proofs.summary.line_count.Goals as goal

pub returns : goal.returns
returns c = c.newline_count.ensures ∙ counted_lines c.args.bytes.now c.requires
