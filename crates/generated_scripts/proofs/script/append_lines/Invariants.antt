use Rattle.std.proofs.Common.{◌≡◌, ◌++◌, ◌-◌, ◌*◌, ◌≤◌, map}
use Rattle.adsc_io.specs.Lines.{ended_lines}
use Rattle.generated_scripts.specs.Generator.{lines_drawn}
use Rattle.generated_scripts.specs.Making.{making}
use Rattle.generated_scripts.specs.Texts.{line_text}
use Rattle.generated_scripts.proofs.script.append_lines.Given as goal

-- what was appended so far, and the lines that are yet to be drawn, make up the lines that were to be drawn at first
abbrev pub invariant-loop : goal.invariant-loop
invariant-loop l = record {
  text : l.script.items ++ ended_lines (map line_text (lines_drawn (l.count - l.counter) (making l.generator)))
      ≡ l.fn.script.items ++ ended_lines (map line_text (lines_drawn l.count (making l.fn.generator)));
  clock : l.generator.clock ≤ 120 * l.counter;
}
