use Rattle.std.proofs.Common.{arith, rules}
use Rattle.generated_scripts.specs.Making.{making}
use Rattle.generated_scripts.proofs.LinesDrawn.{one_more}
use Rattle.generated_scripts.proofs.script.append_lines.Goals as goal

pub loop-preserved : goal.loop-preserved
loop-preserved c = record {
  text = one_more c.loop.script.items c.append_line.new.out.items _ c.args.count c.loop.counter (making c.loop.generator) (making c.next_line-line.new.self) c.next_line-line.result
      (search rules) c.next_line-line.ensures.line c.next_line-line.ensures.behind c.loop.invariant.text (search rules);
  clock = omega (arith, c.next_line-line.ensures.later, c.loop.invariant.clock);
}
