use Rattle.std.proofs.Common.{ap, ◌∙◌}
use Rattle.shown_lines.specs.Texts.{end_text}
use Rattle.adsc_bench.proofs.ShowingLaws.{end_unwritten, end_written}
use Rattle.adsc_bench.proofs.showing.Showing.write_end.Goals as goal

pub returns-in-Ok : goal.returns-in-Ok
returns-in-Ok g c before left reads has =
    let spelled = c.show_end.ensures ∙ ap (λ n. end_text n c.args.self.now.refused) c.number.ensures.number in
    end_written before left reads _ _ _ _ _ _ _ _ has spelled (rw c.bytes.ensures at c.in-Ok.ensures.written) c.in-Ok.ensures.cause.kept c.status_at_end.ensures

pub returns-in-Err : goal.returns-in-Err
returns-in-Err g c before left reads has =
    let spelled = c.show_end.ensures ∙ ap (λ n. end_text n c.args.self.now.refused) c.number.ensures.number in
    end_unwritten before left reads _ _ _ _ _ _ _ has spelled c.in-Err.ensures.cause.failed (rw c.bytes.ensures at c.in-Err.ensures.prefix)
