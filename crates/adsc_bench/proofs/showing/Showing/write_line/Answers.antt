use Rattle.std.proofs.Common.{◌+◌, ap}
use Rattle.adsc_bench.proofs.ShowingLaws.{line_unwritten, line_written}
use Rattle.adsc_bench.proofs.showing.Showing.write_line.Goals as goal

pub returns-in-Ok-clause-none : goal.returns-in-Ok-clause-none
returns-in-Ok-clause-none g c before left reads has =
    line_written before left reads _ _ _ _ _ _ _ _ _ has (ap (λ n. c.args.self.now.refused + n) c.refusals_in.ensures) (rw c.bytes.ensures at c.in-Ok.ensures.written) c.in-Ok.ensures.cause.kept

pub returns-in-Err-clause-some : goal.returns-in-Err-clause-some
returns-in-Err-clause-some g c before left reads has =
    line_unwritten before left reads _ _ _ _ _ _ _ _ has c.in-Err.ensures.cause.failed (rw c.bytes.ensures at c.in-Err.ensures.prefix)
