use Rattle.adsc_bench.proofs.RunningLaws.{runs_write_fault, runs_written}
use Rattle.adsc_bench.proofs.running.run.Goals as goal

pub returns-in-Ok-write_outcome : goal.returns-in-Ok-write_outcome
returns-in-Ok-write_outcome g c =
    let (text, written, writes) = c.in-Ok-write_outcome.ensures in
    runs_written c.what_is_shown_was_accepted.ensures _ _ _ _ c.in-Ok.outcome text c.status_of.result c.status_of.ensures
    c.in-Ok.ensures.run c.in-Ok.ensures.done written writes.whole (c.in-Ok.ensures.kept (λ e. cc), writes.cause.kept)

pub returns : goal.returns
returns g c =
    let (text, written, writes) = c.in-Err.ensures in
    runs_write_fault c.what_is_shown_was_accepted.ensures _ _ _ _ c.in-Ok.outcome text c.in-Ok.ensures.run written writes.cause.failed (c.in-Ok.ensures.kept (λ e. cc)) writes.front
