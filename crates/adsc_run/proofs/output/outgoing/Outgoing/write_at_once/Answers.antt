use Rattle.std.proofs.Common.{refl, sym, ap, List, ℕ, ◌++◌}
use Rattle.adsc_run.proofs.OutgoingLaws.{puts_broken}
use Rattle.adsc_run.proofs.output.outgoing.Outgoing.write_at_once.Goals as goal

pub returns-in-Err : goal.returns-in-Err
returns-in-Err g c =
    puts_broken _ _ c.args.bytes.now c.args.bytes.now c.requires.fresh refl (sym (ap (λ (t : List ℕ). t ++ c.args.bytes.now) c.requires.empty)) c.in-Err.ensures.prefix c.in-Err.ensures.cause.later c.in-Err.ensures.cause.failed
