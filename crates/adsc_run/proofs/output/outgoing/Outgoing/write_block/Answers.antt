use Rattle.std.proofs.Common.{refl, sym, ◌∙◌, []}
use Rattle.std.proofs.lemmas.List.{append-nil}
use Rattle.adsc_run.proofs.OutgoingLaws.{puts_broken}
use Rattle.adsc_run.proofs.output.outgoing.Outgoing.write_block.Goals as goal

pub returns-in-Err-clause-puts : goal.returns-in-Err-clause-puts
returns-in-Err-clause-puts g c =
    puts_broken _ _ [] c.as_slice.result.now c.requires refl (c.as_slice.ensures.value ∙ sym (append-nil c.args.self.now.waiting.items)) c.in-Err.ensures.prefix c.in-Err.ensures.cause.later c.in-Err.ensures.cause.failed
