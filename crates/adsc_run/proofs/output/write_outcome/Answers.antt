use Rattle.adsc_run.proofs.OutcomeLaws.{outcome_output}
use Rattle.adsc_run.proofs.OutgoingLaws.{finished}
use Rattle.adsc_run.proofs.output.write_outcome.Goals as goal

pub returns : goal.returns
returns g c = (
  c.put_outcome.ensures.text,
  record { fields = c.put_outcome.ensures.such; output = λ order run of_run. outcome_output order run c.args.outcome.now c.put_outcome.ensures.text c.put_outcome.ensures.such of_run },
  finished _ _ _ _ _ c.put_outcome.ensures.text c.new-out.ensures.empty c.new-out.ensures.fresh c.put_outcome.ensures.puts c.finish.ensures,
)
