use Rattle.adsc_run.proofs.OutputLaws.{done_put}
use Rattle.adsc_run.proofs.output.put_done.Goals as goal

pub returns : goal.returns
returns g c =
    done_put c.args.outcome.now c.as_slice.result.now c.as_slice-2.result.now _ _ _ _ _ c.as_slice.ensures.value c.as_slice-2.ensures.value
    c.put_links_of.ensures c.put_refused.ensures c.put_centres.ensures c.put.ensures
