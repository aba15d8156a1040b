use Rattle.std.proofs.Common.{[], ◌∷◌}
use Rattle.std.specs.Prelude.{codes}
use Rattle.adsc_io.specs.Lines.{ended}
use Rattle.adsc_run.proofs.OutgoingLaws.{puts_then}
use Rattle.adsc_run.proofs.output.links.put_downlink.Goals as goal

pub returns : goal.returns
returns g c =
    puts_then _ _ _ (codes "D,") (ended c.args.text.now) c.put.ensures (puts_then _ _ _ c.args.text.now (10 ∷ []) c.put-2.ensures c.put-3.ensures)
