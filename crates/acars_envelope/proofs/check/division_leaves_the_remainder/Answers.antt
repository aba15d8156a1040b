use Rattle.acars_envelope.proofs.DivisionLaws.{divided_leaves}
use Rattle.acars_envelope.proofs.check.division_leaves_the_remainder.Goals as goal

pub returns : goal.returns
returns c = divided_leaves
