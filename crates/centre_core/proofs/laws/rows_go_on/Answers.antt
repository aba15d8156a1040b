use Rattle.centre_core.proofs.TableLaws.{rows_go_on}
use Rattle.centre_core.proofs.laws.rows_go_on.Goals as goal

pub returns : goal.returns
returns c = rows_go_on
