use Rattle.adsc_io.proofs.OneLine.{one_line}
use Rattle.adsc_io.proofs.laws.a_number_has_one_line.Goals as goal

pub returns : goal.returns
returns c = one_line
