use Rattle.centre_core.proofs.HearingLaws.{one_hearing}
use Rattle.centre_core.proofs.laws.a_text_says_one_thing.Goals as goal

pub returns : goal.returns
returns c = one_hearing
