use Rattle.centre_core.proofs.HearingLaws.{own_contact_heard}
use Rattle.centre_core.proofs.laws.own_contact_is_heard.Goals as goal

pub returns : goal.returns
returns c = own_contact_heard
