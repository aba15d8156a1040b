use Rattle.centre_core.proofs.HearingLaws.{own_is_heard, sealed_is_heard}
use Rattle.centre_core.proofs.laws.own_downlink_is_heard.Goals as goal

pub returns : goal.returns
returns c = record { sealed = sealed_is_heard; own = own_is_heard }
