use Rattle.run_rules.proofs.ShownAccepted.{what_is_shown_was_accepted}
use Rattle.run_rules.proofs.laws.what_is_shown_was_accepted.Goals as goal

pub returns : goal.returns
returns c = what_is_shown_was_accepted
