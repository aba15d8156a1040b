use Rattle.due_emergency.proofs.LinkCallsLaws.{mode_is_of_rules, tick_is_of_rules}
use Rattle.due_emergency.proofs.laws.mode_is_of_rules.Goals as goal

pub returns : goal.returns
returns c = record { mode = mode_is_of_rules; tick = tick_is_of_rules }
