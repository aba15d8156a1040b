-- The verdict on a message, in the terms of the contract rules.
use Rattle.contract_rules.specs.LiveLinks.{Verdict, Ended, Accepted, Refused, Repeated}
use Rattle.contract_table.specs.declared.verdict.Verdict.{Verdict as VerdictGiven}
use Rattle.contract_table.specs.declared.verdict.Verdict.TheVariants as given

abbrev pub rules_verdict : VerdictGiven → Verdict
rules_verdict given.Ended = Ended
rules_verdict given.Accepted = Accepted
rules_verdict (given.Refused reason) = Refused reason
rules_verdict given.Repeated = Repeated
