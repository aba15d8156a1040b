use Rattle.run_rules.proofs.SentTexts.{sent_message_is_taken}
use Rattle.run_rules.proofs.laws.a_sent_message_is_taken.Goals as goal

pub returns : goal.returns
returns c = sent_message_is_taken
