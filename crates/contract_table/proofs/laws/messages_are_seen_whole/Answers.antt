use Rattle.contract_table.proofs.SeenAlike.{messages_seen, repeat_is_equality}
use Rattle.contract_table.proofs.laws.messages_are_seen_whole.Goals as goal

pub returns : goal.returns
returns c = record { one = messages_seen; repeat = repeat_is_equality }
