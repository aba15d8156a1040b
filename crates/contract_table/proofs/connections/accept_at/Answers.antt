use Rattle.due_event.specs.RuleTerms.{rules_profile}
use Rattle.contract_table.specs.Acts.{rules_message}
use Rattle.contract_table.proofs.HearingLemmas.{is_accepted_at}
use Rattle.contract_table.proofs.connections.accept_at.Goals as goal

pub returns : goal.returns
returns c =
    is_accepted_at c.args.place (rules_profile c.args.profile) c.args.time (rules_message c.args.message.now) c.args.connections.now c.as_mut_slice.result.now c.index-as_mut_slice-place.result c.accept.new.self
    c.as_mut_slice.ensures.value c.requires.place c.accept.ensures.next c.accept.ensures.link c.accept.ensures.sound
