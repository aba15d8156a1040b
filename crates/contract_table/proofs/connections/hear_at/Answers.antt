use Rattle.due_event.specs.RuleTerms.{rules_profile}
use Rattle.contract_table.specs.Acts.{rules_message}
use Rattle.contract_table.proofs.HearingLemmas.{heard_accepted, heard_ended}
use Rattle.contract_table.proofs.connections.hear_at.Goals as goal

pub returns-in-Accepted : goal.returns-in-Accepted
returns-in-Accepted c = λ none.
    heard_accepted (rules_profile c.args.profile) c.args.link c.args.place c.args.time (rules_message c.args.message.now) c.as_slice.result.now c.args.connections.now.items c.index-as_slice-place.result none
    c.as_slice.ensures.value c.index-as_slice-place.is c.requires.place c.accept_at.new.connections.items c.args.dues.now c.answer.new.dues
    c.in-Accepted.ensures.verdict c.accept_at.ensures c.requires.sound c.in-Accepted.ensures.dues

pub returns-in-Ended : goal.returns-in-Ended
returns-in-Ended c = λ none.
    heard_ended (rules_profile c.args.profile) c.args.link c.args.place c.args.time (rules_message c.args.message.now) c.as_slice.result.now c.args.connections.now.items c.index-as_slice-place.result none
    c.as_slice.ensures.value c.index-as_slice-place.is c.requires.place c.end_at.new.connections.items c.args.dues.now c.answer.new.dues
    c.in-Ended.ensures.verdict c.requires.rising c.end_at.ensures c.requires.sound c.in-Ended.ensures.dues
