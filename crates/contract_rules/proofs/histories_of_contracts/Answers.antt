-- Each clause is the history's own computation.
use Rattle.contract_rules.proofs.Worked.{repeat_and_number_in_force, repeats_of_each_kind, number_of_another, cancel_of_each_kind, replacement, demand_never_in_force, intent_asked_for, cancel_of_undefined, two_messages, malformed_payloads}
use Rattle.contract_rules.proofs.histories_of_contracts.Goals as goal

pub returns-clause-repeat_and_number_in_force : goal.returns-clause-repeat_and_number_in_force
returns-clause-repeat_and_number_in_force c = repeat_and_number_in_force

pub returns-clause-repeats_of_each_kind : goal.returns-clause-repeats_of_each_kind
returns-clause-repeats_of_each_kind c = repeats_of_each_kind

pub returns-clause-number_of_another : goal.returns-clause-number_of_another
returns-clause-number_of_another c = number_of_another

pub returns-clause-cancel_of_each_kind : goal.returns-clause-cancel_of_each_kind
returns-clause-cancel_of_each_kind c = cancel_of_each_kind

pub returns-clause-replacement : goal.returns-clause-replacement
returns-clause-replacement c = replacement

pub returns-clause-demand_never_in_force : goal.returns-clause-demand_never_in_force
returns-clause-demand_never_in_force c = demand_never_in_force

pub returns-clause-intent_asked_for : goal.returns-clause-intent_asked_for
returns-clause-intent_asked_for c = intent_asked_for

pub returns-clause-cancel_of_undefined : goal.returns-clause-cancel_of_undefined
returns-clause-cancel_of_undefined c = cancel_of_undefined

pub returns-clause-two_messages : goal.returns-clause-two_messages
returns-clause-two_messages c = two_messages

pub returns-clause-malformed_payloads : goal.returns-clause-malformed_payloads
returns-clause-malformed_payloads c = malformed_payloads
