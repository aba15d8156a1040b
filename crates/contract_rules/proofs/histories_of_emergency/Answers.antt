-- Each clause is the history's own computation.
use Rattle.contract_rules.proofs.Worked.{emergency_mode, cancelled_emergency_mode, suspended_reports, emergency_contract, cancelled_emergency_contract, default_interval, request_before_emergency, switched_on_again, mode_of_new_session}
use Rattle.contract_rules.proofs.histories_of_emergency.Goals as goal

pub returns-clause-emergency_mode : goal.returns-clause-emergency_mode
returns-clause-emergency_mode c = emergency_mode

pub returns-clause-cancelled_emergency_mode : goal.returns-clause-cancelled_emergency_mode
returns-clause-cancelled_emergency_mode c = cancelled_emergency_mode

pub returns-clause-suspended_reports : goal.returns-clause-suspended_reports
returns-clause-suspended_reports c = suspended_reports

pub returns-clause-emergency_contract : goal.returns-clause-emergency_contract
returns-clause-emergency_contract c = emergency_contract

pub returns-clause-cancelled_emergency_contract : goal.returns-clause-cancelled_emergency_contract
returns-clause-cancelled_emergency_contract c = cancelled_emergency_contract

pub returns-clause-default_interval : goal.returns-clause-default_interval
returns-clause-default_interval c = default_interval

pub returns-clause-request_before_emergency : goal.returns-clause-request_before_emergency
returns-clause-request_before_emergency c = request_before_emergency

pub returns-clause-switched_on_again : goal.returns-clause-switched_on_again
returns-clause-switched_on_again c = switched_on_again

pub returns-clause-mode_of_new_session : goal.returns-clause-mode_of_new_session
returns-clause-mode_of_new_session c = mode_of_new_session
