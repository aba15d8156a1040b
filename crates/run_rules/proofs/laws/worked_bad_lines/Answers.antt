use Rattle.run_rules.proofs.WorkedBadLines.{no_logon, no_such_number, nothing_to_cancel, other_role, still_waiting, unlisted_address}
use Rattle.run_rules.proofs.laws.worked_bad_lines.Goals as goal

pub returns-clause-unlisted_address : goal.returns-clause-unlisted_address
returns-clause-unlisted_address c = unlisted_address

pub returns-clause-other_role : goal.returns-clause-other_role
returns-clause-other_role c = other_role

pub returns-clause-no_such_number : goal.returns-clause-no_such_number
returns-clause-no_such_number c = no_such_number

pub returns-clause-no_logon : goal.returns-clause-no_logon
returns-clause-no_logon c = no_logon

pub returns-clause-still_waiting : goal.returns-clause-still_waiting
returns-clause-still_waiting c = still_waiting

pub returns-clause-nothing_to_cancel : goal.returns-clause-nothing_to_cancel
returns-clause-nothing_to_cancel c = nothing_to_cancel
