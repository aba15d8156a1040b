-- Each type holds its data, and proofs about it.
use Rattle.afn_logon.proofs.ValueLaws.{same_answer, same_application, same_contact, same_position}
use Rattle.afn_logon.proofs.laws.same_data_same_value.Goals as goal

pub returns-clause-position : goal.returns-clause-position
returns-clause-position c = same_position

pub returns-clause-application : goal.returns-clause-application
returns-clause-application c = same_application

pub returns-clause-contact : goal.returns-clause-contact
returns-clause-contact c = same_contact

pub returns-clause-answer : goal.returns-clause-answer
returns-clause-answer c = same_answer
