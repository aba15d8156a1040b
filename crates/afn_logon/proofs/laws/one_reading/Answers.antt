-- Each clause is a law over lists of characters.
use Rattle.afn_logon.proofs.FormLaws.{answer_or_mismatch, contact_or_mismatch, one_answer, one_contact, one_mismatch}
use Rattle.afn_logon.proofs.laws.one_reading.Goals as goal

pub returns-clause-contact : goal.returns-clause-contact
returns-clause-contact c = contact_or_mismatch

pub returns-clause-answer : goal.returns-clause-answer
returns-clause-answer c = answer_or_mismatch

pub returns-clause-one_contact : goal.returns-clause-one_contact
returns-clause-one_contact c = one_contact

pub returns-clause-one_answer : goal.returns-clause-one_answer
returns-clause-one_answer c = one_answer

pub returns-clause-contact_place : goal.returns-clause-contact_place
returns-clause-contact_place c text a b first second = one_mismatch first second

pub returns-clause-answer_place : goal.returns-clause-answer_place
returns-clause-answer_place c text a b first second = one_mismatch first second
