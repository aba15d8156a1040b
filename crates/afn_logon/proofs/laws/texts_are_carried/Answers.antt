-- Each piece of a text is short and printable.
use Rattle.afn_logon.proofs.SizeLaws.{answer_is_carried, answer_piece, contact_is_carried, contact_piece}
use Rattle.afn_logon.proofs.laws.texts_are_carried.Goals as goal

pub returns-clause-contact_size : goal.returns-clause-contact_size
returns-clause-contact_size c = λ d is. (contact_piece d is).few

pub returns-clause-answer_size : goal.returns-clause-answer_size
returns-clause-answer_size c = λ a is. (answer_piece a is).few

pub returns-clause-contact : goal.returns-clause-contact
returns-clause-contact c = contact_is_carried

pub returns-clause-answer : goal.returns-clause-answer
returns-clause-answer c = answer_is_carried
