use Rattle.flight_samples.proofs.DecimalTexts.{one_integer_text, one_natural_text}
use Rattle.flight_samples.proofs.laws.a_number_has_one_text.Goals as goal

pub returns-clause-natural : goal.returns-clause-natural
returns-clause-natural c = one_natural_text

pub returns-clause-integer : goal.returns-clause-integer
returns-clause-integer c = one_integer_text
