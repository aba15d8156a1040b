use Rattle.acars_envelope.proofs.EnvelopeLaws.{first_of, none_of, right_of}
use Rattle.acars_envelope.proofs.reader.unseal.Goals as goal

pub returns-clause-right : goal.returns-clause-right
returns-clause-right c = right_of c.args.text.now c.read_envelope.result c.read_envelope.ensures.found c.read_envelope.ensures.fault

pub returns-clause-none : goal.returns-clause-none
returns-clause-none c = none_of c.args.text.now c.read_envelope.result c.read_envelope.ensures.fault

pub returns-clause-first : goal.returns-clause-first
returns-clause-first c = first_of c.args.text.now c.read_envelope.result c.read_envelope.ensures.found c.read_envelope.ensures.fault
