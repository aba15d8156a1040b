-- Each clause follows from what the reading gives.
use Rattle.adsc_bits.proofs.Taken.{number_found, number_short, number_unmoved}
use Rattle.adsc_bits.proofs.reader.BitReader.take.Goals as goal

pub returns-clause-found : goal.returns-clause-found
returns-clause-found c = number_found (λ e. e.bit) c.args.width c.args.self.now c.field.new.self c.field.result c.field.ensures.gives

pub returns-clause-short : goal.returns-clause-short
returns-clause-short c = number_short (λ e. e.bit) c.args.width c.args.self.now c.field.new.self c.field.result c.field.ensures.gives

pub returns-clause-unmoved : goal.returns-clause-unmoved
returns-clause-unmoved c =
    number_unmoved (λ e. e.bit) c.args.width c.args.self.now c.field.new.self c.field.result c.field.ensures.gives c.field.ensures.unmoved
