-- Each clause follows from what the reading gives.
use Rattle.adsc_bits.proofs.Taken.{signed_found, signed_short, signed_unmoved}
use Rattle.adsc_bits.proofs.reader.BitReader.take_signed.Goals as goal

pub returns-clause-found : goal.returns-clause-found
returns-clause-found c =
    signed_found (λ e. e.bit) c.args.width c.args.self.now c.signed_field.new.self c.signed_field.result c.requires.0 c.signed_field.ensures.gives

pub returns-clause-short : goal.returns-clause-short
returns-clause-short c = signed_short (λ e. e.bit) c.args.width c.args.self.now c.signed_field.new.self c.signed_field.result c.signed_field.ensures.gives

pub returns-clause-unmoved : goal.returns-clause-unmoved
returns-clause-unmoved c =
    signed_unmoved (λ e. e.bit) c.args.width c.args.self.now c.signed_field.new.self c.signed_field.result c.signed_field.ensures.gives
    c.signed_field.ensures.unmoved
