-- The bits that are left, by the fields.
use Rattle.std.proofs.Common.{arith, ap}
use Rattle.adsc_bits.proofs.Unreads.{length_unread}
use Rattle.adsc_bits.proofs.reader.BitReader.bit.Goals as goal

pub returns-clause-within : goal.returns-clause-within
returns-clause-within c =
    omega (arith, length_unread c.self.inside.pending c.self.inside.partial c.self.inside.rest.now c.args.self.now.left (ap (λ u. u.left) c.self.view_is), ap (λ u. u.at) c.self.view_is)
