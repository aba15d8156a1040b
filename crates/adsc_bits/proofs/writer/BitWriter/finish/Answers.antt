-- No bits are left over.
use Rattle.adsc_bits.proofs.Written.{written_whole}
use Rattle.adsc_bits.proofs.writer.BitWriter.finish.Goals as goal

pub returns-clause-bits : goal.returns-clause-bits
returns-clause-bits c = written_whole _ _ _ _ c.self.view_is c.self.invariant.0 c.requires

pub returns-clause-octets : goal.returns-clause-octets
returns-clause-octets c =
    let whole = written_whole _ _ _ _ c.self.view_is c.self.invariant.0 c.requires in
    cc (c.octets_are_spelled.ensures, c.as_slice.ensures.value)
