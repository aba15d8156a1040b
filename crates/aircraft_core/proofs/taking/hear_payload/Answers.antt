use Rattle.std.proofs.Common.{inl, refl}
use Rattle.aircraft_core.specs.Taking.{said_on}
use Rattle.aircraft_core.proofs.taking.hear_payload.Goals as goal

pub returns-in-Ok-clause-heard : goal.returns-in-Ok-clause-heard
returns-in-Ok-clause-heard c = record {
  acts = said_on c.args.link c.in-Ok.uplink.messages.items;
  are_acts = inl (c.in-Ok.uplink, c.in-Ok.ensures.uplink, refl);
  told = rw c.as_slice.ensures.value at c.hear.ensures.told;
  written = rw c.as_slice.ensures.value at c.hear.ensures.written;
}
