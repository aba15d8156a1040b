-- What the fields of an aircraft without a journal stand for, and what they keep.
use Rattle.std.specs.Prelude.{◌≡◌, length}
use Rattle.aircraft_core.specs.declared.live.LiveCraft.TheInside.{Inside}
use Rattle.aircraft_core.specs.LiveAircraft.{LiveAircraft}
use Rattle.aircraft_core.specs.Taking.{IsTableOf}

abbrev pub live_of : Inside → LiveAircraft
live_of craft = record {
  setting = craft.setup;
  latest = craft.latest;
  table = craft.table;
  logons = craft.logons.items;
  outboxes = craft.outboxes.items;
}

-- The table is one of its setting, and each link has an outbox and a logon.
pub record FitsSetting (craft : Inside) : Type 0 where
  pub table : IsTableOf craft.setup craft.table
  pub outboxes : length craft.outboxes.items ≡ length craft.setup.addresses
  pub logons : length craft.logons.items ≡ length craft.setup.addresses
