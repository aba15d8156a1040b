-- What a report takes from a flight sample and from who the aircraft is (RTCA DO-258A / EUROCAE ED-100A; the columns are this
-- project's profile). The columns that are never below 0 are numbers of their fields.
use Rattle.std.specs.Prelude.{ℕ, ◌+◌, ◌-◌, ◌==◌, ℤ, pos, nat_abs, nat_le, Bool, true, false, List, [], ◌∷◌, ◌++◌, length, map, replicate, if◌then◌else◌}
use Rattle.flight_samples.specs.declared.sample.Sample.{Sample}
use Rattle.adsc_groups.specs.Basic.{BasicData}
use Rattle.adsc_groups.specs.Groups.{GroupData}
use Rattle.adsc_downlink.specs.Items.{ItemData}
use Rattle.adsc_downlink.specs.Items.ItemData.{ack, nack, noncompliance, emergency_off, report}
use Rattle.contract_rules.specs.Due.{Item, Acknowledgement, NegativeAcknowledgement, Noncompliance, EmergencyOff, Report}
use Rattle.aircraft_core.specs.Setting.{Setting}

-- the basic data of a report on this sample
abbrev pub basic_data_of : Sample → BasicData
basic_data_of sample = record {
  lat = sample.lat;
  lon = sample.lon;
  alt = sample.alt;
  sec = nat_abs sample.sec;
  tcas = nat_abs sample.tcas;
  accuracy = nat_abs sample.acc;
  redundancy = nat_abs sample.red;
}

-- the code of a character of a flight: `A` to `Z` are 1 to 26, `0` to `9` are 48 to 57
abbrev pub flight_code : ℕ → ℕ
flight_code character = if nat_le 65 character then character - 64 else character

-- a flight's eight characters: its own, and then spaces, whose code is 32
abbrev pub flight_codes : List ℕ → List ℕ
flight_codes flight = map flight_code flight ++ replicate (8 - length flight) 32

-- The values of a group, by its tag, on this sample: flight identification, predicted route, earth reference, air reference,
-- meteorological data, airframe identification.
abbrev pub group_values : Setting → Sample → ℕ → List ℤ
group_values setting sample tag =
    if tag == 12 then map pos (flight_codes setting.flight)
    else if tag == 13 then sample.wlat ∷ sample.wlon ∷ sample.walt ∷ sample.eta ∷ sample.nlat ∷ sample.nlon ∷ sample.nalt ∷ []
    else if tag == 14 then sample.tinv ∷ sample.track ∷ sample.gs ∷ sample.vr ∷ []
    else if tag == 15 then sample.hinv ∷ sample.heading ∷ sample.mach ∷ sample.vr ∷ []
    else if tag == 16 then sample.wind ∷ sample.winv ∷ sample.wdir ∷ sample.temp ∷ []
    else pos setting.airframe ∷ []

abbrev pub group_on : Setting → Sample → ℕ → GroupData
group_on setting sample tag = record { tag = tag; values = group_values setting sample tag }

-- the groups of a report by rising tag, where these flags say for each tag from this one on whether it has that group
abbrev pub groups_from : Setting → Sample → ℕ → List Bool → List GroupData
groups_from setting sample tag [] = []
groups_from setting sample tag (true ∷ flags) = group_on setting sample tag ∷ groups_from setting sample (tag + 1) flags
groups_from setting sample tag (false ∷ flags) = groups_from setting sample (tag + 1) flags

-- an item that is due, with its data
abbrev pub item_on : Setting → Sample → Item → ItemData
item_on setting sample (Acknowledgement number) = ack number
item_on setting sample (NegativeAcknowledgement number reason octet) = nack number reason octet
item_on setting sample (Noncompliance number) = noncompliance number
item_on setting sample (EmergencyOff number) = emergency_off number
item_on setting sample (Report tag flags) = report (record { tag = tag; basic = basic_data_of sample; groups = groups_from setting sample 12 flags })
