-- The flat structs of an uplink: what each of them spells (this project's profile). A value has one flat struct, and
-- what a value doesn't have is 0 there.
use Rattle.std.specs.Prelude.{◌≡◌, ◌<◌, ℕ, ℤ, pos, List, [], ◌∷◌, length, map, take, Bool, true, false, Option, Some, None, slice_index_or, IfSome, IsSome}
use Rattle.adsc_requests.specs.Grammar.{EncodesUplink, uplink_octets}
use Rattle.adsc_requests.specs.Refusals.{IsFirstUplinkFault}
use Rattle.adsc_requests.specs.declared.message.Intent.{Intent}
use Rattle.adsc_requests.specs.declared.message.Range.{Range}
use Rattle.adsc_requests.specs.declared.message.Moduli.{Moduli}
use Rattle.adsc_requests.specs.declared.message.Limits.{Limits}
use Rattle.adsc_requests.specs.declared.message.Message.{Message}
use Rattle.adsc_requests.specs.declared.message.Message.TheVariants.{CancelAll, Cancel, CancelEmergency, Periodic, Event, Emergency}
use Rattle.adsc_requests.specs.declared.message.Uplink.{Uplink}
use Rattle.adsc_requests.specs.declared.refusal.Refusal.{Refusal}
use Rattle.adsc_requests.specs.Kind.{kind_in}
use Rattle.adsc_requests.specs.declared.kind.Kind.{Kind}
use Rattle.adsc_requests.specs.declared.kind.Kind.TheVariants as kinds
use Rattle.adsc_c.specs.declared.structs.FlatOctet.{FlatOctet}
use Rattle.adsc_c.specs.declared.structs.FlatRate.{FlatRate}
use Rattle.adsc_c.specs.declared.structs.FlatIntent.{FlatIntent}
use Rattle.adsc_c.specs.declared.structs.FlatRange.{FlatRange}
use Rattle.adsc_c.specs.declared.structs.FlatModuli.{FlatModuli}
use Rattle.adsc_c.specs.declared.structs.FlatReporting.{FlatReporting}
use Rattle.adsc_c.specs.declared.structs.FlatLimits.{FlatLimits}
use Rattle.adsc_c.specs.declared.structs.FlatMessage.{FlatMessage}
use Rattle.adsc_c.specs.declared.structs.FlatUplink.{FlatUplink}
use Rattle.adsc_c.specs.declared.structs.FlatUplinkRefusal.{FlatUplinkRefusal}
use Rattle.adsc_c.specs.declared.structs.FlatPayload.{FlatPayload}

-- What was read is a value that the flat struct spells; None says that it spells no value.
pub record Reads {A F : Type 0} (flat_of : A → F) (read : Option A) (flat : F) : Type 0 where
  pub spelled : IfSome read (λ value. flat_of value ≡ flat)
  pub each : (value : A) → flat_of value ≡ flat → IsSome read

-- An octet that may be absent.
abbrev pub flat_octet : Option ℕ → FlatOctet
flat_octet None = record { present = 0; value = 0 }
flat_octet (Some octet) = record { present = 1; value = octet }

-- A vertical rate threshold that may be absent.
abbrev pub flat_rate : Option ℤ → FlatRate
flat_rate None = record { present = 0; value = pos 0 }
flat_rate (Some rate) = record { present = 1; value = rate }

-- An aircraft intent that may be absent.
abbrev pub flat_intent : Option Intent → FlatIntent
flat_intent None = record { present = 0; modulus = 0; minutes = 0 }
flat_intent (Some intent) = record { present = 1; modulus = intent.modulus; minutes = intent.minutes }

-- An altitude range that may be absent.
abbrev pub flat_range : Option Range → FlatRange
flat_range None = record { present = 0; ceiling = pos 0; floor = pos 0 }
flat_range (Some range) = record { present = 1; ceiling = range.ceiling; floor = range.floor }

abbrev pub flat_bool : Bool → ℕ
flat_bool false = 0
flat_bool true = 1

-- The moduli of the groups 12 to 17.
abbrev pub modulus_at : Moduli → ℕ → FlatOctet
modulus_at groups place = flat_octet (slice_index_or groups.m place None)

unfoldable pub flat_moduli : Moduli → FlatModuli
flat_moduli groups =
    record {
      flight_id = modulus_at groups 0;
      route = modulus_at groups 1;
      earth = modulus_at groups 2;
      air = modulus_at groups 3;
      weather = modulus_at groups 4;
      airframe = modulus_at groups 5;
    }

-- Six moduli that are absent.
unfoldable pub no_moduli : FlatModuli
no_moduli =
    record {
      flight_id = flat_octet None;
      route = flat_octet None;
      earth = flat_octet None;
      air = flat_octet None;
      weather = flat_octet None;
      airframe = flat_octet None;
    }

-- What a request for reports asks for: its interval, its moduli and its intent.
unfoldable pub flat_reporting : (Option ℕ × Moduli × Option Intent) → FlatReporting
flat_reporting (interval, groups, intent) =
    record { interval = flat_octet interval; moduli = flat_moduli groups; intent = flat_intent intent }

-- A message asks for no reports.
unfoldable pub no_reporting : FlatReporting
no_reporting = record { interval = flat_octet None; moduli = no_moduli; intent = flat_intent None }

-- What an event request watches.
unfoldable pub flat_limits : Limits → FlatLimits
flat_limits limits =
    record {
      lateral = flat_octet limits.lateral;
      vertical_rate = flat_rate limits.vrate;
      waypoint = flat_bool limits.waypoint;
      range = flat_range limits.range;
    }

-- A message watches nothing.
unfoldable pub no_limits : FlatLimits
no_limits = record { lateral = flat_octet None; vertical_rate = flat_rate None; waypoint = 0; range = flat_range None }

-- A message of this tag and number.
abbrev pub flat_parts : ℕ → ℕ → FlatReporting → FlatLimits → FlatMessage
flat_parts tag number reporting limits =
    record { tag = tag; number = number; reporting = reporting; limits = limits }

-- The flat struct that spells a message.
abbrev pub flat_message : Message → FlatMessage
flat_message CancelAll = flat_parts 1 0 no_reporting no_limits
flat_message (Cancel n) = flat_parts 2 n no_reporting no_limits
flat_message (CancelEmergency n) = flat_parts 6 n no_reporting no_limits
flat_message (Periodic n interval groups intent) =
    flat_parts 7 n (flat_reporting (interval, groups, intent)) no_limits
flat_message (Event n limits) = flat_parts 8 n no_reporting (flat_limits limits)
flat_message (Emergency n interval groups intent) =
    flat_parts 9 n (flat_reporting (interval, groups, intent)) no_limits

-- What stands in the place of a message that an uplink doesn't have.
abbrev pub no_message : FlatMessage
no_message = flat_parts 0 0 no_reporting no_limits

-- What stands at a place of an uplink's flat struct.
abbrev pub flat_at : List Message → ℕ → FlatMessage
flat_at messages place = slice_index_or (map flat_message messages) place no_message

-- At each place below this one stands the message of an uplink, or none behind them all.
abbrev pub AreSpelled : ℕ → List FlatMessage → List Message → Type 0
AreSpelled below flat messages =
    (place : ℕ) → place < below → slice_index_or flat place no_message ≡ flat_at messages place

-- The flat struct that spells an uplink.
abbrev pub flat_uplink : Uplink → FlatUplink
flat_uplink u =
    record {
      count = length u.messages.items;
      messages = flat_at u.messages.items 0 ∷ flat_at u.messages.items 1
          ∷ flat_at u.messages.items 2 ∷ flat_at u.messages.items 3 ∷ [];
    }

-- The flat struct that spells a refusal of a payload.
abbrev pub flat_refusal : Refusal → FlatUplinkRefusal
flat_refusal r = record { bit = r.bit; reason = r.reason; number = r.number; octet = r.octet }

-- The flat struct spells the uplink that the payload encodes.
abbrev pub SpellsUplinkOf : List ℕ → FlatUplink → Type 0
SpellsUplinkOf payload flat = (u : Uplink) × EncodesUplink u payload × (flat ≡ flat_uplink u)

-- The flat struct spells the payload's first fault.
abbrev pub SpellsUplinkFaultOf : List ℕ → FlatUplinkRefusal → Type 0
SpellsUplinkFaultOf payload flat = (r : Refusal) × IsFirstUplinkFault r payload × (flat ≡ flat_refusal r)

-- The number of a kind of contract; a message that asks for none has 0.
abbrev pub kind_number : Option Kind → ℕ
kind_number None = 0
kind_number (Some kinds.Demand) = 1
kind_number (Some kinds.Periodic) = 2
kind_number (Some kinds.Event) = 3
kind_number (Some kinds.Emergency) = 4

-- The octets are a payload that encodes an uplink which the flat struct spells.
abbrev pub EncodesFlatUplink : FlatUplink → List ℕ → Type 0
EncodesFlatUplink flat octets = (u : Uplink) × (flat_uplink u ≡ flat) × (octets ≡ uplink_octets u) × EncodesUplink u octets

-- The octets of a payload's flat struct.
abbrev pub octets_in : FlatPayload → List ℕ
octets_in flat = take flat.count flat.octets

-- The number is that of the kind of contract for which a message that the flat struct spells asks.
abbrev pub IsKindOf : FlatMessage → ℕ → Type 0
IsKindOf flat kind = (m : Message) × (flat_message m ≡ flat) × (kind ≡ kind_number (kind_in m))

-- The flat struct spells a message.
abbrev pub SpellsMessage : FlatMessage → Type 0
SpellsMessage flat = (m : Message) × (flat_message m ≡ flat)
