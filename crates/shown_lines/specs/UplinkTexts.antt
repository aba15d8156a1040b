-- How the messages of an uplink are shown: a line for each message, and behind it a line for each of its groups, by
-- rising tag. The words are this project's profile; messages, groups and tags are those of RTCA DO-258A / EUROCAE ED-100A.
use Rattle.std.specs.Prelude.{ℕ, ◌+◌, ℤ, Bool, Option, Some, None, if◌then◌else◌, List, [], ◌∷◌, ◌++◌, codes}
use Rattle.adsc_io.specs.Lines.{ended}
use Rattle.contract_rules.specs.Messages.{interval_seconds}
use Rattle.adsc_requests.specs.declared.message.Intent.{Intent}
use Rattle.adsc_requests.specs.declared.message.Limits.{Limits}
use Rattle.adsc_requests.specs.declared.message.Message.{Message}
use Rattle.adsc_requests.specs.declared.message.Message.TheVariants.{CancelAll, Cancel, CancelEmergency, Periodic, Event, Emergency}
use Rattle.adsc_requests.specs.declared.message.Range.{Range}
use Rattle.output_fields.specs.Fields.{number_field}
use Rattle.shown_lines.specs.Fields.{signed_field}

-- ---- groups, where the message has them

-- The lateral deviation threshold (tag 10).
abbrev pub lateral_text : Option ℕ → List ℕ
lateral_text None = []
lateral_text (Some threshold) = ended (codes "lateral" ++ number_field threshold)

-- The reporting interval in seconds (tag 11), also where it is 0 s.
abbrev pub interval_text : Option ℕ → List ℕ
interval_text None = []
interval_text (Some octet) = ended (codes "interval" ++ number_field (interval_seconds octet))

-- A reporting modulus, with the tag of its group.
abbrev pub modulus_text : ℕ → Option ℕ → List ℕ
modulus_text tag None = []
modulus_text tag (Some modulus) = ended (codes "group" ++ number_field tag ++ number_field modulus)

-- Reporting moduli, of which the first belongs to the group of this tag, and each other one to the next tag.
abbrev pub moduli_text : ℕ → List (Option ℕ) → List ℕ
moduli_text tag [] = []
moduli_text tag (modulus ∷ moduli) = modulus_text tag modulus ++ moduli_text (tag + 1) moduli

-- The vertical rate threshold (tag 18).
abbrev pub vrate_text : Option ℤ → List ℕ
vrate_text None = []
vrate_text (Some threshold) = ended (codes "vrate" ++ signed_field threshold)

-- The altitude range (tag 19).
abbrev pub range_text : Option Range → List ℕ
range_text None = []
range_text (Some range) = ended (codes "range" ++ signed_field range.ceiling ++ signed_field range.floor)

-- The change of the active waypoint (tag 20).
abbrev pub waypoint_text : Bool → List ℕ
waypoint_text waypoint = if waypoint then ended (codes "waypoint") else []

-- The aircraft intent (tag 21).
abbrev pub intent_text : Option Intent → List ℕ
intent_text None = []
intent_text (Some intent) = ended (codes "intent" ++ number_field intent.modulus ++ number_field intent.minutes)

-- The groups of a periodic or an emergency periodic request: tags 11, 12 to 17, 21.
unfoldable pub reporting_text : Option ℕ → List (Option ℕ) → Option Intent → List ℕ
reporting_text interval moduli intent = interval_text interval ++ moduli_text 12 moduli ++ intent_text intent

-- The groups of an event request: tags 10, 18, 19, 20.
unfoldable pub limits_text : Limits → List ℕ
limits_text limits = lateral_text limits.lateral ++ vrate_text limits.vrate ++ range_text limits.range ++ waypoint_text limits.waypoint

-- ---- messages

-- A line that is a word and a contract's number.
abbrev pub numbered_text : List ℕ → ℕ → List ℕ
numbered_text word n = ended (word ++ number_field n)

-- The lines of a message. A periodic request that is a demand, because it asks for no interval or for one of 0 s, has the same word.
unfoldable pub message_text : Message → List ℕ
message_text CancelAll = ended (codes "cancel-all")
message_text (Cancel n) = numbered_text (codes "cancel") n
message_text (CancelEmergency n) = numbered_text (codes "cancel-emergency") n
message_text (Periodic n interval groups intent) = numbered_text (codes "periodic") n ++ reporting_text interval groups.m intent
message_text (Event n limits) = numbered_text (codes "event") n ++ limits_text limits
message_text (Emergency n interval groups intent) = numbered_text (codes "emergency") n ++ reporting_text interval groups.m intent
