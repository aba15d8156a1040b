-- What a line of a script does, in the log of what happened before it (this project's profile).
use Rattle.std.specs.Prelude.{ℕ, ◌-◌, List, [], ◌∷◌, length, Option, Some, None, Result, Ok, Err, slice_get, if◌then◌else◌}
use Rattle.adsc_requests.specs.declared.message.Message.{Message}
use Rattle.adsc_requests.specs.declared.message.Message.TheVariants as message
use Rattle.adsc_requests.specs.declared.kind.Kind.TheVariants as kinds
use Rattle.afn_logon.specs.Makings.{answer_to}
use Rattle.aircraft_core.specs.Setting.{Setting}
use Rattle.aircraft_core.specs.declared.entry.Entry.{Entry}
use Rattle.aircraft_core.specs.declared.entry.Entry.TheVariants.{Uplink, Answer, Sample, Tick, Crew, Logon}
use Rattle.centre_core.specs.Events.{CentreEvent}
use Rattle.centre_core.specs.Histories.{next_number_at, row_at, table_at}
use Rattle.centre_core.specs.Sending.{message_payload}
use Rattle.centre_core.specs.Tables.{mode_cancel_number, number_to_cancel, request_or_refusal}
use Rattle.centre_core.specs.declared.refusal.AskRefused.{AskRefused}
use Rattle.centre_core.specs.declared.refusal.AskRefused.TheVariants.{NotLoggedOn, Waiting}
use Rattle.net_script.specs.declared.line.Cancel.{Cancel}
use Rattle.net_script.specs.declared.line.Cancel.TheVariants.{Of, EmergencyMode, All}
use Rattle.net_script.specs.declared.line.ScriptLine.{ScriptLine}
use Rattle.net_script.specs.declared.line.ScriptLine.TheVariants as line
use Rattle.net_script.specs.declared.refusal.Code.TheVariants as code
use Rattle.run_rules.specs.Happenings.{Happening, Asked, Cancelled, Brought, Carried, Carries, Answers, SentMessage, history, is_raw, sent_messages}
use Rattle.run_rules.specs.Stages.{Stage, begun, named, linked, flying, Step, does, receives, stops, enters}
use Rattle.run_rules.specs.Texts.{link_to, text_step}
use Rattle.run_rules.specs.declared.reading.Reading.{Reading}
use Rattle.run_rules.specs.declared.reading.Reading.TheVariants.{Bad, Says, Brings}

-- ---- addresses and roles

-- A line with this address: it does what it does on the address's link; an address that isn't listed is bad, in the field of number 1.
abbrev pub on_link : Setting → List ℕ → (ℕ → Step) → Step
on_link setting address step = elim (link_to setting address) [
  | None ↦ stops code.Address 1
  | Some link ↦ step link
]

-- A line of a centre: an address whose texts were taken has the other role.
abbrev pub as_centre : Setting → List Happening → List ℕ → (ℕ → Step) → Step
as_centre setting log address step = on_link setting address (λ link. if is_raw link log then stops code.Role 0 else step link)

-- ---- what a centre does

-- A request that is sent, or why it isn't.
abbrev pub asking_step : ℕ → ℕ → Result Message AskRefused → Step
asking_step number link (Ok request) = does (Asked number link request ∷ [])
asking_step number link (Err NotLoggedOn) = stops code.Logon 0
asking_step number link (Err (Waiting n)) = stops code.Waiting n

-- The centre of this link asks by this request, which gets the next number.
abbrev pub ask_step : List CentreEvent → ℕ → ℕ → Message → Step
ask_step w number link request = asking_step number link (request_or_refusal request (next_number_at w) (table_at w))

-- The centre cancels so by the message that bears this number, if there is something to cancel.
abbrev pub cancelling_step : ℕ → ℕ → Cancel → Option ℕ → Step
cancelling_step number link cancel None = stops code.Nothing 0
cancelling_step number link cancel (Some n) = does (Cancelled number link cancel (message.Cancel n) ∷ [])

-- The centre of this link cancels.
abbrev pub cancel_step : List CentreEvent → ℕ → ℕ → Cancel → Step
cancel_step w number link (Of kind) = cancelling_step number link (Of kind) (number_to_cancel (row_at kind w))
cancel_step w number link EmergencyMode =
    does (Cancelled number link EmergencyMode (message.CancelEmergency (mode_cancel_number (row_at kinds.Emergency w))) ∷ [])
cancel_step w number link All = does (Cancelled number link All message.CancelAll ∷ [])

-- The entry that a centre's message makes, when it is brought to the aircraft at this line: an uplink with its payload, or an answer
-- with its code.
abbrev pub entry_with : ℕ → ℕ → Carried → Entry
entry_with number link (Carries asked) = Uplink number link (record { items = message_payload asked })
entry_with number link (Answers contact) = Answer number link (answer_to contact).code

-- A centre's message is brought, if there is one at this place, counted from 1; these are all that it sent.
abbrev pub bringing_step : ℕ → ℕ → ℕ → List SentMessage → Option SentMessage → Step
bringing_step number link place sent None = stops code.Number (length sent)
bringing_step number link place sent (Some one) = does (Brought link place (entry_with number link one.carried) ∷ [])

-- The message at this place of the centre of this link is brought to the aircraft.
abbrev pub bring_step : List SentMessage → ℕ → ℕ → ℕ → Step
bring_step sent number link place = bringing_step number link place sent (slice_get sent (place - 1))

-- ---- lines

-- What a line behind the head does, a row for each letter. Texts have rules of their own. A line of the head's letters is bad before
-- what it says is looked at, so it never comes here.
abbrev pub flight_step : Setting → List Happening → ℕ → ScriptLine → Step
flight_step setting log number (line.S sample) = enters (Sample number sample)
flight_step setting log number (line.T moment) = enters (Tick number moment)
flight_step setting log number (line.E on) = enters (Crew number on)
flight_step setting log number (line.L address) = on_link setting address (λ link. enters (Logon number link))
flight_step setting log number (line.C address request) = as_centre setting log address (λ link. ask_step (history link log) number link request)
flight_step setting log number (line.K address cancel) = as_centre setting log address (λ link. cancel_step (history link log) number link cancel)
flight_step setting log number (line.B address place) = as_centre setting log address (λ link. bring_step (sent_messages link log) number link place)
flight_step setting log number (line.R address place) = as_centre setting log address (λ link. receives setting link place)
flight_step setting log number (line.A who) = stops code.Kind 0
flight_step setting log number (line.G addresses reserved) = stops code.Kind 0
flight_step setting log number (line.U from) = stops code.Kind 0

-- What a line does that isn't bad by itself and brings no text: the three lines of the head make no happening.
abbrev pub line_step : Stage → List Happening → ℕ → ScriptLine → Step
line_step begun log number (line.A who) = does []
line_step (named who) log number (line.G addresses reserved) = does []
line_step (linked who addresses kept) log number (line.S sample) = does []
line_step (flying setting) log number value = flight_step setting log number value
line_step stage log number value = stops code.Head 0

-- What the line of this number does that is read so. A text stands behind the head alone.
abbrev pub step_of : Stage → List Happening → ℕ → Reading → Step
step_of stage log number (Bad found value) = stops found value
step_of stage log number (Says value) = line_step stage log number value
step_of (flying setting) log number (Brings reading) = text_step setting log number reading
step_of stage log number (Brings reading) = stops code.Head 0
