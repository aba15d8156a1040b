-- What a centre's table tells of the aircraft's contracts, and when a number is reused too early. Contracts and numbers follow RTCA
-- DO-258A / EUROCAE ED-100A; a centre's table is this project's profile.
use Rattle.std.specs.Prelude.{◌≡◌, ◌≢◌, ◌⊎◌, ◌≤◌, ◌<◌, ◌-◌, ◌+◌, ◌==◌, ℕ, cond, List, [], ◌∷◌, ◌++◌, length, Some, slice_get}
use Rattle.adsc_downlink.specs.Items.{ItemData}
use Rattle.adsc_downlink.specs.Items.ItemData.{ack, nack, noncompliance, emergency_off, report}
use Rattle.adsc_requests.specs.Contents.{number_of}
use Rattle.adsc_requests.specs.Kind.{kind_in}
use Rattle.adsc_requests.specs.declared.kind.Kind.{Kind}
use Rattle.adsc_requests.specs.declared.message.Message.{Message}
use Rattle.adsc_requests.specs.declared.message.Message.TheVariants as message
use Rattle.aircraft_core.specs.Downlinks.{AreDownlinks}
use Rattle.aircraft_core.specs.Entries.{line_of}
use Rattle.aircraft_core.specs.JournalActs.{JournalActs, newest_first}
use Rattle.aircraft_core.specs.Setting.{Setting, configuration_of}
use Rattle.aircraft_core.specs.declared.entry.Entry.{Entry}
use Rattle.centre_core.specs.Hearing.{Hearing, Tells}
use Rattle.centre_core.specs.Histories.{row_at}
use Rattle.centre_core.specs.declared.shown.Shown.{Shown}
use Rattle.centre_core.specs.declared.shown.Shown.TheVariants as shown
use Rattle.contract_rules.specs.Acts.{Act, Said}
use Rattle.contract_rules.specs.LiveLinks.{Noted, Accepted}
use Rattle.contract_rules.specs.Messages.{Message as RulesMessage}
use Rattle.contract_rules.specs.Verdicts.{past_of}
use Rattle.contract_table.specs.Acts.{rules_message}
use Rattle.run_rules.specs.Among.{IsAmong}
use Rattle.run_rules.specs.Happenings.{Happening, Asked, Brought, Heard, Carried, Carries, SentMessage, history, sent_messages}
use Rattle.run_rules.specs.Runs.{journal_at}

-- ---- confirmed and accepted

-- A row of the centre shows this request, its number in it, confirmed or partial.
abbrev pub IsShownConfirmed : ℕ → List Happening → Message → Type 0
IsShownConfirmed link log request =
    (kind : Kind) × ((row_at kind (history link log) ≡ shown.Confirmed request) ⊎ (row_at kind (history link log) ≡ shown.Partial request))

-- In this past the message was said on the link and accepted.
abbrev pub HasAccepted : ℕ → RulesMessage → List Noted → Type 0
HasAccepted link asked [] = ⊥
HasAccepted link asked (noted ∷ past) = ((noted.act ≡ Said link asked) × (noted.verdict ≡ Accepted)) ⊎ HasAccepted link asked past

-- In this journal the aircraft accepted the request on the link. It says nothing of what is in force now.
pub record WasAccepted (setting : Setting) (journal : List Entry) (link : ℕ) (request : Message) : Type 0 where
  pub acts : List (List Act)
  pub are_acts : JournalActs setting.first journal acts
  pub accepted : HasAccepted link (rules_message request) (past_of (configuration_of setting) (newest_first acts))

-- ---- which messages bear a number

-- A message bears its number, if it has one; a cancel of all has none.
abbrev pub BearsNumber : ℕ → Message → Type 0
BearsNumber n message.CancelAll = ⊥
BearsNumber n asked = number_of asked ≡ n

-- So does what a centre sent; an answer to a contact bears none.
abbrev pub CarriedBears : ℕ → Carried → Type 0
CarriedBears n (Carries asked) = BearsNumber n asked
CarriedBears n answer = ⊥

-- An acknowledgement, a negative acknowledgement, a noncompliance and an emergency-off bear their number; a report bears none.
abbrev pub ItemBears : ℕ → ItemData → Type 0
ItemBears n (ack m) = m ≡ n
ItemBears n (nack m reason place) = m ≡ n
ItemBears n (noncompliance m) = m ≡ n
ItemBears n (emergency_off m) = m ≡ n
ItemBears n (report one) = ⊥

-- A downlink bears the numbers of its items, and a contact none.
abbrev pub HearingBears : ℕ → Hearing → Type 0
HearingBears n (Tells items) = (item : ItemData) × IsAmong item items × ItemBears n item
HearingBears n hearing = ⊥

-- A row bears the number of its request.
abbrev pub RowBears : ℕ → Shown → Type 0
RowBears n shown.Nothing = ⊥
RowBears n (shown.Pending request) = number_of request ≡ n
RowBears n (shown.Confirmed request) = number_of request ≡ n
RowBears n (shown.Partial request) = number_of request ≡ n
RowBears n (shown.Refused request reason) = number_of request ≡ n
RowBears n (shown.Cancelling request) = number_of request ≡ n

-- ---- no number is reused too early

-- This entry of the journal makes the link's downlink at this place, counted from 1: the place is behind the downlinks of the entries
-- before it, and among those that the entry adds.
pub record MadeDownlink (setting : Setting) (journal : List Entry) (link place : ℕ) (entry : Entry) : Type 0 where
  pub before : List Entry
  pub behind : List Entry
  pub joined : journal ≡ before ++ entry ∷ behind
  pub earlier : List (List ℕ)
  pub through : List (List ℕ)
  pub are_earlier : AreDownlinks setting before link earlier
  pub are_through : AreDownlinks setting (before ++ entry ∷ []) link through
  pub behind_those : length earlier < place
  pub among_these : place ≤ length through

-- When the centre asks by this request, no row of another kind bears its number.
abbrev pub NoOtherRowBears : ℕ → Message → List Happening → Type 0
NoOtherRowBears link request log = (kind : Kind) → kind_in request ≢ Some kind → RowBears (number_of request) (row_at kind (history link log)) → ⊥

-- What is brought at this happening and bears the number of a request was not sent before the line at which the centre asked by it. A
-- message was sent at its line, and a downlink at the line of the entry that made it.
abbrev pub BringsNothingOlder : Setting → List ℕ → ℕ → ℕ → ℕ → Happening → List Happening → Type 0
BringsNothingOlder setting order link line n (Brought other place made) log =
    link ≡ other → (sent : SentMessage) → slice_get (sent_messages link log) (place - 1) ≡ Some sent → CarriedBears n sent.carried → line ≤ sent.line
BringsNothingOlder setting order link line n (Heard number other place hearing) log =
    link ≡ other → HearingBears n hearing → (entry : Entry) → MadeDownlink setting (journal_at order log) link place entry → line ≤ line_of entry
BringsNothingOlder setting order link line n happening log = Unit {0}

-- No number of the centre is reused too early: when it asks, no row of another kind bears the request's number; and no message on its
-- link, up or down, that bears it and was sent before is brought afterwards.
pub record NoEarlyReuse (setting : Setting) (order : List ℕ) (link : ℕ) (log : List Happening) : Type 0 where
  pub rows : (later : List Happening) (line : ℕ) (request : Message) (earlier : List Happening)
      → log ≡ later ++ Asked line link request ∷ earlier → NoOtherRowBears link request earlier
  pub messages : (later : List Happening) (happening : Happening) (earlier : List Happening) (line : ℕ) (request : Message)
      → log ≡ later ++ happening ∷ earlier → IsAmong (Asked line link request) earlier
      → BringsNothingOlder setting order link line (number_of request) happening earlier

-- How often the centre asked.
abbrev pub ask_count : ℕ → List Happening → ℕ
ask_count link [] = 0
ask_count link (Asked line other request ∷ log) = cond (link == other) 1 0 + ask_count link log
ask_count link (happening ∷ log) = ask_count link log
