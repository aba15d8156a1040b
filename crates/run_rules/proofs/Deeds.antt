-- What happened in a flight was done by lines, each by its rule. It serves the proofs of the laws: what the definitions of a run say
-- line by line, said of the log that they leave.
use Rattle.std.specs.Prelude.{◌≡◌, ◌<◌, ◌≤◌, ◌-◌, ◌^◌, ◌+◌, ℕ, false, List, [], ◌∷◌, length, Some, Ok, slice_get}
use Rattle.std.specs.List.{AllByRecursion}
use Rattle.std.specs.Option.{ForSome}
use Rattle.hex.specs.Hex.{IsBytes}
use Rattle.acars_envelope.specs.Names.{IsAddress, IsFlight, IsRegistration}
use Rattle.adsc_requests.specs.declared.message.Message.{Message}
use Rattle.aircraft_core.specs.Downlinks.{AreDownlinks}
use Rattle.aircraft_core.specs.Entries.{IsTakenBy, line_of}
use Rattle.aircraft_core.specs.Setting.{Setting, address_of}
use Rattle.aircraft_core.specs.declared.entry.Entry.{Entry}
use Rattle.aircraft_core.specs.declared.entry.Entry.TheVariants as entry
use Rattle.centre_core.specs.Hearing.{Hearing, Says}
use Rattle.centre_core.specs.Histories.{next_number_at, table_at}
use Rattle.centre_core.specs.Tables.{request_or_refusal}
use Rattle.net_script.specs.Addresses.{AreDifferent}
use Rattle.net_script.specs.Forms.{IsRequestText}
use Rattle.run_rules.specs.Happenings.{Happening, Entered, Refused, Asked, Cancelled, Brought, Heard, SentMessage, history, is_centre, is_raw, sent_messages}
use Rattle.run_rules.specs.Lines.{cancel_step, entry_with}
use Rattle.run_rules.specs.Runs.{journal_at}
use Rattle.run_rules.specs.Stages.{does}

-- What the head of a script makes: 1 to 64 addresses, all different; a registration and a flight; an airframe's address of 24 bits; and
-- the connection is kept for one of the addresses, if for any.
pub record IsSettled (setting : Setting) : Type 0 where
  pub registration : IsRegistration setting.registration
  pub flight : IsFlight setting.flight
  pub airframe : setting.airframe < 2 ^ 24
  pub some : 1 ≤ length setting.addresses
  pub few : length setting.addresses ≤ 64
  pub addresses : AllByRecursion IsAddress setting.addresses
  pub different : AreDifferent setting.addresses
  pub kept : ForSome setting.kept (λ link. link < length setting.addresses)

-- The link is the aircraft's, and its address isn't raw.
pub record IsCentreLink (setting : Setting) (log : List Happening) (link : ℕ) : Type 0 where
  pub inside : link < length setting.addresses
  pub role : is_raw link log ≡ false

-- A text that makes this entry was taken: its octets are bytes, and its address isn't a centre's.
abbrev pub IsTakenText : List Happening → Entry → Type 0
IsTakenText log (entry.Uplink line link octets) = IsBytes octets.items × (is_centre link log ≡ false)
IsTakenText log (entry.Answer line link code) = is_centre link log ≡ false
IsTakenText log made = Unit {0}

-- This line made an entry of its own.
pub record MadeEntry (setting : Setting) (line : ℕ) (log : List Happening) (made : Entry) : Type 0 where
  pub of_line : line_of made ≡ line
  pub taken : IsTakenBy setting made
  pub text : IsTakenText log made

-- A centre asked by this request, which a line asked for and which got the next number.
pub record MadeAsk (setting : Setting) (log : List Happening) (link : ℕ) (request : Message) : Type 0 where
  pub centre : IsCentreLink setting log link
  pub asked : Message
  pub text : List ℕ
  pub is_request : IsRequestText asked text
  pub sent : request_or_refusal asked (next_number_at (history link log)) (table_at (history link log)) ≡ Ok request

-- A centre's message was brought, as this entry.
pub record MadeBringing (setting : Setting) (line : ℕ) (log : List Happening) (link place : ℕ) (made : Entry) : Type 0 where
  pub centre : IsCentreLink setting log link
  pub sent : SentMessage
  pub there : slice_get (sent_messages link log) (place - 1) ≡ Some sent
  pub entry : made ≡ entry_with line link sent.carried

-- A downlink was heard: it stands at this place among those of the journal so far, and says this.
pub record MadeHearing (order : List ℕ) (setting : Setting) (log : List Happening) (link place : ℕ) (hearing : Hearing) : Type 0 where
  pub centre : IsCentreLink setting log link
  pub some : 1 ≤ place
  pub texts : List (List ℕ)
  pub text : List ℕ
  pub are_downlinks : AreDownlinks setting (journal_at order log) link texts
  pub there : slice_get texts (place - 1) ≡ Some text
  pub says : Says (address_of setting link) setting.registration text hearing

-- The happening is the deed of this line, by its rule, after this log.
abbrev pub IsDeed : List ℕ → Setting → ℕ → List Happening → Happening → Type 0
IsDeed order setting line log (Entered made) = MadeEntry setting line log made
IsDeed order setting line log (Refused refused) = refused.line ≡ line
IsDeed order setting line log (Asked number link request) = (number ≡ line) × MadeAsk setting log link request
IsDeed order setting line log (Cancelled number link cancel message) =
    (number ≡ line) × IsCentreLink setting log link
    × (cancel_step (history link log) number link cancel ≡ does (Cancelled number link cancel message ∷ []))
IsDeed order setting line log (Brought link place made) = (1 ≤ place) × MadeBringing setting line log link place made
IsDeed order setting line log (Heard number link place hearing) = (number ≡ line) × MadeHearing order setting log link place hearing

-- Before which line all that stands in the log before this happening of the line was done: before the line itself; but the refusal of
-- a malformed payload stands after the entry that it made.
abbrev pub bound_before : ℕ → Happening → ℕ
bound_before line (Refused refused) = line + 1
bound_before line happening = line

-- The happenings of the log are deeds of lines behind the head and below this number, in their order.
abbrev pub AreDeeds : List ℕ → Setting → ℕ → List Happening → Type 0
AreDeeds order setting number [] = Unit {0}
AreDeeds order setting number (happening ∷ log) =
    (line : ℕ) × (4 ≤ line) × (line < number) × IsDeed order setting line log happening
    × AreDeeds order setting (bound_before line happening) log
