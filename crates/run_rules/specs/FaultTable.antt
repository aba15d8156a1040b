-- The faults of a line by what stands before it, as a table (this project's profile). A line is bad by the first row
-- that applies. This is a second opinion beside what a line does, letter by letter.
use Rattle.std.specs.Prelude.{◌≡◌, ◌↔◌, ◌⊎◌, ◌<◌, ◌≤◌, ℕ, Bool, true, false, List, [], ◌∷◌, length, Ok, Some}
use Rattle.adsc_requests.specs.Contents.{number_of}
use Rattle.adsc_requests.specs.Kind.{kind_in}
use Rattle.adsc_requests.specs.declared.kind.Kind.{Kind}
use Rattle.adsc_requests.specs.declared.message.Message.{Message}
use Rattle.afn_logon.specs.declared.answer.Answer.{Answer as LogonAnswer}
use Rattle.aircraft_core.specs.Downlinks.{AreDownlinks}
use Rattle.aircraft_core.specs.Setting.{Setting}
use Rattle.centre_core.specs.Histories.{row_at, was_contacted}
use Rattle.centre_core.specs.declared.shown.Shown.{Shown}
use Rattle.centre_core.specs.declared.shown.Shown.TheVariants as shown
use Rattle.ground_texts.specs.declared.ground_text.GroundText.TheVariants as text
use Rattle.net_script.specs.declared.line.Cancel.TheVariants.{Of}
use Rattle.net_script.specs.declared.line.ScriptLine.TheVariants as line
use Rattle.net_script.specs.declared.refusal.Code.{Code}
use Rattle.net_script.specs.declared.refusal.Code.TheVariants as code
use Rattle.run_rules.specs.Among.{IsAmong}
use Rattle.run_rules.specs.Happenings.{Happening, history, is_centre, is_raw, sent_messages}
use Rattle.run_rules.specs.Readings.{ReadsLine}
use Rattle.run_rules.specs.Runs.{LinesRun, Run, journal_at}
use Rattle.run_rules.specs.Stages.{flying}
use Rattle.run_rules.specs.Texts.{link_to}
use Rattle.run_rules.specs.declared.end.End.TheVariants.{Bad as EndsBad}
use Rattle.run_rules.specs.declared.reading.Reading.{Reading}
use Rattle.run_rules.specs.declared.reading.Reading.TheVariants.{Bad, Brings, Says}

-- ---- what a line names

-- The line has this address: it is an `L`, `C`, `K`, `B` or `R` line.
abbrev pub HasAddress : Reading → List ℕ → Type 0
HasAddress (Says (line.L address)) named = address ≡ named
HasAddress (Says (line.C address request)) named = address ≡ named
HasAddress (Says (line.K address cancel)) named = address ≡ named
HasAddress (Says (line.B address place)) named = address ≡ named
HasAddress (Says (line.R address place)) named = address ≡ named
HasAddress reading named = ⊥

-- The line is one of the centre at the address of this link: a `C`, `K`, `B` or `R` line.
abbrev pub IsOfCentre : Setting → Reading → ℕ → Type 0
IsOfCentre setting (Says (line.C address request)) link = link_to setting address ≡ Some link
IsOfCentre setting (Says (line.K address cancel)) link = link_to setting address ≡ Some link
IsOfCentre setting (Says (line.B address place)) link = link_to setting address ≡ Some link
IsOfCentre setting (Says (line.R address place)) link = link_to setting address ≡ Some link
IsOfCentre setting reading link = ⊥

-- The line is a text that is taken on this link: an uplink for the aircraft, or an answer to its logon.
abbrev pub IsTakenText : Setting → Reading → ℕ → Type 0
IsTakenText setting (Brings (text.Ads uplink)) link =
    (link_to setting uplink.address ≡ Some link) × (uplink.registration ≡ setting.registration)
IsTakenText setting (Brings (text.Afn notice)) link =
    (answer : LogonAnswer) × (link_to setting notice.address ≡ Some link) × (notice.answer ≡ Ok answer)
    × (answer.registration ≡ setting.registration)
IsTakenText setting reading link = ⊥

-- The line asks by this request, is a cancel of this kind, or names this place.
abbrev pub AsksBy : Reading → Message → Type 0
AsksBy (Says (line.C address request)) asked = request ≡ asked
AsksBy reading asked = ⊥

abbrev pub CancelsKind : Reading → Kind → Type 0
CancelsKind (Says (line.K address (Of kind))) cancelled = kind ≡ cancelled
CancelsKind reading cancelled = ⊥

-- There are so many things of the kind that the line brings: messages that the centre sent, or downlinks of its link.
abbrev pub BringsOneOf : Setting → List ℕ → List Happening → Reading → ℕ → ℕ → ℕ → Type 0
BringsOneOf setting order log (Says (line.B address place)) link count named =
    (length (sent_messages link log) ≡ count) × (place ≡ named)
BringsOneOf setting order log (Says (line.R address place)) link count named =
    (texts : List (List ℕ)) × AreDownlinks setting (journal_at order log) link texts × (length texts ≡ count)
    × (place ≡ named)
BringsOneOf setting order log reading link count named = ⊥

-- The row has a contract that can be cancelled: it is pending, confirmed or partial.
abbrev pub CanBeCancelled : Shown → Type 0
CanBeCancelled (shown.Pending request) = Unit {0}
CanBeCancelled (shown.Confirmed request) = Unit {0}
CanBeCancelled (shown.Partial request) = Unit {0}
CanBeCancelled row = ⊥

-- ---- the table

-- The row of this code applies to a line behind these happenings, and it has this value.
abbrev pub Applies : Setting → List ℕ → List Happening → Reading → Code → ℕ → Type 0
-- its address isn't listed
Applies setting order log reading code.Address value =
    (value ≡ 1) × (address : List ℕ) × HasAddress reading address × (IsAmong address setting.addresses → ⊥)
-- its address has the other role: a centre's line has one that is raw, or a text that is taken has one that is a
-- centre's
Applies setting order log reading code.Role value =
    (value ≡ 0) × (link : ℕ)
    × ((IsOfCentre setting reading link × (is_raw link log ≡ true))
    ⊎ (IsTakenText setting reading link × (is_centre link log ≡ true)))
-- it names no message and no downlink: there are fewer
Applies setting order log reading code.Number value =
    (link : ℕ) × (place : ℕ) × IsOfCentre setting reading link
    × BringsOneOf setting order log reading link value place × (value < place)
-- it asks where no contact was heard
Applies setting order log reading code.Logon value =
    (value ≡ 0) × (link : ℕ) × (request : Message) × IsOfCentre setting reading link × AsksBy reading request
    × (was_contacted (history link log) ≡ false)
-- it asks by a request of a kind that is pending, under this number
Applies setting order log reading code.Waiting value =
    (link : ℕ) × (request : Message) × (kind : Kind) × (pending : Message) × IsOfCentre setting reading link
    × AsksBy reading request × (kind_in request ≡ Some kind)
    × (row_at kind (history link log) ≡ shown.Pending pending) × (number_of pending ≡ value)
-- it cancels a kind of which there is nothing to cancel
Applies setting order log reading code.Nothing value =
    (value ≡ 0) × (link : ℕ) × (kind : Kind) × IsOfCentre setting reading link × CancelsKind reading kind
    × (CanBeCancelled (row_at kind (history link log)) → ⊥)
Applies setting order log reading found value = ⊥

-- The rows in the order in which a line is judged.
abbrev pub rows : List Code
rows = code.Address ∷ code.Role ∷ code.Number ∷ code.Logon ∷ code.Waiting ∷ code.Nothing ∷ []

-- Of rows the first that applies has this code and this value.
abbrev pub IsFirstOf : (Code → ℕ → Type 0) → List Code → Code → ℕ → Type 0
IsFirstOf Row [] found value = ⊥
IsFirstOf Row (first ∷ others) found value =
    ((found ≡ first) × Row first value) ⊎ (((other : ℕ) → Row first other → ⊥) × IsFirstOf Row others found value)

-- The first fault of a line: the one of its form, if it has one, and else the first row that applies.
abbrev pub IsFirstFault : Setting → List ℕ → List Happening → Reading → Code → ℕ → Type 0
IsFirstFault setting order log (Bad one amount) found value = (found ≡ one) × (value ≡ amount)
IsFirstFault setting order log reading found value = IsFirstOf (Applies setting order log reading) rows found value

-- A run that comes to a line behind the head ends there, with a bad line, exactly where the line has a fault, and by
-- its first one.
abbrev pub FirstFaultStops : Type 0
FirstFaultStops = (over : Bool) (setting : Setting) (order : List ℕ) (log : List Happening) (number : ℕ) (bytes : List ℕ)
    (reading : Reading) (readings : List Reading) (run : Run) (found : Code) (value : ℕ)
    → 4 ≤ number → ReadsLine number bytes reading
    → LinesRun over order (flying setting) log number (reading ∷ readings) run
    → (run.end ≡ EndsBad (record { line = number; code = found; value = value }))
    ↔ IsFirstFault setting order log reading found value
