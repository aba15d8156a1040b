-- The output of a run, as bytes. Its form is this project's profile; numbers are decimal, and each line ends with a newline.
use Rattle.std.specs.Prelude.{◌≡◌, ℕ, ◌+◌, cond, List, [], ◌∷◌, ◌++◌, codes, flat_map, Option, Some, None}
use Rattle.adsc_io.specs.Lines.{ended}
use Rattle.hex.specs.Hex.{encode_upper}
use Rattle.net_script.specs.declared.refusal.BadLine.{BadLine}
use Rattle.net_script.specs.declared.refusal.Code.{Code}
use Rattle.net_script.specs.declared.refusal.Code.TheVariants as code
use Rattle.adsc_requests.specs.declared.kind.Kind.{Kind}
use Rattle.adsc_requests.specs.declared.kind.Kind.TheVariants.{Demand, Periodic, Event, Emergency}
use Rattle.adsc_requests.specs.declared.message.Message.{Message}
use Rattle.afn_logon.specs.declared.logon.Logon.{Logon}
use Rattle.afn_logon.specs.declared.logon.Logon.TheVariants.{Nothing, Sent, Accepted, Rejected}
use Rattle.aircraft_core.specs.declared.entry.Entry.{Entry}
use Rattle.aircraft_core.specs.Downlinks.{AreDownlinks}
use Rattle.aircraft_core.specs.LogonStates.{logon_state}
use Rattle.aircraft_core.specs.Setting.{Setting}
use Rattle.centre_core.specs.Histories.{row_at}
use Rattle.centre_core.specs.Sending.{message_payload}
use Rattle.centre_core.specs.declared.shown.Shown.{Shown}
use Rattle.centre_core.specs.declared.shown.Shown.TheVariants as shown
use Rattle.output_fields.specs.Fields.{number_field}
use Rattle.output_fields.specs.Faults.{envelope_fault_fields, request_fault_fields}
use Rattle.run_rules.specs.Happenings.{Happening, history, is_centre, refused_lines}
use Rattle.run_rules.specs.Runs.{Run, journal_at}
use Rattle.run_rules.specs.declared.end.End.{End}
use Rattle.run_rules.specs.declared.end.End.TheVariants.{Done, Bad, Limit}
use Rattle.run_rules.specs.declared.refused.RefusedLine.{RefusedLine}
use Rattle.run_rules.specs.declared.refused.RefusedWhy.{RefusedWhy}
use Rattle.run_rules.specs.declared.refused.RefusedWhy.TheVariants as why

-- the journal line: `J`, then for each entry in the order in which they were taken a comma and the number of the line that brought it
abbrev pub journal_line : List ℕ → List ℕ
journal_line order = ended (codes "J" ++ flat_map number_field order)

-- ---- the lines of a link

-- A logon state, a comma before it; a rejection has its code.
abbrev pub logon_fields : Logon → List ℕ
logon_fields Nothing = codes ",none"
logon_fields Sent = codes ",sent"
logon_fields Accepted = codes ",accepted"
logon_fields (Rejected found) = codes ",rejected" ++ number_field found

-- The line of a link's logon state.
abbrev pub logon_line : List ℕ → Logon → List ℕ
logon_line address logon = ended (codes "L," ++ address ++ logon_fields logon)

-- the lines of a link's downlinks: `D` and a comma before each
abbrev pub downlink_lines : List (List ℕ) → List ℕ
downlink_lines texts = flat_map (λ text. codes "D," ++ ended text) texts

-- The lines of the links to these addresses, of which the first has this number: for each its logon state and its downlinks.
abbrev pub AreLinkLines : Setting → List Entry → ℕ → List (List ℕ) → List ℕ → Type 0
AreLinkLines setting journal link [] text = text ≡ []
AreLinkLines setting journal link (address ∷ addresses) text =
    (texts : List (List ℕ)) × (behind : List ℕ) × AreDownlinks setting journal link texts × AreLinkLines setting journal (link + 1) addresses behind
    × (text ≡ logon_line address (logon_state link journal) ++ (downlink_lines texts ++ behind))

-- the lines of all links, where the aircraft flies
abbrev pub AreLinesOfLinks : Option Setting → List Entry → List ℕ → Type 0
AreLinesOfLinks None journal text = text ≡ []
AreLinesOfLinks (Some setting) journal text = AreLinkLines setting journal 0 setting.addresses text

-- ---- the lines of refused texts

-- why a text is refused: a code and the place of the fault, in the text, or for a payload in its bits
abbrev pub why_fields : RefusedWhy → List ℕ
why_fields (why.Envelope fault) = envelope_fault_fields fault
why_fields why.UnknownAddress = codes "UNKNOWN,1"
why_fields (why.Afn place) = codes "TEXT" ++ number_field place
why_fields (why.OtherRegistration place) = codes "OTHER" ++ number_field place
why_fields (why.Bits refusal) = request_fault_fields refusal

-- the line of a refused text: `X`, the number of its line, and why
abbrev pub refused_line : RefusedLine → List ℕ
refused_line refused = ended (codes "X" ++ number_field refused.line ++ codes "," ++ why_fields refused.why)

-- ---- the lines of a centre

-- the letter of a kind of contract
abbrev pub kind_letter : Kind → List ℕ
kind_letter Demand = codes "D"
kind_letter Periodic = codes "P"
kind_letter Event = codes "V"
kind_letter Emergency = codes "M"

-- a comma, and a request with its number as the hexadecimal digits of its payload
abbrev pub request_field : Message → List ℕ
request_field request = codes "," ++ encode_upper (message_payload request)

-- where a request stands, a comma before it
abbrev pub row_fields : Shown → List ℕ
row_fields shown.Nothing = codes ",none"
row_fields (shown.Pending request) = codes ",pending" ++ request_field request
row_fields (shown.Confirmed request) = codes ",confirmed" ++ request_field request
row_fields (shown.Partial request) = codes ",partial" ++ request_field request
row_fields (shown.Refused request reason) = codes ",refused" ++ (number_field reason ++ request_field request)
row_fields (shown.Cancelling request) = codes ",cancelling" ++ request_field request

-- the line of a row: `C`, the centre's address, the kind, and where its request stands
abbrev pub row_line : List ℕ → Kind → Shown → List ℕ
row_line address kind row = ended (codes "C," ++ (address ++ (codes "," ++ (kind_letter kind ++ row_fields row))))

-- the line of a centre's row of this kind
abbrev pub row_line_of : List ℕ → ℕ → List Happening → Kind → List ℕ
row_line_of address link log kind = row_line address kind (row_at kind (history link log))

-- the four lines of a centre
abbrev pub centre_lines : List ℕ → ℕ → List Happening → List ℕ
centre_lines address link log = flat_map (row_line_of address link log) (Demand ∷ Periodic ∷ Event ∷ Emergency ∷ [])

-- the lines of the centres among these addresses, of which the first has this link
abbrev pub centres_lines : List Happening → ℕ → List (List ℕ) → List ℕ
centres_lines log link [] = []
centres_lines log link (address ∷ addresses) =
    cond (is_centre link log) (centre_lines address link log) [] ++ centres_lines log (link + 1) addresses

-- the lines of all centres, where the aircraft flies
abbrev pub lines_of_centres : Option Setting → List Happening → List ℕ
lines_of_centres None log = []
lines_of_centres (Some setting) log = centres_lines log 0 setting.addresses

-- ---- the whole output

-- the code of a bad line
abbrev pub code_text : Code → List ℕ
code_text code.Head = codes "HEAD"
code_text code.Kind = codes "KIND"
code_text code.Byte = codes "BYTE"
code_text code.Count = codes "COUNT"
code_text code.Field = codes "FIELD"
code_text code.Twice = codes "TWICE"
code_text code.Address = codes "ADDRESS"
code_text code.Role = codes "ROLE"
code_text code.Number = codes "NUMBER"
code_text code.Logon = codes "LOGON"
code_text code.Waiting = codes "WAITING"
code_text code.Nothing = codes "NOTHING"
code_text code.Long = codes "LONG"
code_text code.Early = codes "EARLY"

-- the line of a bad line: its number, code and value
abbrev pub bad_line : BadLine → List ℕ
bad_line bad = ended (codes "BAD" ++ number_field bad.line ++ codes "," ++ code_text bad.code ++ number_field bad.value)

-- The lines behind the journal line: those of the links, of the refused texts and of the centres, and `OK`; or the bad line; or the
-- line at which the limit is met.
abbrev pub IsEndText : List ℕ → Run → End → List ℕ → Type 0
IsEndText order run Done text = (links : List ℕ) × AreLinesOfLinks run.setting (journal_at order run.log) links
    × (text ≡ links ++ (flat_map refused_line (refused_lines run.log) ++ (lines_of_centres run.setting run.log ++ ended (codes "OK"))))
IsEndText order run (Bad bad) text = text ≡ bad_line bad
IsEndText order run (Limit line) text = text ≡ ended (codes "LIMIT" ++ number_field line)

-- The output of a run under this order of its entries.
pub record IsRunText (order : List ℕ) (run : Run) (text : List ℕ) : Type 0 where
  pub behind : List ℕ
  pub is_end : IsEndText order run run.end behind
  pub spelled : text ≡ journal_line order ++ behind
