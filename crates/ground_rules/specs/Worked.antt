-- Worked ground logs: what is written of them, line by line. Contacts and downlinks are those of RTCA DO-258A / EUROCAE ED-100A.
use Rattle.std.specs.Prelude.{◌≡◌, ℕ, false, List, [], ◌∷◌, ◌++◌, Option, Some, None, codes, refl}
use Rattle.adsc_downlink.specs.Items.{ItemData}
use Rattle.adsc_downlink.specs.Items.ItemData.{ack, report}
use Rattle.adsc_groups.specs.Basic.{BasicData}
use Rattle.adsc_requests.specs.declared.kind.Kind.TheVariants as kinds
use Rattle.adsc_requests.specs.declared.message.Message.{Message}
use Rattle.adsc_requests.specs.declared.message.Message.TheVariants.{Periodic}
use Rattle.afn_logon.specs.Contents.{ContactData}
use Rattle.aircraft_core.specs.declared.who.Who.{Who}
use Rattle.centre_core.specs.Hearing.{Greets, Ignores, Tells}
use Rattle.centre_core.specs.Histories.{row_at, table_at}
use Rattle.centre_core.specs.Sending.{greeting_text, message_text}
use Rattle.centre_core.specs.View.{CentreView}
use Rattle.centre_core.specs.declared.heard.Ignored.{Ignored}
use Rattle.centre_core.specs.declared.shown.Shown.{Shown}
use Rattle.centre_core.specs.declared.shown.Shown.TheVariants as shown
use Rattle.ground_rules.specs.GroundReadings.{GroundReading, says, hears}
use Rattle.ground_rules.specs.GroundHappenings.{GroundHappening, Names, events_at}
use Rattle.ground_rules.specs.Walks.{Walked}
use Rattle.ground_rules.specs.WatchedText.{happening_lines, ignored_line, late_line, names_at, sent_line, watch_walk}
use Rattle.ground_rules.specs.declared.line.GroundLine.TheVariants.{A, G, T, C, Z}
use Rattle.net_script.specs.declared.refusal.Code.TheVariants as code
use Rattle.run_rules.specs.declared.end.End.{End}
use Rattle.run_rules.specs.declared.end.End.TheVariants.{Done, Bad}

-- The centre's address, and a centre there.
abbrev pub ground_address : List ℕ
ground_address = codes "AKLCDYA"

abbrev pub centre_there : Who → CentreView
centre_there who = record { address = ground_address; registration = who.registration; table = table_at [] }

-- A periodic request of 304 s, and a demand.
abbrev pub request : ℕ → Option ℕ → Message
request n interval = Periodic n interval (record { m = None ∷ None ∷ None ∷ None ∷ None ∷ None ∷ []; six = refl }) None

abbrev pub periodic : ℕ → Message
periodic n = request n (Some 0xa5)

-- A report of this tag.
abbrev pub report_of : ℕ → BasicData → ItemData
report_of tag basic = report (record { tag = tag; basic = basic; groups = [] })

-- The first two lines, and lines behind them.
abbrev pub log_of : Who → List GroundReading → List GroundReading
log_of who readings = says (A who) ∷ says (G (record { items = ground_address ∷ [] })) ∷ readings

-- The lines that each happening writes, the oldest first.
abbrev pub lines_each : ℕ → Names → List GroundHappening → List (List ℕ)
lines_each grace names [] = []
lines_each grace names (happening ∷ log) = lines_each grace names log ++ happening_lines grace names happening log ∷ []

-- Where the walk of the log ends.
abbrev pub walked_of : Who → List GroundReading → Walked
walked_of who readings = watch_walk (record { readings = log_of who readings; over = false })

-- The log is walked to this end, with a grace of 60 s its happenings write these lines, and the periodic row is this one then.
abbrev pub Comes : Who → List GroundReading → End → List (List ℕ) → Shown → Type 0
Comes who readings end lines row =
    ((walked_of who readings).end ≡ end)
    × (lines_each 60 (names_at (walked_of who readings).stage) (walked_of who readings).log ≡ lines)
    × (row_at kinds.Periodic (events_at 0 (walked_of who readings).log) ≡ row)

-- A contact is answered at line 3. At 100 s the centre asks for reports each 304 s, which are confirmed with the first report. With a
-- grace of 60 s the next is late when 464 s are past, so the tick of 465 s rings, and no later one does.
abbrev pub LateOnce : Type 0
LateOnce = (who : Who) (contact : ContactData) (basic : BasicData)
    → Comes who (hears ground_address (Greets contact) ∷ says (T 100) ∷ says (C ground_address (periodic 0))
    ∷ hears ground_address (Tells (ack 1 ∷ report_of 7 basic ∷ [])) ∷ says (T 404) ∷ says (T 464) ∷ says (T 465) ∷ says (T 800) ∷ []) Done
    (sent_line 3 (greeting_text (centre_there who) contact) ∷ [] ∷ sent_line 5 (message_text (centre_there who) (periodic 1)) ∷ [] ∷ [] ∷ []
    ∷ late_line 9 ground_address 1 ∷ [] ∷ []) (shown.Confirmed (periodic 1))

-- A report that comes ends the quiet, in emergency mode too, and the silence after it rings again.
abbrev pub LateAgain : Type 0
LateAgain = (who : Who) (contact : ContactData) (basic : BasicData)
    → Comes who (hears ground_address (Greets contact) ∷ says (T 100) ∷ says (C ground_address (periodic 0))
    ∷ hears ground_address (Tells (ack 1 ∷ [])) ∷ says (T 465) ∷ hears ground_address (Tells (report_of 9 basic ∷ [])) ∷ says (T 829)
    ∷ says (T 900) ∷ []) Done
    (sent_line 3 (greeting_text (centre_there who) contact) ∷ [] ∷ sent_line 5 (message_text (centre_there who) (periodic 1)) ∷ []
    ∷ late_line 7 ground_address 1 ∷ [] ∷ [] ∷ late_line 10 ground_address 71 ∷ []) (shown.Confirmed (periodic 1))

-- A request before a contact was heard is bad.
abbrev pub AskedTooEarly : Type 0
AskedTooEarly = (who : Who) → Comes who (says (T 5) ∷ says (C ground_address (request 0 None)) ∷ [])
    (Bad (record { line = 4; code = code.Logon; value = 0 })) ([] ∷ []) shown.Nothing

-- A text that says nothing to the centre is ignored.
abbrev pub TextIgnored : Type 0
TextIgnored = (who : Who) (why : Ignored)
    → Comes who (hears ground_address (Ignores why) ∷ []) Done (ignored_line 3 ∷ []) shown.Nothing

-- A text for an address that isn't listed is bad, and so is a line that starts the centres again.
abbrev pub BadInAWatch : Type 0
BadInAWatch = (who : Who) (why : Ignored)
    → Comes who (hears (codes "NFFNDYA") (Ignores why) ∷ []) (Bad (record { line = 3; code = code.Address; value = 1 })) [] shown.Nothing
    × Comes who (says Z ∷ []) (Bad (record { line = 3; code = code.Kind; value = 0 })) [] shown.Nothing
