-- Worked scripts in which a centre reuses a number too early and then shows a request as confirmed that the aircraft never accepted.
-- Numbers are 1 to 255, and then 1 again, so a centre that asked 255 times uses number 1 again.
use Rattle.std.specs.Prelude.{◌≡◌, ◌≢◌, ℕ, zero, suc, ◌+◌, ◌-◌, ◌<◌, List, [], ◌∷◌, ◌++◌, Some, None, refl, slice_get}
use Rattle.acars_envelope.specs.Names.{IsFlight, IsRegistration}
use Rattle.adsc_requests.specs.Contents.{number_of}
use Rattle.adsc_requests.specs.Kind.{kind_in}
use Rattle.adsc_requests.specs.declared.kind.Kind.{Kind}
use Rattle.adsc_requests.specs.declared.kind.Kind.TheVariants as kinds
use Rattle.adsc_requests.specs.declared.message.Message.{Message}
use Rattle.adsc_requests.specs.declared.message.Message.TheVariants as message
use Rattle.aircraft_core.specs.Entries.{line_of}
use Rattle.aircraft_core.specs.Setting.{Setting}
use Rattle.aircraft_core.specs.declared.entry.Entry.{Entry}
use Rattle.aircraft_core.specs.declared.who.Who.{Who}
use Rattle.centre_core.specs.Hearing.{Hearing}
use Rattle.centre_core.specs.Histories.{row_at}
use Rattle.flight_samples.specs.declared.sample.Sample.{Sample as FlightSample}
use Rattle.net_script.specs.declared.line.Cancel.TheVariants.{Of}
use Rattle.net_script.specs.declared.line.ScriptLine.TheVariants as line
use Rattle.run_rules.specs.Among.{IsAmong}
use Rattle.run_rules.specs.Claims.{CarriedBears, HearingBears, IsShownConfirmed, MadeDownlink, RowBears, WasAccepted}
use Rattle.run_rules.specs.Happenings.{Happening, Asked, Brought, Heard, SentMessage, entries, history, sent_messages}
use Rattle.run_rules.specs.Histories.Words.{RunsTo, aircraft_of, asks, brings, cancels, flight_of, ground, logs_on, receives}
use Rattle.run_rules.specs.Orders.{line_order}
use Rattle.run_rules.specs.Runs.{Run, Script, journal_at}
use Rattle.run_rules.specs.declared.end.End.TheVariants.{Done}
use Rattle.run_rules.specs.declared.reading.Reading.{Reading}
use Rattle.run_rules.specs.declared.reading.Reading.TheVariants.{Says}

-- ---- requests and lines

-- An emergency request of this number for a report each 304 s.
abbrev pub timed : ℕ → Message
timed n = message.Emergency n (Some 0xa5) (record { m = None ∷ None ∷ None ∷ None ∷ None ∷ None ∷ []; six = refl }) None

-- A periodic request of this number for a report each 304 s.
abbrev pub periodic : ℕ → Message
periodic n = message.Periodic n (Some 0xa5) (record { m = None ∷ None ∷ None ∷ None ∷ None ∷ None ∷ []; six = refl }) None

-- The centre asks so; the request gets its number when it is sent.
abbrev pub asks_for : Message → Reading
asks_for request = Says (line.C ground request)

-- So many times the centre asks by an emergency request and cancels it; and then these lines.
abbrev pub asks_and_cancels : ℕ → List Reading → List Reading
asks_and_cancels zero behind = behind
asks_and_cancels (suc times) behind = asks ∷ cancels (Of kinds.Emergency) ∷ asks_and_cancels times behind

-- ---- the three ways of reuse

-- After the centre asked by a request of this number, a message that bears it and was sent before is brought to the aircraft.
pub record BringsOldUplink (n : ℕ) (order : List ℕ) (setting : Setting) (log : List Happening) : Type 0 where
  pub line : ℕ
  pub request : Message
  pub place : ℕ
  pub made : Entry
  pub sent : SentMessage
  pub later : List Happening
  pub earlier : List Happening
  pub split : log ≡ later ++ Brought 0 place made ∷ earlier
  pub asked : IsAmong (Asked line 0 request) earlier
  pub number : number_of request ≡ n
  pub there : slice_get (sent_messages 0 earlier) (place - 1) ≡ Some sent
  pub bears : CarriedBears n sent.carried
  pub before : sent.line < line

-- After the centre asked by a request of this number, a downlink that bears it and was made before is brought to the centre.
pub record HearsOldDownlink (n : ℕ) (order : List ℕ) (setting : Setting) (log : List Happening) : Type 0 where
  pub line : ℕ
  pub request : Message
  pub number : ℕ
  pub place : ℕ
  pub hearing : Hearing
  pub entry : Entry
  pub later : List Happening
  pub earlier : List Happening
  pub split : log ≡ later ++ Heard number 0 place hearing ∷ earlier
  pub asked : IsAmong (Asked line 0 request) earlier
  pub its_number : number_of request ≡ n
  pub bears : HearingBears n hearing
  pub made : MadeDownlink setting (journal_at order earlier) 0 place entry
  pub before : line_of entry < line

-- When the centre asks by a request of this number, the row of another kind bears it.
pub record AsksBesideRow (n : ℕ) (order : List ℕ) (setting : Setting) (log : List Happening) : Type 0 where
  pub line : ℕ
  pub request : Message
  pub kind : Kind
  pub later : List Happening
  pub earlier : List Happening
  pub split : log ≡ later ++ Asked line 0 request ∷ earlier
  pub number : number_of request ≡ n
  pub another : kind_in request ≢ Some kind
  pub bears : RowBears n (row_at kind (history 0 earlier))

-- ---- what comes of it

-- The script has a run in the order of its lines, in which number 1 is reused so, the centre shows this request as confirmed, and the
-- aircraft never accepted it.
pub record ShowsUnaccepted (Reuses : ℕ → List ℕ → Setting → List Happening → Type 0) (setting : Setting) (order : List ℕ) (request : Message)
    (run : Run) : Type 0 where
  pub done : run.end ≡ Done
  pub in_line : order ≡ line_order (entries run.log)
  pub reuses : Reuses 1 order setting run.log
  pub confirmed : IsShownConfirmed 0 run.log request
  pub never : WasAccepted setting (journal_at order run.log) 0 request → ⊥

-- Whoever the aircraft is, this happens in the script where the centre asks and cancels 254 times in its midst.
abbrev pub Misleads : (ℕ → List ℕ → Setting → List Happening → Type 0) → (Who → FlightSample → ℕ → Script) → Message → Type 0
Misleads Reuses script request =
    (who : Who) (sample : FlightSample) (times : ℕ) → IsRegistration who.registration → IsFlight who.flight → times ≡ 254
    → (order : List ℕ) × RunsTo (script who sample times) order (ShowsUnaccepted Reuses (aircraft_of who sample) order request)

-- ---- one script for each way of reuse

-- An old uplink. The centre asks, under number 1, and cancels. When number 1 comes again, it asks by another request, and now the first
-- one is brought; its acknowledgement confirms the other.
abbrev pub old_uplink : Who → FlightSample → ℕ → Script
old_uplink who sample times =
    flight_of who sample
    (logs_on ∷ receives 1 ∷ asks ∷ cancels (Of kinds.Emergency)
    ∷ asks_and_cancels times (asks_for (timed 0) ∷ brings 2 ∷ receives 2 ∷ []))

abbrev pub OldUplink : Type 0
OldUplink = Misleads BringsOldUplink old_uplink (timed 1)

-- An old downlink. The first request is brought and acknowledged, but the acknowledgement is heard only when number 1 came again and
-- the centre asked by another request.
abbrev pub old_downlink : Who → FlightSample → ℕ → Script
old_downlink who sample times =
    flight_of who sample
    (logs_on ∷ receives 1 ∷ asks ∷ brings 2 ∷ cancels (Of kinds.Emergency)
    ∷ asks_and_cancels times (asks_for (timed 0) ∷ receives 2 ∷ []))

abbrev pub OldDownlink : Type 0
OldDownlink = Misleads HearsOldDownlink old_downlink (timed 1)

-- Another row. A periodic request under number 1 stays pending and is never brought. When number 1 comes again, an emergency request gets
-- it and is brought; its acknowledgement confirms the periodic one.
abbrev pub other_row : Who → FlightSample → ℕ → Script
other_row who sample times =
    flight_of who sample
    (logs_on ∷ receives 1 ∷ asks_for (periodic 0) ∷ asks_and_cancels times (asks ∷ brings (times + times + 3) ∷ receives 2 ∷ []))

abbrev pub OtherRow : Type 0
OtherRow = Misleads AsksBesideRow other_row (periodic 1)
