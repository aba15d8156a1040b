-- Which happenings come from lines that are in no burst: deliveries to centres, and acts of the crew.
use Rattle.std.proofs.Common.{◌≡◌, ℕ, ◌+◌, ◌-◌, Bool, true, false, List, [], ◌∷◌, ◌++◌, length, append_assoc, Option, Some, None, Result, Ok, Err, if◌then◌else◌, refl, sym, ap, ◌∙◌, subst, arith}
use Rattle.std.specs.Prelude.{slice_get}
use Rattle.std.specs.List.{AllByRecursion}
use Rattle.adsc_requests.specs.declared.message.Message.{Message}
use Rattle.adsc_requests.specs.declared.message.Uplink.{Uplink as UplinkMessages}
use Rattle.adsc_requests.specs.declared.refusal.Refusal.{Refusal as RequestRefusal}
use Rattle.afn_logon.specs.declared.answer.Answer.{Answer as LogonAnswer}
use Rattle.afn_logon.specs.declared.refusal.AfnRefusal.{AfnRefusal}
use Rattle.aircraft_core.specs.Setting.{Setting}
use Rattle.aircraft_core.specs.declared.entry.Entry.TheVariants.{Uplink, Answer, Crew}
use Rattle.centre_core.specs.Histories.{next_number_at, row_at, table_at}
use Rattle.centre_core.specs.Tables.{number_to_cancel, request_or_refusal}
use Rattle.centre_core.specs.declared.refusal.AskRefused.{AskRefused}
use Rattle.centre_core.specs.declared.refusal.AskRefused.TheVariants.{NotLoggedOn, Waiting}
use Rattle.contract_table.proofs.Sendable.{all_joined}
use Rattle.ground_texts.specs.declared.ground_text.GroundText.{GroundText}
use Rattle.ground_texts.specs.declared.ground_text.GroundText.TheVariants as text
use Rattle.net_script.specs.declared.line.Cancel.{Cancel}
use Rattle.net_script.specs.declared.line.Cancel.TheVariants.{Of, EmergencyMode, All}
use Rattle.net_script.specs.declared.line.ScriptLine.{ScriptLine}
use Rattle.net_script.specs.declared.line.ScriptLine.TheVariants as line
use Rattle.net_script.specs.declared.refusal.Code.TheVariants as code
use Rattle.run_rules.specs.Happenings.{Happening, Entered, Heard, SentMessage, history, is_centre, is_raw, sent_messages}
use Rattle.run_rules.specs.Lines.{asking_step, as_centre, bringing_step, cancel_step, cancelling_step, flight_step, line_step, on_link, step_of}
use Rattle.run_rules.specs.Orders.{is_burst_line, reading_at}
use Rattle.run_rules.specs.Runs.{DeliveryRuns, LinesRun, Run, Script, ScriptRun, StepRuns}
use Rattle.run_rules.specs.Stages.{Stage, begun, named, linked, flying, Step, does, receives, stops, stage_after}
use Rattle.run_rules.specs.Texts.{answer_step, characters_step, flight_place, link_to, notice_step, payload_happenings, refuses, registration_place, same_text, takes, text_step, uplink_step}
use Rattle.run_rules.specs.declared.reading.Reading.{Reading}
use Rattle.run_rules.specs.declared.refused.RefusedWhy.TheVariants as why
use Rattle.run_rules.specs.declared.reading.Reading.TheVariants.{Bad, Says, Brings}

-- A delivery and an act of the crew come from lines that are in no burst.
abbrev pub IsQuiet : List Reading → Happening → Type 0
IsQuiet readings (Heard number link place hearing) = is_burst_line (reading_at readings number) ≡ false
IsQuiet readings (Entered (Crew number on)) = is_burst_line (reading_at readings number) ≡ false
IsQuiet readings happening = Unit {0}

-- So does each happening of a log.
abbrev pub AreQuiet : List Reading → List Happening → Type 0
AreQuiet readings log = AllByRecursion (IsQuiet readings) log

-- What a step of a line does is quiet; and where it looks for a downlink, the line is in no burst.
abbrev QuietStep : List Reading → ℕ → Step → Type 0
QuietStep readings number (does happenings) = AreQuiet readings happenings
QuietStep readings number (receives setting link place) = is_burst_line (reading_at readings number) ≡ false
QuietStep readings number (stops found value) = Unit {0}

module _ (readings : List Reading) (number : ℕ) where
  -- ---- texts

  quiet_takes : (log : List Happening) (link : ℕ) (happenings : List Happening) → AreQuiet readings happenings → QuietStep readings number (takes log link happenings)
  quiet_takes log link happenings quiet = at (is_centre link log)
    where
      at : (b : Bool) → QuietStep readings number (if b then stops code.Role 0 else does happenings)
      at true = tt
      at false = quiet

  quiet_payload : (line link : ℕ) (octets : _) (asked : Result UplinkMessages RequestRefusal) → AreQuiet readings (payload_happenings line (Uplink line link octets) asked)
  quiet_payload line link octets (Ok uplink) = (tt, tt)
  quiet_payload line link octets (Err refusal) = (tt, (tt, tt))

  quiet_uplink : (setting : Setting) (log : List Happening) (uplink : _) (link : Option ℕ) → QuietStep readings number (uplink_step setting log number uplink link)
  quiet_uplink setting log uplink None = (tt, tt)
  quiet_uplink setting log uplink (Some link) = at (same_text uplink.registration setting.registration)
    where
      at : (b : Bool) → QuietStep readings number (if b then takes log link (payload_happenings number (Uplink number link uplink.octets) uplink.asked)
          else refuses number (why.OtherRegistration registration_place))
      at true = quiet_takes log link (payload_happenings number (Uplink number link uplink.octets) uplink.asked) (quiet_payload number link uplink.octets uplink.asked)
      at false = (tt, tt)

  quiet_answer : (setting : Setting) (log : List Happening) (link : ℕ) (answer : LogonAnswer) → QuietStep readings number (answer_step setting log number link answer)
  quiet_answer setting log link answer = at (same_text answer.registration setting.registration)
    where
      at : (b : Bool) → QuietStep readings number (if b then takes log link (Entered (Answer number link answer.code) ∷ [])
          else refuses number (why.OtherRegistration (flight_place + length answer.flight + 1)))
      at true = quiet_takes log link (Entered (Answer number link answer.code) ∷ []) (tt, tt)
      at false = (tt, tt)

  quiet_characters : (setting : Setting) (log : List Happening) (link : ℕ) (answer : Result LogonAnswer AfnRefusal) → QuietStep readings number (characters_step setting log number link answer)
  quiet_characters setting log link (Ok answer) = quiet_answer setting log link answer
  quiet_characters setting log link (Err refusal) = (tt, tt)

  quiet_notice : (setting : Setting) (log : List Happening) (notice : _) (link : Option ℕ) → QuietStep readings number (notice_step setting log number notice link)
  quiet_notice setting log notice None = (tt, tt)
  quiet_notice setting log notice (Some link) = quiet_characters setting log link notice.answer

  quiet_text : (setting : Setting) (log : List Happening) (reading : GroundText) → QuietStep readings number (text_step setting log number reading)
  quiet_text setting log (text.Refused fault) = (tt, tt)
  quiet_text setting log (text.Ads uplink) = quiet_uplink setting log uplink (link_to setting uplink.address)
  quiet_text setting log (text.Afn notice) = quiet_notice setting log notice (link_to setting notice.address)

  -- ---- lines

  quiet_on_link : (setting : Setting) (address : List ℕ) (step : ℕ → Step) → ((link : ℕ) → QuietStep readings number (step link)) → QuietStep readings number (on_link setting address step)
  quiet_on_link setting address step quiet = at (link_to setting address)
    where
      at : (o : Option ℕ) → QuietStep readings number (elim o [ None ↦ stops code.Address 1 | Some link ↦ step link ])
      at None = tt
      at (Some link) = quiet link

  quiet_as_centre : (setting : Setting) (log : List Happening) (address : List ℕ) (step : ℕ → Step) → ((link : ℕ) → QuietStep readings number (step link))
      → QuietStep readings number (as_centre setting log address step)
  quiet_as_centre setting log address step quiet = quiet_on_link setting address _ (λ link. at link (is_raw link log))
    where
      at : (link : ℕ) (b : Bool) → QuietStep readings number (if b then stops code.Role 0 else step link)
      at link true = tt
      at link false = quiet link

  quiet_asking : (link : ℕ) (asked : Result Message AskRefused) → QuietStep readings number (asking_step number link asked)
  quiet_asking link (Ok request) = (tt, tt)
  quiet_asking link (Err NotLoggedOn) = tt
  quiet_asking link (Err (Waiting n)) = tt

  quiet_cancelling : (link : ℕ) (cancel : Cancel) (n : Option ℕ) → QuietStep readings number (cancelling_step number link cancel n)
  quiet_cancelling link cancel None = tt
  quiet_cancelling link cancel (Some n) = (tt, tt)

  quiet_cancel : (log : List Happening) (link : ℕ) (cancel : Cancel) → QuietStep readings number (cancel_step (history link log) number link cancel)
  quiet_cancel log link (Of kind) = quiet_cancelling link (Of kind) (number_to_cancel (row_at kind (history link log)))
  quiet_cancel log link EmergencyMode = (tt, tt)
  quiet_cancel log link All = (tt, tt)

  quiet_bringing : (link place : ℕ) (sent : List SentMessage) (one : Option SentMessage) → QuietStep readings number (bringing_step number link place sent one)
  quiet_bringing link place sent None = tt
  quiet_bringing link place sent (Some one) = brings one.carried
    where
      brings : (carried : _) → QuietStep readings number (bringing_step number link place sent (Some (record { line = one.line; carried = carried })))
      brings carried = (tt, tt)

  quiet_flight : (setting : Setting) (log : List Happening) (value : ScriptLine) → reading_at readings number ≡ Some (Says value)
      → QuietStep readings number (flight_step setting log number value)
  quiet_flight setting log (line.S sample) is = (tt, tt)
  quiet_flight setting log (line.T moment) is = (tt, tt)
  quiet_flight setting log (line.E on) is = (ap is_burst_line is, tt)
  quiet_flight setting log (line.L address) is = quiet_on_link setting address _ (λ link. (tt, tt))
  quiet_flight setting log (line.C address request) is =
      quiet_as_centre setting log address _ (λ link. quiet_asking link (request_or_refusal request (next_number_at (history link log)) (table_at (history link log))))
  quiet_flight setting log (line.K address cancel) is = quiet_as_centre setting log address _ (λ link. quiet_cancel log link cancel)
  quiet_flight setting log (line.B address place) is =
      quiet_as_centre setting log address _ (λ link. quiet_bringing link place (sent_messages link log) (slice_get (sent_messages link log) (place - 1)))
  quiet_flight setting log (line.R address place) is = quiet_as_centre setting log address _ (λ link. ap is_burst_line is)
  quiet_flight setting log (line.A who) is = tt
  quiet_flight setting log (line.G addresses reserved) is = tt
  quiet_flight setting log (line.U from) is = tt

  quiet_line : (stage : Stage) (log : List Happening) (value : ScriptLine) → reading_at readings number ≡ Some (Says value)
      → QuietStep readings number (line_step stage log number value)
  quiet_line begun log (line.A who) is = tt
  quiet_line (named who) log (line.G addresses reserved) is = tt
  quiet_line (linked who addresses kept) log (line.S sample) is = tt
  quiet_line (flying setting) log value is = quiet_flight setting log value is
  quiet_line stage log value is = tt

  quiet_step : (stage : Stage) (log : List Happening) (reading : Reading) → reading_at readings number ≡ Some reading → QuietStep readings number (step_of stage log number reading)
  quiet_step stage log (Bad found value) is = tt
  quiet_step stage log (Says value) is = quiet_line stage log value is
  quiet_step (flying setting) log (Brings reading) is = quiet_text setting log reading
  quiet_step stage log (Brings reading) is = tt

-- ---- the run

reading_here : (front : List Reading) (reading : Reading) (rest : List Reading) → slice_get (front ++ reading ∷ rest) (length front) ≡ Some reading
reading_here [] reading rest = refl
reading_here (first ∷ front) reading rest = reading_here front reading rest

quiet_at_end : (readings : List Reading) (log : List Happening) (run : Run) → AreQuiet readings log → run.log ≡ log → AreQuiet readings run.log
quiet_at_end readings log run quiet same = subst (AreQuiet readings) (sym same) quiet

quiet_lines : (all : List Reading) (over : Bool) (order : List ℕ) (front readings : List Reading) (stage : Stage) (log : List Happening) (number : ℕ) (run : Run)
    → all ≡ front ++ readings → number ≡ length front + 1 → AreQuiet all log → LinesRun over order stage log number readings run → AreQuiet all run.log
quiet_lines all over order front [] stage log number run split at quiet runs = quiet_at_end all log run quiet (ap (λ (r : Run). r.log) runs)
quiet_lines all over order front (reading ∷ readings) stage log number run split at quiet runs =
    by (step_of stage log number reading) (quiet_step all number stage log reading here) runs
    (λ now still behind. quiet_lines all over order (front ++ reading ∷ []) readings (stage_after stage reading) now (number + 1) run
    (split ∙ sym (append_assoc front (reading ∷ []) readings)) (omega (arith, at, longer front)) still behind)
  where
    here : reading_at all number ≡ Some reading
    here =
        ap (λ rs. slice_get rs (number - 1)) split
        ∙ ap (λ i. slice_get (front ++ reading ∷ readings) i) (let place : number - 1 ≡ length front = omega (arith, at) in place)
        ∙ reading_here front reading readings

    longer : (rs : List Reading) → length (rs ++ reading ∷ []) ≡ length rs + 1
    longer [] = omega arith
    longer (r ∷ rs) = omega (arith, longer rs)

    by : (step : Step) → QuietStep all number step
        → StepRuns (λ now behind. LinesRun over order (stage_after stage reading) now (number + 1) readings behind) order stage log number step run
        → ((now : List Happening) → AreQuiet all now → LinesRun over order (stage_after stage reading) now (number + 1) readings run → AreQuiet all run.log)
        → AreQuiet all run.log
    by (does happenings) is runs rest = rest (happenings ++ log) (all_joined (IsQuiet all) happenings log is quiet) runs
    by (stops found value) is runs rest = quiet_at_end all log run quiet (ap (λ (r : Run). r.log) runs)
    by (receives setting link place) is runs rest = delivered (slice_get runs.0 (place - 1)) runs.2
      where
        delivered : (text : Option (List ℕ))
            → DeliveryRuns (λ now behind. LinesRun over order (stage_after stage reading) now (number + 1) readings behind) stage log number setting link place (length runs.0) text run
            → AreQuiet all run.log
        delivered None ends = quiet_at_end all log run quiet (ap (λ (r : Run). r.log) ends)
        delivered (Some found) heard = rest (Heard number link place heard.0 ∷ log) (is, quiet) heard.2

-- The log of a run is quiet.
pub quiet_run : (script : Script) (order : List ℕ) (run : Run) → ScriptRun script order run → AreQuiet script.readings run.log
quiet_run script order run runs = quiet_lines script.readings script.over order [] script.readings begun [] 1 run refl (omega arith) tt runs
