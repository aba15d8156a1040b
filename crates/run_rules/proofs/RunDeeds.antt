-- What happened in a run was done by its lines behind the head, each by its rule.
use Rattle.std.proofs.Common.{◌≡◌, ◌+◌, ◌-◌, ◌<◌, ◌≤◌, ℕ, Bool, true, false, if◌then◌else◌, List, [], ◌∷◌, ◌++◌, drop, length, Option, Some, None, Result, Ok, Err, refl, sym, ap, ◌∙◌, subst, arith}
use Rattle.std.specs.List.{slice_get}
use Rattle.adsc_io.specs.Inputs.{lines_before_limit}
use Rattle.adsc_requests.specs.declared.message.Message.{Message}
use Rattle.adsc_requests.specs.declared.message.Uplink.{Uplink as UplinkMessages}
use Rattle.adsc_requests.specs.declared.refusal.Refusal.{Refusal}
use Rattle.afn_logon.specs.declared.answer.Answer.{Answer as LogonAnswer}
use Rattle.afn_logon.specs.declared.refusal.AfnRefusal.{AfnRefusal}
use Rattle.aircraft_core.specs.Setting.{Setting}
use Rattle.aircraft_core.specs.declared.entry.Entry.{Entry}
use Rattle.aircraft_core.specs.declared.entry.Entry.TheVariants.{Uplink, Answer, Sample, Tick, Crew, Logon}
use Rattle.centre_core.specs.Histories.{next_number_at, row_at, table_at}
use Rattle.centre_core.specs.Tables.{number_to_cancel, request_or_refusal}
use Rattle.centre_core.specs.declared.refusal.AskRefused.{AskRefused}
use Rattle.centre_core.specs.declared.refusal.AskRefused.TheVariants.{NotLoggedOn, Waiting}
use Rattle.ground_texts.specs.declared.ground_text.AdsUplink.{AdsUplink}
use Rattle.ground_texts.specs.declared.ground_text.AfnUplink.{AfnUplink}
use Rattle.ground_texts.specs.declared.ground_text.GroundText.{GroundText}
use Rattle.ground_texts.specs.declared.ground_text.GroundText.TheVariants as text
use Rattle.net_script.specs.Fields.{field_at, fields_of}
use Rattle.net_script.specs.Forms.{IsRequestText}
use Rattle.net_script.specs.Lines.{IsScriptLine}
use Rattle.net_script.specs.declared.line.Cancel.{Cancel}
use Rattle.net_script.specs.declared.line.Cancel.TheVariants.{Of, EmergencyMode, All}
use Rattle.net_script.specs.declared.line.ScriptLine.{ScriptLine}
use Rattle.net_script.specs.declared.line.ScriptLine.TheVariants as line
use Rattle.net_script.specs.declared.refusal.Code.TheVariants as code
use Rattle.run_rules.proofs.Deeds.{AreDeeds, IsCentreLink, IsDeed, IsSettled, bound_before}
use Rattle.run_rules.specs.Happenings.{Happening, Entered, Refused, Asked, Cancelled, Brought, Heard, SentMessage, history, is_centre, is_raw, sent_messages}
use Rattle.run_rules.specs.Lines.{as_centre, ask_step, asking_step, bring_step, bringing_step, cancel_step, cancelling_step, entry_with, flight_step, on_link, step_of}
use Rattle.run_rules.specs.Readings.{ReadsLine}
use Rattle.run_rules.specs.Runs.{IsScript, Run, Script, ScriptRun, setting_at}
use Rattle.run_rules.specs.Stages.{Stage, begun, named, linked, flying, Step, does, receives, stops, setting_with, stage_after}
use Rattle.run_rules.specs.Texts.{answer_step, characters_place, characters_step, flight_place, link_from, link_to, notice_step, payload_happenings, refusal_of, refuses, registration_place, same_text, takes, text_step, uplink_step}
use Rattle.run_rules.specs.declared.reading.Reading.{Reading}
use Rattle.run_rules.specs.declared.reading.Reading.TheVariants.{Says, Brings}
use Rattle.run_rules.specs.declared.refused.RefusedWhy.{RefusedWhy}
use Rattle.run_rules.specs.declared.refused.RefusedWhy.TheVariants as why
use Rattle.run_rules.proofs.Along.{AtEnd, GoesTo, along}
use Rattle.run_rules.proofs.Heads.{AreLinks, IsRightWho, right_links, right_who, settled_by}
use Rattle.run_rules.proofs.ReadTexts.{CarriesPayload, IsPayload, read_text_carries}

-- The aircraft of the run is settled, and what happened was done by lines behind the head, each by its rule.
pub record HasDeeds (order : List ℕ) (setting : Setting) (run : Run) : Type 0 where
  pub settled : IsSettled setting
  pub number : ℕ
  pub deeds : AreDeeds order setting number run.log

-- ---- deeds, one more

-- Deeds of lines below a number are deeds of lines below a greater one.
pub deeds_below : (order : List ℕ) (setting : Setting) (few many : ℕ) (log : List Happening) → few ≤ many → AreDeeds order setting few log
    → AreDeeds order setting many log
deeds_below order setting few many [] less deeds = tt
deeds_below order setting few many (happening ∷ log) less deeds = (deeds.0, deeds.1, omega (arith, less, deeds.2), deeds.3, deeds.4)

pub bound_above : (number : ℕ) (happening : Happening) → number ≤ bound_before number happening
bound_above number (Refused refused) = omega arith
bound_above number happening = omega arith

-- The line of this number does one deed more.
pub one_deed : (order : List ℕ) (setting : Setting) (number : ℕ) (log : List Happening) (happening : Happening) → 4 ≤ number
    → IsDeed order setting number log happening → AreDeeds order setting number log → AreDeeds order setting (number + 1) (happening ∷ log)
one_deed order setting number log happening behind deed deeds =
    (number, behind, omega arith, deed, deeds_below order setting number (bound_before number happening) log (bound_above number happening) deeds)

-- A refusal may stand behind another happening of its line.
refused_deed : (order : List ℕ) (setting : Setting) (number : ℕ) (log : List Happening) (why : RefusedWhy) → 4 ≤ number
    → AreDeeds order setting (number + 1) log → AreDeeds order setting (number + 1) (refusal_of number why ∷ log)
refused_deed order setting number log why behind deeds = (number, behind, omega arith, refl, deeds)

-- ---- the link of an address

-- A link that is found is one of these.
link_among : (from : ℕ) (addresses : List (List ℕ)) (address : List ℕ) (link : ℕ) → link_from from addresses address ≡ Some link
    → link < from + length addresses
link_among from [] address link is = absurd (cc)
link_among from (other ∷ others) address link is = at (same_text other address) is (link_among (from + 1) others address link)
  where
    at : (same : Bool) → (if same then Some from else link_from (from + 1) others address) ≡ Some link
        → (link_from (from + 1) others address ≡ Some link → link < from + 1 + length others) → link < from + length (other ∷ others)
    at true is rest = let same : from ≡ link = cc in omega (arith, same)
    at false is rest = omega (arith, rest is)

-- The link to an address is one of the aircraft's.
pub link_inside : (setting : Setting) (address : List ℕ) (link : ℕ) → link_to setting address ≡ Some link → link < length setting.addresses
link_inside setting address link is = omega (arith, link_among 0 setting.addresses address link is)

-- A line with an address goes on by what it does on a link of the aircraft.
pub goes_on_link : (order : List ℕ) (log : List Happening) (number : ℕ) (setting : Setting) (address : List ℕ) (step : ℕ → Step) (now : List Happening)
    → GoesTo order log number (on_link setting address step) now
    → (link : ℕ) × (link_to setting address ≡ Some link) × GoesTo order log number (step link) now
goes_on_link order log number setting address step now goes = at (link_to setting address) refl goes
  where
    at : (found : Option ℕ) → link_to setting address ≡ found
        → GoesTo order log number (elim found [
          | None ↦ stops code.Address 1
          | Some link ↦ step link
        ]) now
        → (link : ℕ) × (link_to setting address ≡ Some link) × GoesTo order log number (step link) now
    at None is goes = absurd goes
    at (Some link) is goes = (link, is, goes)

-- A line of a centre goes on by what it does on a link whose address isn't raw.
pub goes_as_centre : (order : List ℕ) (log : List Happening) (number : ℕ) (setting : Setting) (address : List ℕ) (step : ℕ → Step) (now : List Happening)
    → GoesTo order log number (as_centre setting log address step) now
    → (link : ℕ) × IsCentreLink setting log link × GoesTo order log number (step link) now
goes_as_centre order log number setting address step now goes =
    let found = goes_on_link order log number setting address (λ link. if is_raw link log then stops code.Role 0 else step link) now goes in
    at found.0 (link_inside setting address found.0 found.1) (is_raw found.0 log) refl found.2
  where
    at : (link : ℕ) → link < length setting.addresses → (raw : Bool) → is_raw link log ≡ raw
        → GoesTo order log number (if raw then stops code.Role 0 else step link) now
        → (link : ℕ) × IsCentreLink setting log link × GoesTo order log number (step link) now
    at link inside true is goes = absurd goes
    at link inside false is goes = (link, record { inside = inside; role = is }, goes)

-- ---- lines

-- What a line of this number leads to, behind deeds: one more each.
abbrev LeadsTo : List ℕ → Setting → List Happening → ℕ → List Happening → Type 0
LeadsTo order setting log number now = 4 ≤ number → AreDeeds order setting number log → AreDeeds order setting (number + 1) now

leads : (order : List ℕ) (setting : Setting) (log : List Happening) (number : ℕ) (now : List Happening) (happening : Happening)
    → now ≡ happening ∷ log → IsDeed order setting number log happening → LeadsTo order setting log number now
leads order setting log number now happening goes deed behind deeds =
    subst (AreDeeds order setting (number + 1)) (sym goes) (one_deed order setting number log happening behind deed deeds)

asks : (order : List ℕ) (setting : Setting) (log : List Happening) (number link : ℕ) (request : Message) (written : List ℕ) (now : List Happening)
    → IsCentreLink setting log link → IsRequestText request written
    → GoesTo order log number (ask_step (history link log) number link request) now → LeadsTo order setting log number now
asks order setting log number link request written now centre is goes =
    at (request_or_refusal request (next_number_at (history link log)) (table_at (history link log))) refl goes
  where
    at : (result : Result Message AskRefused)
        → request_or_refusal request (next_number_at (history link log)) (table_at (history link log)) ≡ result
        → GoesTo order log number (asking_step number link result) now → LeadsTo order setting log number now
    at (Ok sent) same goes =
        leads order setting log number now (Asked number link sent) goes
        (refl, record { centre = centre; asked = request; text = written; is_request = is; sent = same })
    at (Err NotLoggedOn) same goes = absurd goes
    at (Err (Waiting n)) same goes = absurd goes

-- What a cancel does: its message is sent.
record Cancels (log : List Happening) (number link : ℕ) (cancel : Cancel) (now : List Happening) : Type 0 where
  message : Message
  step : cancel_step (history link log) number link cancel ≡ does (Cancelled number link cancel message ∷ [])
  goes : now ≡ Cancelled number link cancel message ∷ log

cancels : (order : List ℕ) (log : List Happening) (number link : ℕ) (cancel : Cancel) (now : List Happening)
    → GoesTo order log number (cancel_step (history link log) number link cancel) now → Cancels log number link cancel now
cancels order log number link EmergencyMode now goes = record { message = _; step = refl; goes = goes }
cancels order log number link All now goes = record { message = _; step = refl; goes = goes }
cancels order log number link (Of kind) now goes = at (number_to_cancel (row_at kind (history link log))) refl goes
  where
    at : (found : Option ℕ) → number_to_cancel (row_at kind (history link log)) ≡ found
        → GoesTo order log number (cancelling_step number link (Of kind) found) now → Cancels log number link (Of kind) now
    at None is goes = absurd goes
    at (Some n) is goes = record { message = _; step = ap (cancelling_step number link (Of kind)) is; goes = goes }

brings : (order : List ℕ) (setting : Setting) (log : List Happening) (number link place : ℕ) (now : List Happening) → IsCentreLink setting log link
    → 1 ≤ place → GoesTo order log number (bring_step (sent_messages link log) number link place) now → LeadsTo order setting log number now
brings order setting log number link place now centre some goes = at (slice_get (sent_messages link log) (place - 1)) refl goes
  where
    at : (found : Option SentMessage) → slice_get (sent_messages link log) (place - 1) ≡ found
        → GoesTo order log number (bringing_step number link place (sent_messages link log) found) now → LeadsTo order setting log number now
    at None is goes = absurd goes
    at (Some sent) is goes =
        leads order setting log number now (Brought link place (entry_with number link sent.carried)) goes
        (some, record { centre = centre; sent = sent; there = is; entry = refl })

hears : (order : List ℕ) (setting : Setting) (log : List Happening) (number link place : ℕ) (now : List Happening) → IsCentreLink setting log link
    → 1 ≤ place → GoesTo order log number (receives setting link place) now → LeadsTo order setting log number now
hears order setting log number link place now centre some goes =
    leads order setting log number now (Heard number link place goes.0) goes.2 (
      refl,
      record {
        centre = centre;
        some = some;
        texts = goes.1.texts;
        text = goes.1.text;
        are_downlinks = goes.1.are_downlinks;
        there = goes.1.there;
        says = goes.1.says;
      },
    )

-- A line that says this, and brings no text, leads from deeds to deeds.
says_leads : (order : List ℕ) (setting : Setting) (log : List Happening) (number : ℕ) (bytes : List ℕ) (value : ScriptLine) (now : List Happening)
    → IsScriptLine value bytes → GoesTo order log number (flight_step setting log number value) now → LeadsTo order setting log number now
says_leads order setting log number bytes (line.S sample) now says goes =
    leads order setting log number now (Entered (Sample number sample)) goes (record { of_line = refl; taken = tt; text = tt })
says_leads order setting log number bytes (line.T moment) now says goes =
    leads order setting log number now (Entered (Tick number moment)) goes
    (record { of_line = refl; taken = omega (arith, says.says.most); text = tt })
says_leads order setting log number bytes (line.E on) now says goes =
    leads order setting log number now (Entered (Crew number on)) goes (record { of_line = refl; taken = tt; text = tt })
says_leads order setting log number bytes (line.L address) now says goes =
    let found = goes_on_link order log number setting address (λ link. does (Entered (Logon number link) ∷ [])) now goes in
    leads order setting log number now (Entered (Logon number found.0)) found.2
    (record { of_line = refl; taken = link_inside setting address found.0 found.1; text = tt })
says_leads order setting log number bytes (line.C address request) now says goes =
    let found = goes_as_centre order log number setting address (λ link. ask_step (history link log) number link request) now goes in
    asks order setting log number found.0 request (field_at (fields_of bytes) 2) now found.1 says.says.1 found.2
says_leads order setting log number bytes (line.K address cancel) now says goes =
    let found = goes_as_centre order log number setting address (λ link. cancel_step (history link log) number link cancel) now goes in
    let sent = cancels order log number found.0 cancel now found.2 in
    leads order setting log number now (Cancelled number found.0 cancel sent.message) sent.goes (refl, found.1, sent.step)
says_leads order setting log number bytes (line.B address place) now says goes =
    let found = goes_as_centre order log number setting address (λ link. bring_step (sent_messages link log) number link place) now goes in
    brings order setting log number found.0 place now found.1 says.says.1.least found.2
says_leads order setting log number bytes (line.R address place) now says goes =
    let found = goes_as_centre order log number setting address (λ link. receives setting link place) now goes in
    hears order setting log number found.0 place now found.1 says.says.1.least found.2
says_leads order setting log number bytes (line.A who) now says goes = absurd goes
says_leads order setting log number bytes (line.G addresses reserved) now says goes = absurd goes
says_leads order setting log number bytes (line.U from) now says goes = absurd goes

-- ---- texts

refusal_leads : (order : List ℕ) (setting : Setting) (log : List Happening) (number : ℕ) (why : RefusedWhy) (now : List Happening)
    → now ≡ refusal_of number why ∷ log → LeadsTo order setting log number now
refusal_leads order setting log number why now goes = leads order setting log number now (refusal_of number why) goes refl

-- A text that is taken comes from no centre's address.
taken_goes : (order : List ℕ) (log : List Happening) (number link : ℕ) (happenings : List Happening) (now : List Happening)
    → GoesTo order log number (takes log link happenings) now → (is_centre link log ≡ false) × (now ≡ happenings ++ log)
taken_goes order log number link happenings now goes = at (is_centre link log) refl goes
  where
    at : (centre : Bool) → is_centre link log ≡ centre → GoesTo order log number (if centre then stops code.Role 0 else does happenings) now
        → (is_centre link log ≡ false) × (now ≡ happenings ++ log)
    at true is goes = absurd goes
    at false is goes = (is, goes)

payload_leads : (order : List ℕ) (setting : Setting) (log : List Happening) (number : ℕ) (made : Entry) (asked : Result UplinkMessages Refusal)
    (now : List Happening) → now ≡ payload_happenings number made asked ++ log → IsDeed order setting number log (Entered made)
    → LeadsTo order setting log number now
payload_leads order setting log number made (Ok uplink) now goes deed = leads order setting log number now (Entered made) goes deed
payload_leads order setting log number made (Err refusal) now goes deed = λ behind deeds.
    subst (AreDeeds order setting (number + 1)) (sym goes)
    (refused_deed order setting number (Entered made ∷ log) (why.Bits refusal) behind (one_deed order setting number log (Entered made) behind deed deeds))

uplink_leads : (order : List ℕ) (setting : Setting) (log : List Happening) (number : ℕ) (uplink : AdsUplink) (now : List Happening)
    → IsPayload uplink.octets.items → (found : Option ℕ) → link_to setting uplink.address ≡ found
    → GoesTo order log number (uplink_step setting log number uplink found) now → LeadsTo order setting log number now
uplink_leads order setting log number uplink now payload None is goes = refusal_leads order setting log number why.UnknownAddress now goes
uplink_leads order setting log number uplink now payload (Some link) is goes = at (same_text uplink.registration setting.registration) goes
  where
    at : (same : Bool)
        → GoesTo order log number (if same
        then takes log link (payload_happenings number (Uplink number link uplink.octets) uplink.asked)
        else refuses number (why.OtherRegistration registration_place)) now
        → LeadsTo order setting log number now
    at false goes = refusal_leads order setting log number (why.OtherRegistration registration_place) now goes
    at true goes =
        let taken = taken_goes order log number link (payload_happenings number (Uplink number link uplink.octets) uplink.asked) now goes in
        let inside = link_inside setting uplink.address link is in
        payload_leads order setting log number (Uplink number link uplink.octets) uplink.asked now taken.1
        (record { of_line = refl; taken = (inside, payload.some, payload.few); text = (payload.bytes, taken.0) })

answer_leads : (order : List ℕ) (setting : Setting) (log : List Happening) (number link : ℕ) (answer : LogonAnswer) (now : List Happening)
    → link < length setting.addresses → GoesTo order log number (answer_step setting log number link answer) now → LeadsTo order setting log number now
answer_leads order setting log number link answer now inside goes = at (same_text answer.registration setting.registration) goes
  where
    at : (same : Bool)
        → GoesTo order log number (if same
        then takes log link (Entered (Answer number link answer.code) ∷ [])
        else refuses number (why.OtherRegistration (flight_place + length answer.flight + 1))) now
        → LeadsTo order setting log number now
    at false goes = refusal_leads order setting log number (why.OtherRegistration (flight_place + length answer.flight + 1)) now goes
    at true goes =
        let taken = taken_goes order log number link (Entered (Answer number link answer.code) ∷ []) now goes in
        leads order setting log number now (Entered (Answer number link answer.code)) taken.1
        (record { of_line = refl; taken = inside; text = taken.0 })

characters_lead : (order : List ℕ) (setting : Setting) (log : List Happening) (number link : ℕ) (answer : Result LogonAnswer AfnRefusal) (now : List Happening)
    → link < length setting.addresses → GoesTo order log number (characters_step setting log number link answer) now
    → LeadsTo order setting log number now
characters_lead order setting log number link (Ok answer) now inside goes = answer_leads order setting log number link answer now inside goes
characters_lead order setting log number link (Err refusal) now inside goes =
    refusal_leads order setting log number (why.Afn (characters_place + refusal.place)) now goes

notice_leads : (order : List ℕ) (setting : Setting) (log : List Happening) (number : ℕ) (notice : AfnUplink) (now : List Happening)
    (found : Option ℕ) → link_to setting notice.address ≡ found
    → GoesTo order log number (notice_step setting log number notice found) now → LeadsTo order setting log number now
notice_leads order setting log number notice now None is goes = refusal_leads order setting log number why.UnknownAddress now goes
notice_leads order setting log number notice now (Some link) is goes =
    characters_lead order setting log number link notice.answer now (link_inside setting notice.address link is) goes

-- A line that brings this text leads from deeds to deeds.
text_leads : (order : List ℕ) (setting : Setting) (log : List Happening) (number : ℕ) (reading : GroundText) (now : List Happening)
    → CarriesPayload reading → GoesTo order log number (text_step setting log number reading) now → LeadsTo order setting log number now
text_leads order setting log number (text.Refused fault) now carries goes = refusal_leads order setting log number (why.Envelope fault) now goes
text_leads order setting log number (text.Ads uplink) now carries goes =
    uplink_leads order setting log number uplink now carries (link_to setting uplink.address) refl goes
text_leads order setting log number (text.Afn notice) now carries goes =
    notice_leads order setting log number notice now (link_to setting notice.address) refl goes

-- ---- runs

-- What holds before the line of this number, at each stage: in the head nothing happened, and what was said is right.
abbrev pub HasCome : List ℕ → Stage → List Happening → ℕ → Type 0
HasCome order begun log number = (number ≡ 1) × (log ≡ [])
HasCome order (named who) log number = (number ≡ 2) × (log ≡ []) × IsRightWho who
HasCome order (linked who addresses kept) log number = (number ≡ 3) × (log ≡ []) × IsRightWho who × AreLinks addresses kept
HasCome order (flying setting) log number = (4 ≤ number) × IsSettled setting × AreDeeds order setting number log

-- Each line keeps it.
pub comes_on : (order : List ℕ) (stage : Stage) (log : List Happening) (number : ℕ) (bytes : List ℕ) (reading : Reading) (now : List Happening)
    → ReadsLine number bytes reading → GoesTo order log number (step_of stage log number reading) now
    → HasCome order stage log number → HasCome order (stage_after stage reading) now (number + 1)
comes_on order begun log number bytes (Says (line.A who)) now reads goes come =
    (omega (arith, come.0), goes ∙ come.1, right_who who (fields_of bytes) reads.0.says.says)
comes_on order (named who) log number bytes (Says (line.G addresses reserved)) now reads goes come =
    (omega (arith, come.0), goes ∙ come.1, come.2, right_links addresses reserved (fields_of bytes) reads.0.says.count reads.0.says.says)
comes_on order (linked who addresses kept) log number bytes (Says (line.S sample)) now reads goes come = (
  omega (arith, come.0),
  settled_by who addresses kept sample come.2 come.3,
  subst (AreDeeds order (setting_with who addresses kept sample) (number + 1)) (sym (goes ∙ come.1)) tt,
)
comes_on order (flying setting) log number bytes (Says value) now reads goes come =
    (omega (arith, come.0), come.1, says_leads order setting log number bytes value now reads.0.says goes come.0 come.2)
comes_on order (flying setting) log number bytes (Brings reading) now reads goes come = (
  omega (arith, come.0),
  come.1,
  text_leads order setting log number reading now (read_text_carries (drop reads.0 bytes) reading reads.2) goes come.0 come.2,
)
comes_on order stage log number bytes reading now reads goes come = absurd goes

-- The log of a run holds deeds: the aircraft is settled, and each happening was done by a line behind the head, by its rule.
pub run_deeds : (bytes : List ℕ) (script : Script) (order : List ℕ) (run : Run) (setting : Setting) → IsScript bytes script
    → ScriptRun script order run → run.setting ≡ Some setting → HasDeeds order setting run
run_deeds bytes script order run setting is runs made = at end.stage (sym end.setting ∙ made) end.holds
  where
    end : AtEnd (HasCome order) run
    end =
        along order (HasCome order) (comes_on order) script.over (lines_before_limit bytes) script.readings begun [] 1 run is.lines runs (refl, refl)

    at : (stage : Stage) → setting_at stage ≡ Some setting → HasCome order stage run.log end.number → HasDeeds order setting run
    at (flying other) same come =
        let is : other ≡ setting = cc in
        subst (λ s. HasDeeds order s run) is (record { settled = come.1; number = end.number; deeds = come.2 })
    at stage same come = absurd (cc)
