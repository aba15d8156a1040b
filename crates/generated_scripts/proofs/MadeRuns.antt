-- Each line of a generated script is taken.
use Rattle.std.proofs.Common.{◌≡◌, ℕ, zero, suc, ◌+◌, ◌<◌, Bool, true, false, if◌then◌else◌, List, [], ◌∷◌, ◌++◌, length, None, Some, Result, Ok, Err, refl, sym, ◌∙◌, ap, subst, arith, length-append}
use Rattle.std.specs.List.{AllByRecursion, count_by}
use Rattle.std.proofs.lemmas.List.Sums.{sum_by-cons}
use Rattle.acars_envelope.specs.Names.{with_dots}
use Rattle.adsc_requests.specs.declared.message.Uplink.{Uplink as UplinkMessages}
use Rattle.adsc_requests.specs.declared.refusal.Refusal.{Refusal}
use Rattle.aircraft_core.specs.Setting.{Setting}
use Rattle.aircraft_core.specs.declared.entry.Entry.{Entry}
use Rattle.aircraft_core.specs.declared.entry.Entry.TheVariants as entry
use Rattle.ground_texts.specs.declared.ground_text.AdsUplink.{AdsUplink}
use Rattle.ground_texts.specs.declared.ground_text.GroundText.TheVariants as text
use Rattle.net_script.specs.declared.line.ScriptLine.TheVariants as line
use Rattle.net_script.specs.declared.refusal.Code.TheVariants as code
use Rattle.run_rules.specs.Happenings.{Happening, Entered, entries, is_centre, refused_lines}
use Rattle.run_rules.specs.Lines.{step_of}
use Rattle.run_rules.specs.Runs.{LinesRun, Run, Script, ScriptRun, StepRuns}
use Rattle.run_rules.specs.Stages.{Step, begun, does, flying, setting_with, stage_after, stops}
use Rattle.run_rules.specs.Texts.{link_from, link_to, payload_happenings, refuses, registration_place, takes, text_step, uplink_step}
use Rattle.run_rules.specs.declared.end.End.TheVariants.{Done}
use Rattle.run_rules.specs.declared.reading.Reading.{Reading}
use Rattle.run_rules.specs.declared.reading.Reading.TheVariants.{Says, Brings}
use Rattle.run_rules.specs.declared.refused.RefusedWhy.TheVariants as why
use Rattle.run_rules.proofs.SentTexts.{same_is}
use Rattle.generated_scripts.specs.Generator.{made_lines}
use Rattle.generated_scripts.specs.Laws.{AreReadAs, EachLineIsTaken, IsAskedBy, IsDrawnText, IsReadAs, IsReadAsDrawn, is_malformed}
use Rattle.generated_scripts.specs.Limits.{IsWithin}
use Rattle.generated_scripts.specs.Texts.{made_address, made_addresses, made_mark}
use Rattle.generated_scripts.specs.declared.line.MadeLine.{MadeLine}
use Rattle.generated_scripts.specs.declared.line.MadeLine.TheVariants.{Sample, Time, Crew, Uplink}
use Rattle.generated_scripts.specs.declared.line.MadePayload.{MadePayload}
use Rattle.generated_scripts.specs.declared.line.MadePayload.TheVariants.{Demand, Periodic, Event, Emergency, Cancel, CancelAll, Malformed}
use Rattle.generated_scripts.proofs.MadeLines.{lines_within}
use Rattle.generated_scripts.proofs.MadeScripts.{made_count, script_read}

-- ---- one line

-- No address is a centre's.
abbrev pub NoCentre : List Happening → Type 0
NoCentre log = (link : ℕ) → is_centre link log ≡ false

-- The aircraft of a generated script.
abbrev pub IsMadeSetting : Setting → Type 0
IsMadeSetting setting = (setting.registration ≡ with_dots made_mark) × (setting.addresses ≡ made_addresses)

-- The step makes one entry, and, where the text is malformed, it refuses it besides; no address becomes a centre's.
pub record IsTaken (log : List Happening) (malformed : Bool) (step : Step) : Type 0 where
  pub happenings : List Happening
  pub does_so : step ≡ does happenings
  pub one : length (entries (happenings ++ log)) ≡ length (entries log) + 1
  pub refused : length (refused_lines (happenings ++ log)) ≡ length (refused_lines log) + (if malformed then 1 else 0)
  pub free : NoCentre log → NoCentre (happenings ++ log)

entered_taken : (log : List Happening) (step : Step) (made : Entry) → step ≡ does (Entered made ∷ []) → IsTaken log false step
entered_taken log step made is = record {
  happenings = Entered made ∷ [];
  does_so = is;
  one = length-append (entries log) (made ∷ []);
  refused = omega (arith, length-append (refused_lines log) []);
  free = λ none. none;
}

refused_taken : (log : List Happening) (step : Step) (number : ℕ) (made : Entry) (refusal : Refusal)
    → step ≡ does (payload_happenings number made (Err refusal)) → IsTaken log true step
refused_taken log step number made refusal is = record {
  happenings = payload_happenings number made (Err refusal);
  does_so = is;
  one = omega (arith, length-append (entries log) (made ∷ []), length-append (entries log ++ made ∷ []) []);
  refused = omega (arith, length-append (refused_lines log) [], length-append (refused_lines log ++ []) (record { line = number; why = why.Bits refusal } ∷ []));
  free = λ none. none;
}

-- ---- texts

link_of : (setting : Setting) (place : ℕ) (address : List ℕ) → setting.addresses ≡ made_addresses → place < 5 → address ≡ made_address place
    → link_to setting address ≡ Some place
link_of setting place address listed inside is =
    ap (λ addresses. link_from 0 addresses address) listed ∙ ap (λ a. link_from 0 made_addresses a) is ∙ found place inside
  where
    found : (place : ℕ) → place < 5 → link_from 0 made_addresses (made_address place) ≡ Some place
    found zero inside = refl
    found (suc zero) inside = refl
    found (suc (suc zero)) inside = refl
    found (suc (suc (suc zero))) inside = refl
    found (suc (suc (suc (suc zero)))) inside = refl
    found (suc (suc (suc (suc (suc place))))) inside = absurd (omega (arith, inside))

-- A text of the aircraft's own, from an address that is no centre's, does what its payload does.
text_does : (setting : Setting) (log : List Happening) (number link : ℕ) (uplink : AdsUplink) → uplink.registration ≡ setting.registration
    → link_to setting uplink.address ≡ Some link → is_centre link log ≡ false
    → text_step setting log number (text.Ads uplink) ≡ does (payload_happenings number (entry.Uplink number link uplink.octets) uplink.asked)
text_does setting log number link uplink own found free =
    ap (λ place. uplink_step setting log number uplink place) found
    ∙ ap
    (λ same. if same
    then takes log link (payload_happenings number (entry.Uplink number link uplink.octets) uplink.asked)
    else refuses number (why.OtherRegistration registration_place))
    (same_is uplink.registration setting.registration own)
    ∙ ap (λ centre. if centre then stops code.Role 0 else does (payload_happenings number (entry.Uplink number link uplink.octets) uplink.asked)) free

asked_taken : (log : List Happening) (step : Step) (number : ℕ) (made : Entry) (place : ℕ) (payload : MadePayload) (asked : Result UplinkMessages Refusal)
    → IsAskedBy payload asked → step ≡ does (payload_happenings number made asked) → IsTaken log (is_malformed (Uplink place payload)) step
asked_taken log step number made place (Malformed n) (Ok uplink) asks is = absurd asks
asked_taken log step number made place (Malformed n) (Err refusal) asks is = refused_taken log step number made refusal is
asked_taken log step number made place (Demand n) (Ok uplink) asks is = entered_taken log step made is
asked_taken log step number made place (Demand n) (Err refusal) asks is = absurd asks
asked_taken log step number made place (Periodic n interval) (Ok uplink) asks is = entered_taken log step made is
asked_taken log step number made place (Periodic n interval) (Err refusal) asks is = absurd asks
asked_taken log step number made place (Event n lateral) (Ok uplink) asks is = entered_taken log step made is
asked_taken log step number made place (Event n lateral) (Err refusal) asks is = absurd asks
asked_taken log step number made place (Emergency n interval) (Ok uplink) asks is = entered_taken log step made is
asked_taken log step number made place (Emergency n interval) (Err refusal) asks is = absurd asks
asked_taken log step number made place (Cancel n) (Ok uplink) asks is = entered_taken log step made is
asked_taken log step number made place (Cancel n) (Err refusal) asks is = absurd asks
asked_taken log step number made place CancelAll (Ok uplink) asks is = entered_taken log step made is
asked_taken log step number made place CancelAll (Err refusal) asks is = absurd asks

text_taken : (setting : Setting) (log : List Happening) (number place : ℕ) (payload : MadePayload) (uplink : AdsUplink) → IsMadeSetting setting → NoCentre log
    → place < 5 → IsDrawnText place payload uplink → IsTaken log (is_malformed (Uplink place payload)) (text_step setting log number (text.Ads uplink))
text_taken setting log number place payload uplink made free inside is =
    asked_taken log (text_step setting log number (text.Ads uplink)) number (entry.Uplink number place uplink.octets) place payload uplink.asked is.asked
    (text_does setting log number place uplink (is.registration ∙ sym made.0) (link_of setting place uplink.address made.1 inside is.address) (free place))

-- ---- lines

-- A line that is read as what was drawn is taken, and the aircraft flies on.
line_taken : (setting : Setting) (log : List Happening) (number : ℕ) (drawn : MadeLine) (reading : Reading) → IsMadeSetting setting → NoCentre log → IsWithin drawn
    → IsReadAs drawn reading → IsTaken log (is_malformed drawn) (step_of (flying setting) log number reading) × (stage_after (flying setting) reading ≡ flying setting)
line_taken setting log number (Sample drawn) (Says (line.S sample)) made free within is = (entered_taken log _ (entry.Sample number sample) refl, refl)
line_taken setting log number (Time drawn) (Says (line.T moment)) made free within is = (entered_taken log _ (entry.Tick number moment) refl, refl)
line_taken setting log number (Crew drawn) (Says (line.E on)) made free within is = (entered_taken log _ (entry.Crew number on) refl, refl)
line_taken setting log number (Uplink place payload) (Brings (text.Ads uplink)) made free within is =
    (text_taken setting log number place payload uplink made free within.0 is, refl)
line_taken setting log number drawn reading made free within is = absurd is

-- What the run of lines leaves that are read as what was drawn.
record HasTaken (setting : Setting) (log : List Happening) (lines : List MadeLine) (run : Run) : Type 0 where
  ends : run.end ≡ Done
  flies : run.setting ≡ Some setting
  taken : length (entries run.log) ≡ length (entries log) + length lines
  refused : length (refused_lines run.log) ≡ length (refused_lines log) + count_by is_malformed lines

-- Behind a line that is taken the run goes on with the others.
runs_on : (order : List ℕ) (setting : Setting) (log : List Happening) (number : ℕ) (malformed : Bool) (reading : Reading) (readings : List Reading) (run : Run)
    → (taken : IsTaken log malformed (step_of (flying setting) log number reading)) → stage_after (flying setting) reading ≡ flying setting
    → LinesRun false order (flying setting) log number (reading ∷ readings) run
    → LinesRun false order (flying setting) (taken.happenings ++ log) (number + 1) readings run
runs_on order setting log number malformed reading readings run taken same runs =
    subst (λ stage. LinesRun false order stage (taken.happenings ++ log) (number + 1) readings run) same
    (subst
    (λ step. StepRuns (λ now rest. LinesRun false order (stage_after (flying setting) reading) now (number + 1) readings rest) order (flying setting) log number step run)
    taken.does_so runs)

one_more : (setting : Setting) (log : List Happening) (drawn : MadeLine) (lines : List MadeLine) (step : Step) (run : Run)
    → (taken : IsTaken log (is_malformed drawn) step) → HasTaken setting (taken.happenings ++ log) lines run → HasTaken setting log (drawn ∷ lines) run
one_more setting log drawn lines step run taken rest =
    record {
      ends = rest.ends;
      flies = rest.flies;
      taken = omega (arith, rest.taken, taken.one);
      refused = rest.refused ∙ ap (λ n. n + count_by is_malformed lines) taken.refused ∙ counted (is_malformed drawn)
          ∙ ap (λ n. length (refused_lines log) + n) (sym (sum_by-cons (λ line. if is_malformed line then 1 else 0) drawn lines));
    }
  where
    counted : (malformed : Bool) → length (refused_lines log) + (if malformed then 1 else 0) + count_by is_malformed lines
        ≡ length (refused_lines log) + ((if malformed then 1 else 0) + count_by is_malformed lines)
    counted malformed = omega arith

lines_taken : (order : List ℕ) (setting : Setting) (log : List Happening) (number : ℕ) (lines : List MadeLine) (readings : List Reading) (run : Run)
    → IsMadeSetting setting → NoCentre log → AllByRecursion IsWithin lines → AreReadAs lines readings
    → LinesRun false order (flying setting) log number readings run → HasTaken setting log lines run
lines_taken order setting log number [] [] run made free within are runs =
    record {
      ends = ap (λ (r : Run). r.end) runs;
      flies = ap (λ (r : Run). r.setting) runs;
      taken = ap (λ (r : Run). length (entries r.log)) runs ∙ omega arith;
      refused = ap (λ (r : Run). length (refused_lines r.log)) runs ∙ omega arith;
    }
lines_taken order setting log number [] (reading ∷ readings) run made free within are runs = absurd (omega (arith, ap length are))
lines_taken order setting log number (drawn ∷ lines) [] run made free within are runs = absurd are
lines_taken order setting log number (drawn ∷ lines) (reading ∷ readings) run made free within are runs =
    let is = line_taken setting log number drawn reading made free within.0 are.0 in
    one_more setting log drawn lines (step_of (flying setting) log number reading) run is.0
    (lines_taken order setting (is.0.happenings ++ log) (number + 1) lines readings run made (is.0.free free) within.1 are.1
    (runs_on order setting log number (is_malformed drawn) reading readings run is.0 is.1 runs))

-- ---- scripts

-- Behind its head a script runs on from line 4.
script_flight : (number lines : ℕ) (script : Script) (order : List ℕ) (run : Run) (read : IsReadAsDrawn number lines script) → ScriptRun script order run
    → LinesRun false order (flying (setting_with read.head.who made_addresses None read.head.sample)) [] 4 read.behind run
script_flight number lines script order run read runs =
    subst (λ over. LinesRun over order (flying (setting_with read.head.who made_addresses None read.head.sample)) [] 4 read.behind run) read.within
    (subst (λ readings. LinesRun script.over order begun [] 1 readings run) read.head.joined runs)

-- The whole script is taken.
pub script_taken : EachLineIsTaken
script_taken number lines script order run some few is runs =
    record {
      ends = taken.ends;
      setting = setting;
      flies = taken.flies;
      addresses = refl;
      taken = omega (arith, taken.taken, made_count number lines);
      refused = taken.refused ∙ omega arith;
    }
  where
    read : IsReadAsDrawn number lines script
    read = script_read number lines script some few is

    setting : Setting
    setting = setting_with read.head.who made_addresses None read.head.sample

    taken : HasTaken setting [] (made_lines number lines) run
    taken =
        lines_taken order setting [] 4 (made_lines number lines) read.behind run (read.head.is_who.registration, refl) (λ link. refl)
        (lines_within number lines few) read.drawn (script_flight number lines script order run read runs)
