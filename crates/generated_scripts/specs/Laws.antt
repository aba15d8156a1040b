-- The laws of generated scripts, as statements: each line is read as what was drawn, and each line is taken.
use Rattle.std.specs.Prelude.{◌≡◌, ◌≤◌, ◌-◌, ℕ, Bool, true, false, List, [], ◌∷◌, Some, Result, Ok, Err, length}
use Rattle.std.specs.List.{count_by}
use Rattle.std.specs.List.{AllByRecursion}
use Rattle.acars_envelope.specs.Names.{with_dots}
use Rattle.adsc_requests.specs.declared.message.Uplink.{Uplink as UplinkMessages}
use Rattle.adsc_requests.specs.declared.refusal.Refusal.{Refusal}
use Rattle.aircraft_core.specs.Setting.{Setting}
use Rattle.flight_samples.specs.Samples.{values_of}
use Rattle.ground_texts.specs.declared.ground_text.AdsUplink.{AdsUplink}
use Rattle.ground_texts.specs.declared.ground_text.GroundText.TheVariants as text
use Rattle.net_script.specs.declared.line.ScriptLine.TheVariants as line
use Rattle.run_rules.specs.Happenings.{entries, refused_lines}
use Rattle.run_rules.specs.Readings.{ReadsLine}
use Rattle.run_rules.specs.Runs.{IsAllowedOrder, IsScript, Run, Script, ScriptRun}
use Rattle.run_rules.specs.declared.end.End.TheVariants.{Done}
use Rattle.run_rules.specs.declared.reading.Reading.{Reading}
use Rattle.run_rules.specs.declared.reading.Reading.TheVariants.{Says, Brings}
use Rattle.generated_scripts.specs.Generator.{made_lines, made_script}
use Rattle.generated_scripts.specs.Heads.{BeginsWithHead}
use Rattle.generated_scripts.specs.Limits.{IsWithin}
use Rattle.generated_scripts.specs.Payloads.{payload_octets}
use Rattle.generated_scripts.specs.Summaries.{IsSummaryOf}
use Rattle.generated_scripts.specs.Texts.{line_text, made_address, made_addresses, made_mark, sample_columns}
use Rattle.generated_scripts.specs.declared.line.MadeLine.{MadeLine}
use Rattle.generated_scripts.specs.declared.line.MadeLine.TheVariants.{Sample, Time, Crew, Uplink}
use Rattle.generated_scripts.specs.declared.line.MadePayload.{MadePayload}
use Rattle.generated_scripts.specs.declared.line.MadePayload.TheVariants.{Malformed}

-- ---- what was drawn

-- The payload is read as an uplink, or, where it is the malformed one, it is refused.
abbrev pub IsAskedBy : MadePayload → Result UplinkMessages Refusal → Type 0
IsAskedBy (Malformed number) (Ok uplink) = ⊥
IsAskedBy (Malformed number) (Err refusal) = Unit {0}
IsAskedBy payload (Ok uplink) = Unit {0}
IsAskedBy payload (Err refusal) = ⊥

-- The text of ADS is the one that was drawn: from the address at this place, for the script's aircraft, with this payload.
pub record IsDrawnText (place : ℕ) (payload : MadePayload) (uplink : AdsUplink) : Type 0 where
  pub address : uplink.address ≡ made_address place
  pub registration : uplink.registration ≡ with_dots made_mark
  pub octets : uplink.octets.items ≡ payload_octets payload
  pub asked : IsAskedBy payload uplink.asked

-- A line is read as what was drawn.
abbrev pub IsReadAs : MadeLine → Reading → Type 0
IsReadAs (Sample drawn) (Says (line.S sample)) = values_of sample ≡ sample_columns drawn
IsReadAs (Time drawn) (Says (line.T moment)) = moment ≡ drawn
IsReadAs (Crew drawn) (Says (line.E on)) = on ≡ drawn
IsReadAs (Uplink place payload) (Brings (text.Ads uplink)) = IsDrawnText place payload uplink
IsReadAs drawn reading = ⊥

-- Each of these lines is read as what was drawn, one for each in their order.
abbrev pub AreReadAs : List MadeLine → List Reading → Type 0
AreReadAs [] readings = readings ≡ []
AreReadAs (drawn ∷ lines) [] = ⊥
AreReadAs (drawn ∷ lines) (reading ∷ readings) = IsReadAs drawn reading × AreReadAs lines readings

-- ---- the laws

-- All that is drawn for a script of at most 200,000 lines is within its limits.
abbrev pub LinesAreWithin : Type 0
LinesAreWithin = (number lines : ℕ) → lines ≤ 200000 → AllByRecursion IsWithin (made_lines number lines)

-- A line that is drawn within its limits is read, wherever it stands behind the head of a script, as what was drawn.
abbrev pub LinesAreReadAsDrawn : Type 0
LinesAreReadAsDrawn = (place : ℕ) (drawn : MadeLine) → 4 ≤ place → IsWithin drawn
    → (reading : Reading) × ReadsLine place (line_text drawn) reading × IsReadAs drawn reading

-- A script is read as what was drawn: it isn't over the limit, and its readings are the head and what each further line says.
pub record IsReadAsDrawn (number lines : ℕ) (script : Script) : Type 0 where
  pub within : script.over ≡ false
  pub behind : List Reading
  pub head : BeginsWithHead script.readings behind
  pub drawn : AreReadAs (made_lines number lines) behind

abbrev pub ScriptsAreReadAsDrawn : Type 0
ScriptsAreReadAsDrawn = (number lines : ℕ) (script : Script) → 3 ≤ lines → lines ≤ 200000 → IsScript (made_script number lines) script
    → IsReadAsDrawn number lines script

-- Whether a line that is drawn has the malformed payload.
abbrev pub is_malformed : MadeLine → Bool
is_malformed (Uplink place (Malformed number)) = true
is_malformed drawn = false

-- A run has taken each line behind the head of a script: the script is done, each line made an entry, and a text is refused, besides, where
-- its payload is malformed.
pub record HasTakenAll (number lines : ℕ) (run : Run) : Type 0 where
  pub ends : run.end ≡ Done
  pub setting : Setting
  pub flies : run.setting ≡ Some setting
  pub addresses : setting.addresses ≡ made_addresses
  pub taken : length (entries run.log) ≡ lines - 3
  pub refused : length (refused_lines run.log) ≡ count_by is_malformed (made_lines number lines)

-- So each script is taken whole, whatever the order.
abbrev pub EachLineIsTaken : Type 0
EachLineIsTaken = (number lines : ℕ) (script : Script) (order : List ℕ) (run : Run) → 3 ≤ lines → lines ≤ 200000
    → IsScript (made_script number lines) script → ScriptRun script order run → HasTakenAll number lines run

-- However many workers take the entries of a generated script, and in which allowed order, it has the same summary.
abbrev pub OneSummary : Type 0
OneSummary = (number lines : ℕ) (script : Script) (workers others : ℕ) (order other_order : List ℕ) (run other : Run) (text other_text : List ℕ)
    → 3 ≤ lines → lines ≤ 200000 → IsScript (made_script number lines) script
    → ScriptRun script order run → IsAllowedOrder script run workers order → IsSummaryOf number lines order run text
    → ScriptRun script other_order other → IsAllowedOrder script other others other_order → IsSummaryOf number lines other_order other other_text
    → text ≡ other_text

-- And it has one: each run has a summary.
abbrev pub EachRunHasASummary : Type 0
EachRunHasASummary = (number lines : ℕ) (script : Script) (order : List ℕ) (run : Run) → 3 ≤ lines → lines ≤ 200000
    → IsScript (made_script number lines) script → ScriptRun script order run → (text : List ℕ) × IsSummaryOf number lines order run text
