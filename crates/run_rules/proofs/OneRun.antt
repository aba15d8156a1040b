-- A script has at most one run under an order, and a run has at most one output.
use Rattle.std.proofs.Common.{◌≡◌, ℕ, ◌+◌, ◌-◌, Bool, List, [], ◌∷◌, ◌++◌, length, Option, Some, None, sym, ap, ◌∙◌, subst, codes}
use Rattle.std.specs.List.{flat_map, slice_get}
use Rattle.adsc_io.specs.Lines.{ended}
use Rattle.aircraft_core.specs.LogonStates.{logon_state}
use Rattle.aircraft_core.specs.Setting.{Setting, address_of}
use Rattle.aircraft_core.specs.declared.entry.Entry.{Entry}
use Rattle.aircraft_core.proofs.OneList.{same_downlinks}
use Rattle.centre_core.proofs.HearingLaws.{one_hearing}
use Rattle.run_rules.specs.Happenings.{Happening, Heard, refused_lines}
use Rattle.run_rules.specs.Lines.{step_of}
use Rattle.run_rules.specs.Output.{AreLinkLines, AreLinesOfLinks, IsEndText, IsRunText, downlink_lines, journal_line, lines_of_centres, logon_line, refused_line}
use Rattle.run_rules.specs.Runs.{DeliveryRuns, LinesRun, Run, Script, ScriptRun, StepRuns, journal_at}
use Rattle.run_rules.specs.Stages.{Stage, begun, Step, does, receives, stops, stage_after}
use Rattle.run_rules.specs.declared.end.End.{End}
use Rattle.run_rules.specs.declared.end.End.TheVariants.{Done, Bad, Limit}
use Rattle.run_rules.specs.declared.reading.Reading.{Reading}

-- ---- runs

-- One run stands behind each log.
abbrev IsOneBehind : (List Happening → Run → Type 0) → Type 0
IsOneBehind Behind = (now : List Happening) (a b : Run) → Behind now a → Behind now b → a ≡ b

delivery_one : (Behind : List Happening → Run → Type 0) (stage : Stage) (log : List Happening) (number : ℕ) (setting : Setting) (link place count : ℕ)
    (found : Option (List ℕ)) (one other : Run) → IsOneBehind Behind
    → DeliveryRuns Behind stage log number setting link place count found one → DeliveryRuns Behind stage log number setting link place count found other
    → one ≡ other
delivery_one Behind stage log number setting link place count None one other rest first second = first ∙ sym second
delivery_one Behind stage log number setting link place count (Some text) one other rest first second =
    let same : second.0 ≡ first.0 = one_hearing (address_of setting link) setting.registration text second.0 first.0 second.1 first.1 in
    rest (Heard number link place first.0 ∷ log) one other first.2
    (subst (λ hearing. Behind (Heard number link place hearing ∷ log) other) same second.2)

step_one : (Behind : List Happening → Run → Type 0) (order : List ℕ) (stage : Stage) (log : List Happening) (number : ℕ) (step : Step) (one other : Run)
    → IsOneBehind Behind → StepRuns Behind order stage log number step one → StepRuns Behind order stage log number step other → one ≡ other
step_one Behind order stage log number (does happenings) one other rest first second = rest (happenings ++ log) one other first second
step_one Behind order stage log number (stops found value) one other rest first second = first ∙ sym second
step_one Behind order stage log number (receives setting link place) one other rest first second =
    let same : second.0 ≡ first.0 = same_downlinks setting (journal_at order log) link second.0 first.0 second.1 first.1 in
    delivery_one Behind stage log number setting link place (length first.0) (slice_get first.0 (place - 1)) one other rest first.2
    (subst (λ texts. DeliveryRuns Behind stage log number setting link place (length texts) (slice_get texts (place - 1)) other) same second.2)

lines_one : (over : Bool) (order : List ℕ) (stage : Stage) (log : List Happening) (number : ℕ) (readings : List Reading) (one other : Run)
    → LinesRun over order stage log number readings one → LinesRun over order stage log number readings other → one ≡ other
lines_one over order stage log number [] one other first second = first ∙ sym second
lines_one over order stage log number (reading ∷ readings) one other first second =
    step_one (λ now behind. LinesRun over order (stage_after stage reading) now (number + 1) readings behind) order stage log number
    (step_of stage log number reading) one other
    (λ now a b at_a at_b. lines_one over order (stage_after stage reading) now (number + 1) readings a b at_a at_b) first second

pub one_run : (script : Script) (order : List ℕ) (one other : Run) → ScriptRun script order one → ScriptRun script order other → one ≡ other
one_run script order one other first second = lines_one script.over order begun [] 1 script.readings one other first second

-- ---- outputs

links_one : (setting : Setting) (journal : List Entry) (link : ℕ) (addresses : List (List ℕ)) (one other : List ℕ)
    → AreLinkLines setting journal link addresses one → AreLinkLines setting journal link addresses other → one ≡ other
links_one setting journal link [] one other first second = first ∙ sym second
links_one setting journal link (address ∷ addresses) one other first second =
    first.4
    ∙ ap (λ (texts : List (List ℕ)). logon_line address (logon_state link journal) ++ (downlink_lines texts ++ first.1))
    (same_downlinks setting journal link first.0 second.0 first.2 second.2)
    ∙ ap (λ (behind : List ℕ). logon_line address (logon_state link journal) ++ (downlink_lines second.0 ++ behind))
    (links_one setting journal (link + 1) addresses first.1 second.1 first.3 second.3)
    ∙ sym second.4

lines_of_links_one : (setting : Option Setting) (journal : List Entry) (one other : List ℕ) → AreLinesOfLinks setting journal one
    → AreLinesOfLinks setting journal other → one ≡ other
lines_of_links_one None journal one other first second = first ∙ sym second
lines_of_links_one (Some setting) journal one other first second = links_one setting journal 0 setting.addresses one other first second

pub end_text_one : (order : List ℕ) (run : Run) (end : End) (one other : List ℕ) → IsEndText order run end one → IsEndText order run end other → one ≡ other
end_text_one order run Done one other first second =
    first.2
    ∙ ap (λ links. links ++ (flat_map refused_line (refused_lines run.log) ++ (lines_of_centres run.setting run.log ++ ended (codes "OK"))))
    (lines_of_links_one run.setting (journal_at order run.log) first.0 second.0 first.1 second.1)
    ∙ sym second.2
end_text_one order run (Bad bad) one other first second = first ∙ sym second
end_text_one order run (Limit line) one other first second = first ∙ sym second

pub one_output : (order : List ℕ) (run : Run) (one other : List ℕ) → IsRunText order run one → IsRunText order run other → one ≡ other
one_output order run one other first second =
    first.spelled
    ∙ ap (λ behind. journal_line order ++ behind) (end_text_one order run run.end first.behind second.behind first.is_end second.is_end)
    ∙ sym second.spelled
