-- How the audit of a log ends (this project's profile).
use Rattle.std.specs.Prelude.{◌≡◌, ◌↔◌, ℕ, ◌+◌, Bool, true, false, IsTrue, List, [], ◌∷◌, length}
use Rattle.adsc_io.specs.Inputs.{IsOverLimit, lines_before_limit}
use Rattle.aircraft_core.specs.Setting.{Setting}
use Rattle.net_script.specs.declared.refusal.BadLine.{BadLine}
use Rattle.net_script.specs.declared.refusal.Code.TheVariants as code
use Rattle.run_rules.specs.Stages.{Stage, flying}
use Rattle.audit_rules.specs.Conforming.{AllConform, DifferenceData, HasDownlinks, IsFirstDifference}
use Rattle.audit_rules.specs.LogReadings.{LogReading, ReadsLogLine}
use Rattle.audit_rules.specs.Logs.{LoggedEntry, LogState, LogStep, goes, ends, journal_of, log_step, no_line}

-- The end of an audit: each entry conforms on each link, so many entries with so many downlinks; the first that doesn't differs so; a
-- line is bad; or the limit is met at this line.
pub data AuditedEnd : Type 0 where
  conforms : ℕ → ℕ → AuditedEnd
  differs : DifferenceData → AuditedEnd
  bad : BadLine → AuditedEnd
  limited : ℕ → AuditedEnd

-- The audit of these entries, the newest first, ends so.
abbrev pub IsVerdict : Setting → List LoggedEntry → AuditedEnd → Type 0
IsVerdict setting logged (conforms count downlinks) =
    AllConform setting logged × (count ≡ length logged) × HasDownlinks setting (journal_of logged) 0 setting.addresses downlinks
IsVerdict setting logged (differs difference) = IsFirstDifference setting logged difference
IsVerdict setting logged end = ⊥

-- A log with no further line, whose next line would have this number, ends so: where the limit is met there, at the limit; in the
-- middle of its head with a bad line; else its entries are judged.
abbrev pub IsEndBehind : Bool → Stage → List LoggedEntry → ℕ → AuditedEnd → Type 0
IsEndBehind true stage logged number end = end ≡ limited number
IsEndBehind false (flying setting) logged number end = IsVerdict setting logged end
IsEndBehind false stage logged number end = end ≡ bad (record { line = number; code = code.Head; value = 0 })

-- A line that does this step leads to this end, with what follows behind it.
abbrev pub StepEnds : (LogState → Type 0) → ℕ → LogStep → AuditedEnd → Type 0
StepEnds Behind number (goes state) end = Behind state
StepEnds Behind number (ends found value) end = end ≡ bad (record { line = number; code = found; value = value })

-- From this state on these lines, of which the first has this number, lead to this end: each line does its step, up to the first that is
-- bad.
abbrev pub LinesEnd : Bool → LogState → ℕ → List (List ℕ) → AuditedEnd → Type 0
LinesEnd over state number [] end = IsEndBehind over state.stage state.logged number end
LinesEnd over state number (line ∷ lines) end =
    (reading : LogReading) × ReadsLogLine number line reading
    × StepEnds (λ behind. LinesEnd over behind (number + 1) lines end) number (log_step state number reading) end

-- The audit of these bytes ends so.
pub record IsAuditEnd (bytes : List ℕ) (end : AuditedEnd) : Type 0 where
  pub over : Bool
  pub limit : IsTrue over ↔ IsOverLimit bytes
  pub lines : LinesEnd over no_line 1 (lines_before_limit bytes) end
