-- An input has one end of an audit.
use Rattle.std.proofs.Common.{◌≡◌, ℕ, ◌+◌, Bool, true, false, IsTrue, List, [], ◌∷◌, length, refl, sym, ap, ap₂, ◌∙◌, subst}
use Rattle.adsc_io.specs.Inputs.{IsOverLimit, lines_before_limit}
use Rattle.aircraft_core.specs.Setting.{Setting}
use Rattle.run_rules.specs.Stages.{Stage, begun, named, linked, flying}
use Rattle.run_rules.specs.declared.reading.Reading.{Reading}
use Rattle.run_rules.proofs.OneReading.{one_reading}
use Rattle.audit_rules.specs.AuditEnds.{AuditedEnd, conforms, differs, bad, limited, IsAuditEnd, IsEndBehind, IsVerdict, LinesEnd, StepEnds}
use Rattle.audit_rules.specs.LogReadings.{LogReading, Reads, Records, ReadsLogLine, ReadsSort, Sort, of_centre, recorded, without_comma, of_script, sort_at}
use Rattle.audit_rules.specs.Logs.{LoggedEntry, LogState, LogStep, goes, ends, journal_of, log_step, no_line}
use Rattle.audit_rules.proofs.Counts.{one_count}
use Rattle.audit_rules.proofs.Verdicts.{all_conform_no_difference, one_first_difference}

one_of_sort : (sort : Sort) (number : ℕ) (line : List ℕ) (one other : LogReading) → ReadsSort sort number line one → ReadsSort sort number line other → one ≡ other
one_of_sort of_centre number line one other first second = first ∙ sym second
one_of_sort (recorded text) number line one other first second = first ∙ sym second
one_of_sort without_comma number line one other first second = first ∙ sym second
one_of_sort of_script number line (Reads one) (Reads other) first second = ap Reads (one_reading number line one other first second)
one_of_sort of_script number line (Records one) other first second = absurd first
one_of_sort of_script number line (Reads one) (Records other) first second = absurd second

pub one_log_reading : (number : ℕ) (line : List ℕ) (one other : LogReading) → ReadsLogLine number line one → ReadsLogLine number line other → one ≡ other
one_log_reading number line one other first second = one_of_sort (sort_at number line) number line one other first second

one_verdict : (setting : Setting) (logged : List LoggedEntry) (one other : AuditedEnd) → IsVerdict setting logged one → IsVerdict setting logged other → one ≡ other
one_verdict setting logged (conforms n m) (conforms k l) first second =
    ap₂ conforms (first.1 ∙ sym second.1) (one_count setting (journal_of logged) 0 setting.addresses m l first.2 second.2)
one_verdict setting logged (differs one) (differs other) first second = ap differs (one_first_difference setting logged one other first second)
one_verdict setting logged (conforms n m) (differs other) first second = absurd (all_conform_no_difference setting logged other first.0 second)
one_verdict setting logged (differs one) (conforms k l) first second = absurd (all_conform_no_difference setting logged one second.0 first)
one_verdict setting logged (bad line) other first second = absurd first
one_verdict setting logged (limited line) other first second = absurd first
one_verdict setting logged (conforms n m) (bad line) first second = absurd second
one_verdict setting logged (conforms n m) (limited line) first second = absurd second
one_verdict setting logged (differs one) (bad line) first second = absurd second
one_verdict setting logged (differs one) (limited line) first second = absurd second

one_end_behind : (over : Bool) (stage : Stage) (logged : List LoggedEntry) (number : ℕ) (one other : AuditedEnd) → IsEndBehind over stage logged number one
    → IsEndBehind over stage logged number other → one ≡ other
one_end_behind true stage logged number one other first second = first ∙ sym second
one_end_behind false (flying setting) logged number one other first second = one_verdict setting logged one other first second
one_end_behind false begun logged number one other first second = first ∙ sym second
one_end_behind false (named who) logged number one other first second = first ∙ sym second
one_end_behind false (linked who addresses kept) logged number one other first second = first ∙ sym second

one_step_end : (Behind : LogState → AuditedEnd → Type 0) (number : ℕ) (step : LogStep) (one other : AuditedEnd)
    → ((state : LogState) → Behind state one → Behind state other → one ≡ other)
    → StepEnds (λ state. Behind state one) number step one → StepEnds (λ state. Behind state other) number step other → one ≡ other
one_step_end Behind number (goes state) one other rest first second = rest state first second
one_step_end Behind number (ends found value) one other rest first second = first ∙ sym second

one_lines_end : (over : Bool) (state : LogState) (number : ℕ) (lines : List (List ℕ)) (one other : AuditedEnd) → LinesEnd over state number lines one
    → LinesEnd over state number lines other → one ≡ other
one_lines_end over state number [] one other first second = one_end_behind over state.stage state.logged number one other first second
one_lines_end over state number (line ∷ lines) one other first second =
    let same : second.0 ≡ first.0 = one_log_reading number line second.0 first.0 second.1 first.1 in
    one_step_end (λ behind end. LinesEnd over behind (number + 1) lines end) number (log_step state number first.0) one other
    (λ behind a b. one_lines_end over behind (number + 1) lines one other a b) first.2
    (subst (λ reading. StepEnds (λ behind. LinesEnd over behind (number + 1) lines other) number (log_step state number reading) other) same second.2)

-- whether the limit is met is one thing
same_limit : (P : Type 0) (a b : Bool) → (IsTrue a → P) → (P → IsTrue a) → (IsTrue b → P) → (P → IsTrue b) → a ≡ b
same_limit P true true p q r s = refl
same_limit P false false p q r s = refl
same_limit P true false p q r s = absurd (let no : false ≡ true = s (p refl) in cc)
same_limit P false true p q r s = absurd (let no : false ≡ true = q (r refl) in cc)

pub one_audit_end : (bytes : List ℕ) (one other : AuditedEnd) → IsAuditEnd bytes one → IsAuditEnd bytes other → one ≡ other
one_audit_end bytes one other first second =
    let same : second.over ≡ first.over =
    same_limit (IsOverLimit bytes) second.over first.over second.limit.0 second.limit.1 first.limit.0 first.limit.1 in
    one_lines_end first.over no_line 1 (lines_before_limit bytes) one other first.lines
    (subst (λ over. LinesEnd over no_line 1 (lines_before_limit bytes) other) same second.lines)
