-- The laws of what `run` promises.
use Rattle.std.proofs.Common.{◌≡◌, ◌⊎◌, ℕ, List, Option, Some, None, IfSome, inl, inr, refl, sym, ap, ◌∙◌, subst}
use Rattle.std.specs.Io.KnownBytes.{Appends, IsAtEnd}
use Rattle.adsc_io.specs.Causes.{Rose}
use Rattle.adsc_io.specs.Writes.{AppendsPrefix}
use Rattle.adsc_run.specs.OutcomeTexts.{IsWritten}
use Rattle.adsc_run.specs.Outcomes.{IsOutcome}
use Rattle.adsc_run.specs.declared.outcome.Outcome.{Outcome}
use Rattle.run_rules.specs.Laws.{WhatIsShownWasAccepted}
use Rattle.run_rules.specs.declared.end.End.{End}
use Rattle.run_rules.specs.declared.end.End.TheVariants as run
use Rattle.adsc_bench.specs.Running.{IsOutput, RunPromises, Runs, WroteOutput, status_of_end}
use Rattle.adsc_bench.specs.Seen.{Seen, Faultless}
use Rattle.adsc_bench.specs.declared.status.Status.{Status}
use Rattle.adsc_bench.specs.declared.status.Status.TheVariants.{Done, ReadFault, WriteFault, NoMemory}

-- what holds of the bytes that a source tells, where something else does
told : (left : Option (List ℕ)) (P Q : List ℕ → Type 0) → ((bytes : List ℕ) → P bytes → Q bytes) → IfSome left P → IfSome left Q
told None P Q follows holds = tt
told (Some bytes) P Q follows holds = follows bytes holds

-- the text of an outcome is an output of its script
output_of : WhatIsShownWasAccepted → (bytes : List ℕ) (workers : ℕ) (outcome : Outcome) (text : List ℕ) → IsOutcome bytes workers outcome → IsWritten outcome text
    → IsOutput bytes workers (status_of_end outcome.end) text
output_of law bytes workers outcome text is spelled = record {
  script = is.script;
  order = is.order;
  run = is.run;
  is_script = is.is_script;
  runs = is.runs;
  allowed = is.allowed;
  ends = ap status_of_end is.of_run.end;
  output = spelled.output is.order is.run is.of_run;
  shown_was_accepted = λ setting link request made unreused shown.
      law bytes is.script is.order is.run workers setting link request is.is_script is.runs is.allowed made unreused shown;
}

pub runs_memory : (before after : Seen) (workers : ℕ) (unwritten : Type 0) → after.read_faults ≡ before.read_faults → unwritten
    → Runs before after workers unwritten NoMemory
runs_memory before after workers unwritten read kept = record { promised = (read, kept); due = λ unread unwrit. inr refl }

pub runs_read_fault : (before after : Seen) (workers : ℕ) (unwritten : Type 0) → Rose before.read_faults after.read_faults → unwritten
    → Runs before after workers unwritten ReadFault
runs_read_fault before after workers unwritten rose kept = record { promised = (rose, kept); due = λ unread unwrit. absurd (unread rose) }

pub runs_write_fault : WhatIsShownWasAccepted → (before after : Seen) (workers : ℕ) (unwritten : Type 0) (outcome : Outcome) (text : List ℕ)
    → IfSome before.left (λ bytes. IsOutcome bytes workers outcome) → IsWritten outcome text
    → Rose before.write_faults after.write_faults → after.read_faults ≡ before.read_faults → AppendsPrefix before.written after.written text
    → Runs before after workers unwritten WriteFault
runs_write_fault law before after workers unwritten outcome text is spelled rose read front = record {
  promised = (
    rose,
    read,
    told before.left (λ bytes. IsOutcome bytes workers outcome)
        (λ bytes. (status : Status) × (written : List ℕ) × IsOutput bytes workers status written × AppendsPrefix before.written after.written written)
        (λ bytes here. (status_of_end outcome.end, text, output_of law bytes workers outcome text here spelled, front)) is,
  );
  due = λ unread unwrit. absurd (unwrit rose);
}

-- the output was written
wrote : WhatIsShownWasAccepted → (before after : Seen) (workers : ℕ) (outcome : Outcome) (text : List ℕ)
    → IfSome before.left (λ bytes. IsOutcome bytes workers outcome) → IsWritten outcome text
    → Appends before.written after.written text → Faultless before after → WroteOutput before after workers (status_of_end outcome.end)
wrote law before after workers outcome text is spelled appended unfaulted = (
  unfaulted,
  told before.left (λ bytes. IsOutcome bytes workers outcome)
      (λ bytes. (written : List ℕ) × IsOutput bytes workers (status_of_end outcome.end) written × Appends before.written after.written written)
      (λ bytes here. (text, output_of law bytes workers outcome text here spelled, appended)) is,
)

-- what a status promises whose output was written
promised_by : (before after : Seen) (workers : ℕ) (unwritten : Type 0) (end : End) → (end ≡ run.Done → IsAtEnd after.left)
    → WroteOutput before after workers (status_of_end end) → RunPromises before after workers unwritten (status_of_end end)
promised_by before after workers unwritten run.Done at_end written = (written, at_end refl)
promised_by before after workers unwritten (run.Bad bad) at_end written = written
promised_by before after workers unwritten (run.Limit line) at_end written = written

pub runs_written : WhatIsShownWasAccepted → (before after : Seen) (workers : ℕ) (unwritten : Type 0) (outcome : Outcome) (text : List ℕ) (status : Status)
    → status ≡ status_of_end outcome.end
    → IfSome before.left (λ bytes. IsOutcome bytes workers outcome) → (outcome.end ≡ run.Done → IsAtEnd after.left) → IsWritten outcome text
    → Appends before.written after.written text → Faultless before after → Runs before after workers unwritten status
runs_written law before after workers unwritten outcome text status ends is at_end spelled appended unfaulted =
    let written = wrote law before after workers outcome text is spelled appended unfaulted in
    subst (Runs before after workers unwritten) (sym ends) (record {
      promised = promised_by before after workers unwritten outcome.end at_end written;
      due = λ unread unwrit. inl written;
    })
