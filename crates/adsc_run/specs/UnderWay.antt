-- How far a script is carried out (this project's profile).
use Rattle.std.specs.Prelude.{◌≡◌, ◌≢◌, ◌⊎◌, ◌+◌, ◌≤◌, ℕ, Bool, true, false, List, [], ◌∷◌, ◌++◌, length, Option, Some, None, IfSome}
use Rattle.std.specs.Io.KnownBytes.{IsAtEnd}
use Rattle.adsc_io.specs.Readers.{LinesRead}
use Rattle.aircraft_core.specs.declared.entry.Entry.{Entry}
use Rattle.net_script.specs.declared.line.ScriptLine.{ScriptLine}
use Rattle.net_script.specs.declared.refusal.Code.{Code}
use Rattle.net_script.specs.declared.refusal.Code.TheVariants as code
use Rattle.run_rules.specs.Lines.{line_step, step_of}
use Rattle.run_rules.specs.EarlierLines.{HasGone, HasHead}
use Rattle.run_rules.specs.Happenings.{Happening}
use Rattle.run_rules.specs.Orders.{is_burst_line, journal_of, line_order}
use Rattle.run_rules.specs.Runs.{IsAllowedOrder, IsScript, end_behind, Script, ScriptRun, ended_run, journal_at}
use Rattle.run_rules.specs.Stages.{Stage, begun, flying, stops}
use Rattle.run_rules.specs.declared.end.End.{End}
use Rattle.run_rules.specs.declared.end.End.TheVariants.{Done, Limit}
use Rattle.run_rules.specs.declared.reading.Reading.{Reading}
use Rattle.adsc_run.specs.Courses.{Did, HasEntered, StandsBehind}
use Rattle.adsc_run.specs.Feeds.{Found, HasRead, IsNext, end_met, limit_met, line_read, passed}
use Rattle.adsc_run.specs.Stations.{ends_bad}
use Rattle.adsc_run.specs.declared.course.Course.{Course}
use Rattle.adsc_run.specs.declared.head.Stop.{Stop}
use Rattle.adsc_run.specs.declared.head.Stop.TheVariants.{Ended, Fault}

-- ---- the head

-- the stage is one of the head
abbrev pub IsInHead : Stage → Type 0
IsInHead (flying setting) = ⊥
IsInHead stage = Unit {0}

-- So many lines of the head were read and judged, and the script has come to this stage.
pub record IsInStage (before now : Option (List ℕ)) (reader : LinesRead) (count : ℕ) (stage : Stage) : Type 0 where
  pub readings : List Reading
  pub counted : length readings ≡ count
  pub read : HasRead before now reader readings
  pub head : HasHead readings stage

-- The script that these bytes are ends so in its head.
pub record EndsInHead (bytes : List ℕ) (end : End) : Type 0 where
  pub script : Script
  pub is_script : IsScript bytes script
  pub runs : ScriptRun script [] (ended_run begun [] end)

-- The script of the source ends so in its head; of a fault nothing is said here.
abbrev pub StopsInHead : Option (List ℕ) → Stop → Type 0
StopsInHead before (Ended end) = IfSome before (λ bytes. EndsInHead bytes end)
StopsInHead before (Fault fault) = Unit {0}

-- A line of this number that says this is bad at this stage, and so the run ends.
abbrev pub StopsSaying : ℕ → Stage → ScriptLine → Stop → Type 0
StopsSaying number stage said (Ended end) = (end ≡ ends_bad number code.Head 0) × (line_step stage [] number said ≡ stops code.Head 0)
StopsSaying number stage said (Fault fault) = ⊥

-- A line of this number is bad at this stage, or no line stands next, and so the run ends.
abbrev pub StopsBy : ℕ → Stage → Found → Stop → Type 0
StopsBy number stage (line_read reading) (Ended end) =
    (found : Code) × (value : ℕ) × (step_of stage [] number reading ≡ stops found value) × (end ≡ ends_bad number found value)
StopsBy number stage end_met (Ended end) = end ≡ end_behind false stage number
StopsBy number stage limit_met (Ended end) = end ≡ end_behind true stage number
StopsBy number stage found (Fault fault) = ⊥

-- ---- behind the head

-- The course stands where the script was judged up to these readings: under some order so far, with the entries of a burst that wait.
pub record Stands (workers : ℕ) (readings : List Reading) (course : Course) : Type 0 where
  pub order : List ℕ
  pub entered : List Entry
  pub log : List Happening
  pub gone : HasGone workers course.craft.setting readings order entered course.burst.items log
  pub journal : course.craft.journal ≡ journal_of order entered
  pub behind : StandsBehind course log

-- The course is that at the end of the run of this script, which ended so, under an order in which so many workers may take its entries.
pub record HasEnded (workers : ℕ) (script : Script) (course : Course) (end : End) : Type 0 where
  pub order : List ℕ
  pub log : List Happening
  pub runs : ScriptRun script order (ended_run (flying course.craft.setting) log end)
  pub allowed : IsAllowedOrder script (ended_run (flying course.craft.setting) log end) workers order
  pub journal : course.craft.journal ≡ journal_at order log
  pub ordered : order ≡ line_order course.craft.journal
  pub behind : StandsBehind course log

-- The line that is read so was carried out; or the run ends with it, whatever stands behind it.
abbrev pub CarriedOut : ℕ → List Reading → Reading → Course → Option End → Type 0
CarriedOut workers readings reading course None = Stands workers (readings ++ reading ∷ []) course
CarriedOut workers readings reading course (Some end) =
    (end ≢ Done) × ((over : Bool) (rest : List Reading) → HasEnded workers (record { readings = readings ++ reading ∷ rest; over = over }) course end)

-- ---- the whole

-- The lines of the source that were read are carried out.
pub record IsUnderWay (workers : ℕ) (before now : Option (List ℕ)) (reader : LinesRead) (course : Course) : Type 0 where
  pub readings : List Reading
  pub read : HasRead before now reader readings
  pub stands : Stands workers readings course
  pub few : length course.craft.setting.addresses ≤ 64

-- The script of the source ended so.
pub record IsOver (workers : ℕ) (before now : Option (List ℕ)) (course : Course) (end : End) : Type 0 where
  pub ended : IfSome before (λ bytes. (script : Script) × IsScript bytes script × HasEnded workers script course end)
  pub done : end ≡ Done → IsAtEnd now

-- The run ends so, once what waits is entered.
pub record IsEnding (workers : ℕ) (before now : Option (List ℕ)) (course : Course) (end : End) : Type 0 where
  pub ended : (entered : Course) → HasEntered workers course entered
      → IfSome before (λ bytes. (script : Script) × IsScript bytes script × HasEnded workers script entered end)
  pub done : end ≡ Done → IsAtEnd now

-- The lines of the source that were read are carried out, but for what stands next.
pub record IsAtNext (workers : ℕ) (before now : Option (List ℕ)) (reader : LinesRead) (course : Course) (found : Found) : Type 0 where
  pub readings : List Reading
  pub stands : Stands workers readings course
  pub few : length course.craft.setting.addresses ≤ 64
  pub next : IsNext before now reader readings found
  pub counted : reader.number ≡ length readings + passed found

-- What stands next can be carried out: entries wait before nothing but a line of their burst.
abbrev pub IsReadyFor : Course → Found → Type 0
IsReadyFor course (line_read reading) = (is_burst_line (Some reading) ≡ true) ⊎ (course.burst.items ≡ [])
IsReadyFor course found = course.burst.items ≡ []

-- One line more was carried out, or the run ends.
abbrev pub IsCarriedOn : ℕ → Option (List ℕ) → Option (List ℕ) → LinesRead → Course → Option End → Type 0
IsCarriedOn workers before now reader course None = IsUnderWay workers before now reader course
IsCarriedOn workers before now reader course (Some end) = IsEnding workers before now course end

-- What stood next did its step: a line that of its letter; the end and the limit end the run.
abbrev pub DidNext : Found → ℕ → List Happening → Course → Course → Option End → Type 0
DidNext (line_read reading) number log before now ended =
    Did (is_burst_line (Some reading)) (step_of (flying before.craft.setting) log number reading) number log before now ended
DidNext end_met number log before now ended = (ended ≡ Some Done) × (now ≡ before)
DidNext limit_met number log before now ended = (ended ≡ Some (Limit (number + 1))) × (now ≡ before)
