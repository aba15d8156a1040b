-- The laws of the head: how a script comes from stage to stage, and how it ends there.
use Rattle.std.proofs.Common.{◌≡◌, ℕ, ◌+◌, Bool, true, false, List, [], ◌∷◌, ◌++◌, length, Option, IfSome, refl, sym, ap, ◌∙◌, subst, append_assoc}
use Rattle.std.proofs.lemmas.Option.{IfSome_then}
use Rattle.std.proofs.lemmas.List.{length-append}
use Rattle.adsc_io.specs.Readers.{LinesRead}
use Rattle.aircraft_core.specs.Setting.{Setting}
use Rattle.aircraft_core.specs.declared.who.Who.{Who}
use Rattle.due_event.specs.RuleTerms.{rules_profile}
use Rattle.flight_samples.specs.declared.sample.Sample.{Sample as FlightSample}
use Rattle.ground_texts.specs.declared.ground_text.GroundText.{GroundText}
use Rattle.net_script.specs.declared.line.ScriptLine.{ScriptLine}
use Rattle.net_script.specs.declared.refusal.Code.{Code}
use Rattle.net_script.specs.declared.refusal.Code.TheVariants as code
use Rattle.run_rules.specs.Lines.{step_of}
use Rattle.run_rules.specs.Runs.{IsScript, ScriptRun, end_behind, ended_run}
use Rattle.run_rules.specs.Stages.{Stage, begun, named, linked, flying, does, stops, setting_with, stage_behind}
use Rattle.run_rules.specs.declared.end.End.{End}
use Rattle.run_rules.specs.declared.reading.Reading.{Reading}
use Rattle.run_rules.specs.declared.reading.Reading.TheVariants.{Says, Brings}
use Rattle.run_rules.proofs.EarlierLines.{head_begun, head_ended, head_gone_on, head_stopped}
use Rattle.adsc_run.specs.Feeds.{Found, end_met, limit_met, line_read, HasRead, IsNext, IsWhole}
use Rattle.adsc_run.specs.Stations.{ends_bad}
use Rattle.adsc_run.specs.UnderWay.{EndsInHead, IsInHead, IsInStage, StopsBy, StopsInHead, StopsSaying}
use Rattle.adsc_run.specs.declared.head.Stop.{Stop}
use Rattle.adsc_run.specs.declared.head.Stop.TheVariants.{Ended, Fault}
use Rattle.adsc_run.proofs.FeedLaws.{goes_on_somehow}

-- a stage of the head has no aircraft
ended_in_head : (stage : Stage) (end : End) → IsInHead stage → ended_run stage [] end ≡ ended_run begun [] end
ended_in_head begun end head = refl
ended_in_head (named who) end head = refl
ended_in_head (linked who addresses kept) end head = refl
ended_in_head (flying setting) end head = absurd head

-- a text in the head is bad
pub brings_in_head : (stage : Stage) (number : ℕ) (found : GroundText) → IsInHead stage → step_of stage [] number (Brings found) ≡ stops code.Head 0
brings_in_head begun number found head = refl
brings_in_head (named who) number found head = refl
brings_in_head (linked who addresses kept) number found head = refl
brings_in_head (flying setting) number found head = absurd head

-- the head ends too soon
pub too_soon : (stage : Stage) (number : ℕ) → IsInHead stage → ends_bad number code.Head 0 ≡ end_behind false stage number
too_soon begun number head = refl
too_soon (named who) number head = refl
too_soon (linked who addresses kept) number head = refl
too_soon (flying setting) number head = absurd head

-- nothing was read
pub stage_begun : (before now : Option (List ℕ)) (reader : LinesRead) → HasRead before now reader [] → IsInStage before now reader 0 begun
stage_begun before now reader has = record { readings = []; counted = refl; read = has; head = head_begun }

-- the head goes on
pub says_on : (before now left : Option (List ℕ)) (reader behind : LinesRead) (count : ℕ) (stage : Stage) (said : ScriptLine) (stood : IsInStage before now reader count stage)
    → HasRead before left behind (stood.readings ++ Says said ∷ []) → step_of stage [] (count + 1) (Says said) ≡ does []
    → IsInStage before left behind (count + 1) (stage_behind stage said)
says_on before now left reader behind count stage said stood has step = record {
  readings = stood.readings ++ Says said ∷ [];
  counted = length-append stood.readings (Says said ∷ []) ∙ ap (λ n. n + 1) stood.counted;
  read = has;
  head = head_gone_on stood.readings stage (Says said) stood.head (subst (λ n. step_of stage [] (n + 1) (Says said) ≡ does []) (sym stood.counted) step);
}

-- a bad line ends the run
head_stops : (before now left : Option (List ℕ)) (reader behind : LinesRead) (count : ℕ) (stage : Stage) (reading : Reading) (found : Code) (value : ℕ) (end : End)
    (stood : IsInStage before now reader count stage) → IsInHead stage → HasRead before left behind (stood.readings ++ reading ∷ [])
    → step_of stage [] (count + 1) reading ≡ stops found value → end ≡ ends_bad (count + 1) found value → IfSome before (λ bytes. EndsInHead bytes end)
head_stops before now left reader behind count stage reading found value end stood head has step is =
    IfSome_then before (goes_on_somehow before left behind (stood.readings ++ reading ∷ []) has)
    (λ bytes on. record {
      script = record { readings = stood.readings ++ reading ∷ on.0; over = on.1 };
      is_script = subst (λ all. IsScript bytes (record { readings = all; over = on.1 })) (append_assoc stood.readings (reading ∷ []) on.0) on.2;
      runs = subst (λ r. ScriptRun (record { readings = stood.readings ++ reading ∷ on.0; over = on.1 }) [] r)
          (ended_in_head stage (ends_bad (length stood.readings + 1) found value) head
          ∙ ap (ended_run begun []) (ap (λ n. ends_bad (n + 1) found value) stood.counted ∙ sym is))
          (head_stopped stood.readings stage reading on.0 on.1 0 found value stood.head
          (subst (λ n. step_of stage [] (n + 1) reading ≡ stops found value) (sym stood.counted) step)).0;
    })

-- no line is left
head_over : (before now : Option (List ℕ)) (reader : LinesRead) (count : ℕ) (stage : Stage) (over : Bool) (end : End)
    (stood : IsInStage before now reader count stage) → IsInHead stage → IsWhole before stood.readings over → end ≡ end_behind over stage (count + 1)
    → IfSome before (λ bytes. EndsInHead bytes end)
head_over before now reader count stage over end stood head whole is =
    IfSome_then before whole
    (λ bytes is_script. record {
      script = record { readings = stood.readings; over = over };
      is_script = is_script;
      runs = subst (λ r. ScriptRun (record { readings = stood.readings; over = over }) [] r)
          (ended_in_head stage (end_behind over stage (length stood.readings + 1)) head
          ∙ ap (ended_run begun []) (ap (λ n. end_behind over stage (n + 1)) stood.counted ∙ sym is))
          (head_ended stood.readings stage over 0 stood.head).0;
    })

-- what stands next ends the run
pub next_stops : (before now left : Option (List ℕ)) (reader behind : LinesRead) (number count : ℕ) (stage : Stage) (found : Found) (stop : Stop)
    (stood : IsInStage before now reader count stage) → IsInHead stage → number ≡ count + 1 → IsNext before left behind stood.readings found
    → StopsBy number stage found stop → StopsInHead before stop
next_stops before now left reader behind number count stage (line_read reading) (Ended end) stood head numbered is how =
    head_stops before now left reader behind count stage reading how.0 how.1 end stood head is
    (subst (λ n. step_of stage [] n reading ≡ stops how.0 how.1) numbered how.2) (how.3 ∙ ap (λ n. ends_bad n how.0 how.1) numbered)
next_stops before now left reader behind number count stage end_met (Ended end) stood head numbered is how =
    head_over before now reader count stage false end stood head is.0 (how ∙ ap (end_behind false stage) numbered)
next_stops before now left reader behind number count stage limit_met (Ended end) stood head numbered is how =
    head_over before now reader count stage true end stood head is (how ∙ ap (end_behind true stage) numbered)
next_stops before now left reader behind number count stage (line_read reading) (Fault fault) stood head numbered is how = absurd how
next_stops before now left reader behind number count stage end_met (Fault fault) stood head numbered is how = absurd how
next_stops before now left reader behind number count stage limit_met (Fault fault) stood head numbered is how = absurd how

-- what a line says ends the run
pub said_stops : (before now left : Option (List ℕ)) (reader behind : LinesRead) (count : ℕ) (stage : Stage) (said : ScriptLine) (stop : Stop)
    (stood : IsInStage before now reader count stage) → IsInHead stage → HasRead before left behind (stood.readings ++ Says said ∷ [])
    → StopsSaying (count + 1) stage said stop → StopsInHead before stop
said_stops before now left reader behind count stage said (Ended end) stood head has how =
    head_stops before now left reader behind count stage (Says said) code.Head 0 end stood head has how.1 how.0
said_stops before now left reader behind count stage said (Fault fault) stood head has how = absurd how

-- what three lines make is one setting
pub setting_of_three : (setting : Setting) (who : Who) (addresses : List (List ℕ)) (kept : Option ℕ) (first : FlightSample) → setting.registration ≡ who.registration
    → setting.flight ≡ who.flight → setting.airframe ≡ who.airframe → setting.profile ≡ rules_profile who.profile → setting.addresses ≡ addresses → setting.kept ≡ kept
    → setting.first ≡ first → setting_with who addresses kept first ≡ setting
setting_of_three setting who addresses kept first registration flight airframe profile listed reserved sample i =
    record {
      registration = sym registration i;
      flight = sym flight i;
      airframe = sym airframe i;
      profile = sym profile i;
      addresses = sym listed i;
      kept = sym reserved i;
      first = sym sample i;
    }
