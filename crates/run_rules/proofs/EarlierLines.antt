-- The moves of a loop that judges a script line by line: each keeps what `HasGone` says, and at the end it gives the run and its order.
use Rattle.std.proofs.Common.{◌≡◌, ◌⊎◌, ◌<◌, ◌≤◌, ◌-◌, ◌+◌, ℕ, inl, inr, Bool, true, List, [], ◌∷◌, ◌++◌, length, Some, None, slice_get, refl, sym, ap, ap₂, ◌∙◌, subst, append-nil, append_assoc, length-append, arith}
use Rattle.std.proofs.lemmas.Bool.{cases_lt}
use Rattle.std.proofs.lemmas.List.{map-append}
use Rattle.aircraft_core.specs.Downlinks.{AreDownlinks}
use Rattle.aircraft_core.specs.Entries.{line_of}
use Rattle.aircraft_core.specs.Setting.{Setting}
use Rattle.aircraft_core.specs.declared.entry.Entry.{Entry}
use Rattle.centre_core.specs.Hearing.{Hearing}
use Rattle.net_script.specs.declared.refusal.Code.{Code}
use Rattle.net_script.specs.declared.refusal.Code.TheVariants as code
use Rattle.run_rules.specs.Among.{IsAmong}
use Rattle.run_rules.specs.EarlierLines.{AreFrom, AreTaken, AreWorkersLists, HasGone, HasHead, LeadsOn, text_link}
use Rattle.run_rules.specs.Happenings.{Happening, Heard, entries}
use Rattle.run_rules.specs.Lines.{step_of}
use Rattle.run_rules.specs.Orders.{IsOrderOf, IsOrdered, IsRising, is_burst_line, journal_of, line_order, place_on, reading_at}
use Rattle.run_rules.specs.Runs.{DeliveryRuns, IsAllowedOrder, LinesRun, Run, Script, ScriptRun, StepRuns, addresses_in, end_behind, ended_run, journal_at, stopped_run}
use Rattle.run_rules.specs.Stages.{Stage, Step, begun, does, flying, receives, stops, stage_after}
use Rattle.run_rules.specs.declared.reading.Reading.{Reading}
use Rattle.run_rules.specs.declared.reading.Reading.TheVariants.{Bad, Says, Brings}
use Rattle.run_rules.proofs.Along.{IsHeard}
use Rattle.run_rules.proofs.GoingOn.{burst_more, newest_reading, ordered_behind, ordered_more, place_more}
use Rattle.run_rules.proofs.Journals.{entries-append, journal_before, journal_behind, journal_of-append, journal_of_lines, none_in_order}
use Rattle.run_rules.proofs.LineEntries.{NoneOrOne, OfLine, OnLink, one_of_burst_line, one_of_line}
use Rattle.run_rules.proofs.Members.{among_back, among_front, among_map, among_mapped, among_parts}
use Rattle.run_rules.proofs.Rising.{rising_behind}
use Rattle.run_rules.proofs.Weaving.{IsWoven, StandsInBurst, burst_ordered, taken_rises, taken_was_waiting, waiting_is_taken, woven_is_taken}

-- ---- one line of a run

pub stays : (setting : Setting) (reading : Reading) → stage_after (flying setting) reading ≡ flying setting
stays setting (Bad found value) = refl
stays setting (Says value) = refl
stays setting (Brings reading) = refl

-- A line leads where its step leads.
pub by_step : (over : Bool) (order : List ℕ) (stage : Stage) (log : List Happening) (number : ℕ) (reading : Reading) (rest : List Reading) (run : Run) (step : Step)
    → step_of stage log number reading ≡ step
    → StepRuns (λ now behind. LinesRun over order (stage_after stage reading) now (number + 1) rest behind) order stage log number step run
    → LinesRun over order stage log number (reading ∷ rest) run
by_step over order stage log number reading rest run step e runs =
    subst (λ s. StepRuns (λ now behind. LinesRun over order (stage_after stage reading) now (number + 1) rest behind) order stage log number s run) (sym e) runs

module _ (over : Bool) (order : List ℕ) (setting : Setting) (log : List Happening) (number : ℕ) (reading : Reading) (rest : List Reading) (run : Run) where
  on_stage : (now : List Happening) → LinesRun over order (flying setting) now (number + 1) rest run
      → LinesRun over order (stage_after (flying setting) reading) now (number + 1) rest run
  on_stage now = subst (λ stage. LinesRun over order stage now (number + 1) rest run) (sym (stays setting reading))

  pub line_did : (happenings : List Happening) → step_of (flying setting) log number reading ≡ does happenings
      → LinesRun over order (flying setting) (happenings ++ log) (number + 1) rest run
      → LinesRun over order (flying setting) log number (reading ∷ rest) run
  line_did happenings step behind =
      by_step over order (flying setting) log number reading rest run (does happenings) step (on_stage (happenings ++ log) behind)

  pub line_heard : (link place : ℕ) (hearing : Hearing) → step_of (flying setting) log number reading ≡ receives setting link place
      → IsHeard order log setting link place hearing
      → LinesRun over order (flying setting) (Heard number link place hearing ∷ log) (number + 1) rest run
      → LinesRun over order (flying setting) log number (reading ∷ rest) run
  line_heard link place hearing step heard behind =
      by_step over order (flying setting) log number reading rest run (receives setting link place) step (
        heard.texts,
        heard.are_downlinks,
        subst (λ text. DeliveryRuns Behind (flying setting) log number setting link place (length heard.texts) text run) (sym heard.there)
            (hearing, heard.says, on_stage (Heard number link place hearing ∷ log) behind),
      )
    where
      Behind : List Happening → Run → Type 0
      Behind now behind = LinesRun over order (stage_after (flying setting) reading) now (number + 1) rest behind

-- ---- the head

pub head_begun : HasHead [] begun
head_begun = record { runs = λ order over rest run runs. runs }

pub head_gone_on : (readings : List Reading) (stage : Stage) (reading : Reading) → HasHead readings stage
    → step_of stage [] (length readings + 1) reading ≡ does [] → HasHead (readings ++ reading ∷ []) (stage_after stage reading)
head_gone_on readings stage reading head step =
    record {
      runs = λ order over rest run behind.
          subst (λ all. ScriptRun (record { readings = all; over = over }) order run) (sym (append_assoc readings (reading ∷ []) rest))
          (head.runs order over (reading ∷ rest) run
          (by_step over order stage [] (length readings + 1) reading rest run (does []) step
          (subst (λ n. LinesRun over order (stage_after stage reading) [] (n + 1) rest run) (length-append readings (reading ∷ [])) behind)));
    }

pub nothing_ordered : (script : Script) (run : Run) (workers : ℕ) → run.log ≡ [] → IsAllowedOrder script run workers []
nothing_ordered script run workers nothing =
    record {
      ordered = tt;
      lines = subst (λ log. IsOrderOf (entries log) []) (sym nothing) (record { whole = λ entry among. among; only = λ number among. absurd among });
    }

pub head_ended : (readings : List Reading) (stage : Stage) (over : Bool) (workers : ℕ) → HasHead readings stage
    → ScriptRun (record { readings = readings; over = over }) [] (ended_run stage [] (end_behind over stage (length readings + 1)))
    × IsAllowedOrder (record { readings = readings; over = over }) (ended_run stage [] (end_behind over stage (length readings + 1))) workers []
head_ended readings stage over workers head = (
  subst (λ all. ScriptRun (record { readings = all; over = over }) [] (ended_run stage [] (end_behind over stage (length readings + 1))))
      (append-nil readings) (head.runs [] over [] (ended_run stage [] (end_behind over stage (length readings + 1))) refl),
  nothing_ordered (record { readings = readings; over = over }) (ended_run stage [] (end_behind over stage (length readings + 1))) workers refl,
)

pub head_stopped : (readings : List Reading) (stage : Stage) (reading : Reading) (rest : List Reading) (over : Bool) (workers : ℕ) (found : Code) (value : ℕ)
    → HasHead readings stage → step_of stage [] (length readings + 1) reading ≡ stops found value
    → ScriptRun (record { readings = readings ++ reading ∷ rest; over = over }) [] (stopped_run stage [] (length readings + 1) found value)
    × IsAllowedOrder (record { readings = readings ++ reading ∷ rest; over = over }) (stopped_run stage [] (length readings + 1) found value) workers []
head_stopped readings stage reading rest over workers found value head step = (
  head.runs [] over (reading ∷ rest) (stopped_run stage [] (length readings + 1) found value)
      (by_step over [] stage [] (length readings + 1) reading rest (stopped_run stage [] (length readings + 1) found value) (stops found value) step refl),
  nothing_ordered (record { readings = readings ++ reading ∷ rest; over = over }) (stopped_run stage [] (length readings + 1) found value) workers refl,
)

-- ---- the loop begins

-- Behind the head nothing happened yet.
pub has_begun : (workers : ℕ) (setting : Setting) (readings : List Reading) → HasHead readings (flying setting)
    → HasGone workers setting readings [] [] [] []
has_begun workers setting readings head =
    record {
      made = refl;
      start = length readings + 1;
      inside = omega arith;
      burst = λ number from upto. absurd (omega arith);
      below = λ number among. absurd among;
      behind = λ entry among. absurd among;
      places = λ entry among. absurd among;
      rising = tt;
      ordered = tt;
      lines = record { whole = λ entry among. among; only = λ number among. absurd among };
      journal = refl;
      runs = λ late from over rest run runs. head.runs late over rest run runs;
    }

-- ---- journals that go on

-- Entries of a burst are entered behind those of earlier lines, in whatever order they are taken.
pub joined_journal : (order : List ℕ) (entered waiting woven : List Entry) (start : ℕ) → ((number : ℕ) → IsAmong number order → number < start)
    → ((entry : Entry) → IsAmong entry entered → line_of entry < start) → ((entry : Entry) → IsAmong entry waiting → start ≤ line_of entry)
    → IsRising (line_order waiting) → ((entry : Entry) → IsAmong entry woven → IsAmong entry waiting)
    → journal_of (order ++ line_order woven) (entered ++ waiting) ≡ journal_of order entered ++ woven
joined_journal order entered waiting woven start below early behind rising all =
    journal_of-append order (line_order woven) (entered ++ waiting)
    ∙ ap₂ (λ (front back : List Entry). front ++ back)
    (journal_before order entered waiting others)
    (journal_behind (line_order woven) entered waiting earlier ∙ journal_of_lines waiting woven rising all)
  where
    others : (number : ℕ) → IsAmong number order → (entry : Entry) → IsAmong entry waiting → line_of entry ≡ number → ⊥
    others number among entry waits same =
        let one : number < start = below number among in let other : start ≤ line_of entry = behind entry waits in absurd (omega arith)

    earlier : (number : ℕ) → IsAmong number (line_order woven) → (entry : Entry) → IsAmong entry entered → line_of entry ≡ number → ⊥
    earlier number among entry is_entered same =
        let found = among_mapped line_of number woven among in
        let one : line_of entry < start = early entry is_entered in
        let other : start ≤ line_of found.0 = behind found.0 (all found.0 found.1) in
        let line : line_of found.0 ≡ number = found.2 in absurd (omega arith)

-- ---- lines outside a burst

-- One more line leads on, with further lines in the order or none.
leads_one : (setting : Setting) (readings : List Reading) (order : List ℕ) (start : ℕ) (log : List Happening) → LeadsOn setting readings order start log
    → (added full : List ℕ) → full ≡ order ++ added → AreFrom start added → (later : ℕ) → start ≤ later → (reading : Reading) (now : List Happening)
    → ((late : List ℕ) → AreFrom later late → (over : Bool) (rest : List Reading) (run : Run)
    → LinesRun over (full ++ late) (flying setting) now (length readings + 1 + 1) rest run
    → LinesRun over (full ++ late) (flying setting) log (length readings + 1) (reading ∷ rest) run)
    → LeadsOn setting (readings ++ reading ∷ []) full later now
leads_one setting readings order start log leads added full e from later above reading now line late late_from over rest run behind =
    let joined : full ++ late ≡ order ++ (added ++ late) = ap (λ o. o ++ late) e ∙ append_assoc order added late in
    subst (λ all. ScriptRun (record { readings = all; over = over }) (full ++ late) run) (sym (append_assoc readings (reading ∷ []) rest))
    (subst (λ o. ScriptRun (record { readings = readings ++ reading ∷ rest; over = over }) o run) (sym joined)
    (leads (added ++ late) from_start over (reading ∷ rest) run
    (subst (λ o. LinesRun over o (flying setting) log (length readings + 1) (reading ∷ rest) run) joined
    (line late late_from over rest run
    (subst (λ n. LinesRun over (full ++ late) (flying setting) now (n + 1) rest run) (length-append readings (reading ∷ [])) behind)))))
  where
    from_start : AreFrom start (added ++ late)
    from_start number among = at (among_parts number added late among)
      where
        at : IsAmong number added ⊎ IsAmong number late → start ≤ number
        at (inl early) = from number early
        at (inr among) = let behind_it : later ≤ number = late_from number among in omega arith

module _ {workers : ℕ} {setting : Setting} {readings : List Reading} {order : List ℕ} {entered : List Entry} {log : List Happening} where
  -- The entries that are entered are of lines before the burst.
  pub entered_below : {waiting : List Entry} → (gone : HasGone workers setting readings order entered waiting log)
      → (entry : Entry) → IsAmong entry entered → line_of entry < gone.start
  entered_below gone entry among = gone.below (line_of entry) (gone.lines.whole entry among)

  -- Where nothing waits, the journal so far is that of the entries that are entered.
  pub journal_so_far : HasGone workers setting readings order entered [] log → journal_at order log ≡ journal_of order entered
  journal_so_far gone = ap (journal_of order) (gone.made ∙ append-nil entered)

  -- A line outside a burst goes on, where no entry comes.
  beyond : (gone : HasGone workers setting readings order entered [] log) (reading : Reading) (now : List Happening) → entries now ≡ entries log
      → ((late : List ℕ) → AreFrom (length readings + 1 + 1) late → (over : Bool) (rest : List Reading) (run : Run)
      → LinesRun over (order ++ late) (flying setting) now (length readings + 1 + 1) rest run
      → LinesRun over (order ++ late) (flying setting) log (length readings + 1) (reading ∷ rest) run)
      → HasGone workers setting (readings ++ reading ∷ []) order entered [] now
  beyond gone reading now same line =
      let longer : length (readings ++ reading ∷ []) ≡ length readings + 1 = length-append readings (reading ∷ []) in
      let inside = gone.inside in
      let above : gone.start ≤ length readings + 1 + 1 = omega arith in
      record {
        made = same ∙ gone.made;
        start = length readings + 1 + 1;
        inside = omega arith;
        burst = λ number from upto. absurd (omega arith);
        below = λ number among. let below : number < gone.start = gone.below number among in omega arith;
        behind = λ entry among. absurd among;
        places = λ entry among. absurd among;
        rising = tt;
        ordered = ordered_more setting.addresses workers readings (reading ∷ []) order gone.ordered;
        lines = gone.lines;
        journal = gone.journal;
        runs = leads_one setting readings order gone.start log gone.runs [] order (sym (append-nil order)) (λ number among. absurd among)
            (length readings + 1 + 1) above reading now line;
      }

  -- Nothing waits, and a line makes no entry: its happenings join the log.
  pub has_gone_on : (reading : Reading) (happenings : List Happening) → HasGone workers setting readings order entered [] log
      → step_of (flying setting) log (length readings + 1) reading ≡ does happenings → entries happenings ≡ []
      → HasGone workers setting (readings ++ reading ∷ []) order entered [] (happenings ++ log)
  has_gone_on reading happenings gone step none =
      beyond gone reading (happenings ++ log)
      (entries-append happenings log ∙ ap (λ made. entries log ++ made) none ∙ append-nil (entries log))
      (λ late from over rest run. line_did over (order ++ late) setting log (length readings + 1) reading rest run happenings step)

  -- Later lines of an order name no entry so far.
  pub journal_with_late : (gone : HasGone workers setting readings order entered [] log) (late : List ℕ) → AreFrom gone.start late
      → journal_at (order ++ late) log ≡ journal_at order log
  journal_with_late gone late from =
      journal_of-append order late (entries log)
      ∙ ap (λ made. journal_at order log ++ made) (none_in_order late (entries log) others)
      ∙ append-nil (journal_at order log)
    where
      others : (number : ℕ) → IsAmong number late → (entry : Entry) → IsAmong entry (entries log) → line_of entry ≡ number → ⊥
      others number among entry is_entry same =
          let early : line_of entry < gone.start
          = entered_below gone entry (subst (IsAmong entry) (gone.made ∙ append-nil entered) is_entry) in
          let behind : gone.start ≤ number = from number among in absurd (omega arith)

  -- Nothing waits, and a delivery is heard.
  pub has_heard : (reading : Reading) (link place : ℕ) (hearing : Hearing) → HasGone workers setting readings order entered [] log
      → step_of (flying setting) log (length readings + 1) reading ≡ receives setting link place → IsHeard order log setting link place hearing
      → HasGone workers setting (readings ++ reading ∷ []) order entered [] (Heard (length readings + 1) link place hearing ∷ log)
  has_heard reading link place hearing gone step heard =
      beyond gone reading (Heard (length readings + 1) link place hearing ∷ log) (append-nil (entries log))
      (λ late from over rest run. line_heard over (order ++ late) setting log (length readings + 1) reading rest run link place hearing step (later late from))
    where
      later : (late : List ℕ) → AreFrom (length readings + 1 + 1) late → IsHeard (order ++ late) log setting link place hearing
      later late from =
          record {
            texts = heard.texts;
            text = heard.text;
            are_downlinks = subst (λ journal. AreDownlinks setting journal link heard.texts)
                (sym (journal_with_late gone late (λ number among.
                let inside = gone.inside in let behind : length readings + 1 + 1 ≤ number = from number among in omega arith)))
                heard.are_downlinks;
            there = heard.there;
            says = heard.says;
          }

  -- Nothing waits, and a line makes an entry, which is entered at once.
  pub has_taken : (reading : Reading) (happenings : List Happening) (entry : Entry) → HasGone workers setting readings order entered [] log
      → step_of (flying setting) log (length readings + 1) reading ≡ does happenings → entries happenings ≡ entry ∷ []
      → HasGone workers setting (readings ++ reading ∷ []) (order ++ line_of entry ∷ []) (entered ++ entry ∷ []) [] (happenings ++ log)
  has_taken reading happenings entry gone step one =
      let longer : length (readings ++ reading ∷ []) ≡ length readings + 1 = length-append readings (reading ∷ []) in
      let inside = gone.inside in
      let above : gone.start ≤ length readings + 1 + 1 = omega arith in
      record {
        made = entries-append happenings log ∙ ap₂ (λ (front back : List Entry). front ++ back) (gone.made ∙ append-nil entered) one ∙ sym (append-nil (entered ++ entry ∷ []));
        start = length readings + 1 + 1;
        inside = omega arith;
        burst = λ number from upto. absurd (omega arith);
        below = λ number among. below number (among_parts number order (line_of entry ∷ []) among);
        behind = λ other among. absurd among;
        places = λ other among. absurd among;
        rising = tt;
        ordered = ordered_behind setting.addresses workers (readings ++ reading ∷ []) order (line_of entry ∷ [])
            (ordered_more setting.addresses workers readings (reading ∷ []) order gone.ordered) ((λ number among. absurd among), tt)
            (λ earlier number early here. before earlier number early here);
        lines = record { whole = λ other among. whole other (among_parts other entered (entry ∷ []) among); only = λ number among. only number (among_parts number order (line_of entry ∷ []) among) };
        journal = journal;
        runs = leads_one setting readings order gone.start log gone.runs (line_of entry ∷ []) (order ++ line_of entry ∷ []) refl from_start
            (length readings + 1 + 1) above reading (happenings ++ log)
            (λ late from over rest run. line_did over ((order ++ line_of entry ∷ []) ++ late) setting log (length readings + 1) reading rest run happenings step);
      }
    where
      of_line : line_of entry ≡ length readings + 1
      of_line = subst (NoneOrOne (OfLine (length readings + 1))) one (one_of_line setting log (length readings + 1) reading happenings step)

      from_start : AreFrom gone.start (line_of entry ∷ [])
      from_start number (inl e) = let inside = gone.inside in let line = of_line in omega arith
      from_start number (inr among) = absurd among

      below : (number : ℕ) → IsAmong number order ⊎ IsAmong number (line_of entry ∷ []) → number < length readings + 1 + 1
      below number (inl early) = let inside = gone.inside in let below : number < gone.start = gone.below number early in omega arith
      below number (inr (inl e)) = let line = of_line in omega arith
      below number (inr (inr among)) = absurd among

      before : (earlier number : ℕ) → IsAmong earlier order → IsAmong number (line_of entry ∷ []) → earlier < number
      before earlier number early (inl e) =
          let inside = gone.inside in let line = of_line in let below : earlier < gone.start = gone.below earlier early in omega arith
      before earlier number early (inr among) = absurd among

      whole : (other : Entry) → IsAmong other entered ⊎ IsAmong other (entry ∷ []) → IsAmong (line_of other) (order ++ line_of entry ∷ [])
      whole other (inl among) = among_front (line_of other) order (line_of entry ∷ []) (gone.lines.whole other among)
      whole other (inr (inl e)) = among_back (line_of other) order (line_of entry ∷ []) (inl (ap line_of e))
      whole other (inr (inr among)) = absurd among

      only : (number : ℕ) → IsAmong number order ⊎ IsAmong number (line_of entry ∷ [])
          → (other : Entry) × IsAmong other (entered ++ entry ∷ []) × (line_of other ≡ number)
      only number (inl early) = let found = gone.lines.only number early in (found.0, among_front found.0 entered (entry ∷ []) found.1, found.2)
      only number (inr (inl e)) = (entry, among_back entry entered (entry ∷ []) (inl refl), e)
      only number (inr (inr among)) = absurd among

      journal : line_order (journal_of (order ++ line_of entry ∷ []) (entered ++ entry ∷ [])) ≡ order ++ line_of entry ∷ []
      journal =
          ap line_order (taken_journal)
          ∙ map-append line_of (journal_of order entered) (entry ∷ [])
          ∙ ap (λ lines. lines ++ line_of entry ∷ []) gone.journal
        where
          taken_journal : journal_of (order ++ line_of entry ∷ []) (entered ++ entry ∷ []) ≡ journal_of order entered ++ entry ∷ []
          taken_journal = joined_journal order entered (entry ∷ []) (entry ∷ []) gone.start
              (λ number early. gone.below number early) (λ other among. entered_below gone other among)
              (λ other among. at other among) ((λ number among. absurd among), tt) (λ other among. among)
            where
              at : (other : Entry) → IsAmong other (entry ∷ []) → gone.start ≤ line_of other
              at other (inl e) = let inside = gone.inside in let line : line_of other ≡ length readings + 1 = ap line_of (sym e) ∙ of_line in omega arith
              at other (inr among) = absurd among

  -- ---- a burst

  -- A line of a burst joins it, with its entry, if it makes one.
  pub has_joined : {waiting : List Entry} → (reading : Reading) (happenings : List Happening) → HasGone workers setting readings order entered waiting log
      → is_burst_line (Some reading) ≡ true → step_of (flying setting) log (length readings + 1) reading ≡ does happenings
      → HasGone workers setting (readings ++ reading ∷ []) order entered (waiting ++ entries happenings) (happenings ++ log)
  has_joined {waiting} reading happenings gone is_burst step =
      let longer : length (readings ++ reading ∷ []) ≡ length readings + 1 = length-append readings (reading ∷ []) in
      let inside = gone.inside in
      record {
        made = entries-append happenings log ∙ ap (λ made. made ++ entries happenings) gone.made ∙ append_assoc entered waiting (entries happenings);
        start = gone.start;
        inside = omega arith;
        burst = λ number from upto. burst number from (cases_lt (length readings) number) (let below : number ≤ length readings + 1 = omega arith in below);
        below = gone.below;
        behind = λ entry among. behind entry (among_parts entry waiting (entries happenings) among);
        places = λ entry among. places entry (among_parts entry waiting (entries happenings) among);
        rising = subst IsRising (sym (map-append line_of waiting (entries happenings)))
            (rising_behind (line_order waiting) (line_order (entries happenings)) gone.rising (alone (entries happenings) one) before);
        ordered = ordered_more setting.addresses workers readings (reading ∷ []) order gone.ordered;
        lines = gone.lines;
        journal = gone.journal;
        runs = leads_one setting readings order gone.start log gone.runs [] order (sym (append-nil order)) (λ number among. absurd among)
            gone.start (let same : gone.start ≤ gone.start = omega arith in same) reading (happenings ++ log)
            (λ late from over rest run. line_did over (order ++ late) setting log (length readings + 1) reading rest run happenings step);
      }
    where
      one : NoneOrOne (OnLink (length readings + 1) (place_on setting.addresses (Some reading))) (entries happenings)
      one = one_of_burst_line setting log (length readings + 1) reading happenings is_burst step

      of_burst : (made : List Entry) → NoneOrOne (OnLink (length readings + 1) (place_on setting.addresses (Some reading))) made
          → (entry : Entry) → IsAmong entry made → OnLink (length readings + 1) (place_on setting.addresses (Some reading)) entry
      of_burst [] holds entry among = absurd among
      of_burst (made ∷ []) holds entry (inl e) = subst (OnLink (length readings + 1) (place_on setting.addresses (Some reading))) e holds
      of_burst (made ∷ []) holds entry (inr among) = absurd among
      of_burst (made ∷ other ∷ more) holds entry among = absurd holds

      alone : (made : List Entry) → NoneOrOne (OnLink (length readings + 1) (place_on setting.addresses (Some reading))) made → IsRising (line_order made)
      alone [] holds = tt
      alone (made ∷ []) holds = ((λ number among. absurd among), tt)
      alone (made ∷ other ∷ more) holds = absurd holds

      burst : (number : ℕ) → gone.start ≤ number → (length readings < number) ⊎ (number ≤ length readings) → number ≤ length readings + 1
          → is_burst_line (reading_at (readings ++ reading ∷ []) number) ≡ true
      burst number from (inl above) upto =
          let last : number ≡ length readings + 1 = omega arith in
          ap (λ n. is_burst_line (reading_at (readings ++ reading ∷ []) n)) last ∙ ap is_burst_line (newest_reading readings reading []) ∙ is_burst
      burst number from (inr below) upto = burst_more readings (reading ∷ []) number (gone.burst number from below)

      behind : (entry : Entry) → IsAmong entry waiting ⊎ IsAmong entry (entries happenings)
          → (gone.start ≤ line_of entry) × (line_of entry ≤ length (readings ++ reading ∷ []))
      behind entry (inl among) =
          let longer : length (readings ++ reading ∷ []) ≡ length readings + 1 = length-append readings (reading ∷ []) in
          let upto : line_of entry ≤ length readings = (gone.behind entry among).1 in ((gone.behind entry among).0, omega arith)
      behind entry (inr among) =
          let longer : length (readings ++ reading ∷ []) ≡ length readings + 1 = length-append readings (reading ∷ []) in
          let line : line_of entry ≡ length readings + 1 = (of_burst (entries happenings) one entry among).0 in
          let inside = gone.inside in (omega arith, omega arith)

      places : (entry : Entry) → IsAmong entry waiting ⊎ IsAmong entry (entries happenings)
          → place_on setting.addresses (reading_at (readings ++ reading ∷ []) (line_of entry)) ≡ Some (text_link entry)
      places entry (inl among) = place_more setting.addresses readings (reading ∷ []) (line_of entry) (text_link entry) (gone.places entry among)
      places entry (inr among) =
          ap (λ line. place_on setting.addresses (reading_at (readings ++ reading ∷ []) line)) (of_burst (entries happenings) one entry among).0
          ∙ ap (place_on setting.addresses) (newest_reading readings reading [])
          ∙ (of_burst (entries happenings) one entry among).1

      before : (earlier number : ℕ) → IsAmong earlier (line_order waiting) → IsAmong number (line_order (entries happenings)) → earlier < number
      before earlier number early late =
          let first = among_mapped line_of earlier waiting early in
          let then = among_mapped line_of number (entries happenings) late in
          let upto : line_of first.0 ≤ length readings = (gone.behind first.0 first.1).1 in
          let line : line_of then.0 ≡ length readings + 1 = (of_burst (entries happenings) one then.0 then.1).0 in
          let is_earlier : line_of first.0 ≡ earlier = first.2 in
          let is_number : line_of then.0 ≡ number = then.2 in omega arith

  module _ {waiting : List Entry} (woven : List Entry) (gone : HasGone workers setting readings order entered waiting log) (taken : AreTaken workers waiting woven) where
    woven_behind : (entry : Entry) → IsAmong entry woven → (gone.start ≤ line_of entry) × (line_of entry ≤ length readings)
    woven_behind entry among = gone.behind entry (taken_was_waiting workers waiting woven taken entry among)

    -- The journal goes on with the burst's entries, as its workers took them.
    pub journal_has_entered : journal_of (order ++ line_order woven) (entered ++ waiting) ≡ journal_of order entered ++ woven
    journal_has_entered = joined_journal order entered waiting woven gone.start gone.below (λ entry among. entered_below gone entry among)
        (λ entry among. (gone.behind entry among).0) gone.rising (taken_was_waiting workers waiting woven taken)

    -- The workers enter the burst: in an order in which each took its own entries in the order of their lines.
    pub has_entered : HasGone workers setting readings (order ++ line_order woven) (entered ++ waiting) [] log
    has_entered =
        let inside = gone.inside in
        record {
          made = gone.made ∙ sym (append-nil (entered ++ waiting));
          start = length readings + 1;
          inside = omega arith;
          burst = λ number from upto. absurd (omega arith);
          below = λ number among. below number (among_parts number order (line_order woven) among);
          behind = λ entry among. absurd among;
          places = λ entry among. absurd among;
          rising = tt;
          ordered = ordered_behind setting.addresses workers readings order (line_order woven) gone.ordered
              (burst_ordered setting.addresses readings workers gone.start gone.burst woven stand (taken_rises workers waiting woven gone.rising taken)) above;
          lines = record { whole = λ entry among. whole entry (among_parts entry entered waiting among); only = λ number among. only number (among_parts number order (line_order woven) among) };
          journal = ap line_order journal_has_entered ∙ map-append line_of (journal_of order entered) woven ∙ ap (λ lines. lines ++ line_order woven) gone.journal;
          runs = runs;
        }
      where
        stand : (entry : Entry) → IsAmong entry woven → StandsInBurst setting.addresses readings workers gone.start entry
        stand entry among =
            record {
              from = (woven_behind entry among).0;
              upto = (woven_behind entry among).1;
              place = gone.places entry (taken_was_waiting workers waiting woven taken entry among);
            }

        woven_lines : (number : ℕ) → IsAmong number (line_order woven) → (gone.start ≤ number) × (number ≤ length readings)
        woven_lines number among =
            let found = among_mapped line_of number woven among in
            subst (λ n. (gone.start ≤ n) × (n ≤ length readings)) found.2 (woven_behind found.0 found.1)

        above : (earlier number : ℕ) → IsAmong earlier order → IsAmong number (line_order woven) → earlier < number
        above earlier number early late =
            let below : earlier < gone.start = gone.below earlier early in let from : gone.start ≤ number = (woven_lines number late).0 in omega arith

        below : (number : ℕ) → IsAmong number order ⊎ IsAmong number (line_order woven) → number < length readings + 1
        below number (inl early) = let inside = gone.inside in let below : number < gone.start = gone.below number early in omega arith
        below number (inr late) = let upto : number ≤ length readings = (woven_lines number late).1 in omega arith

        whole : (entry : Entry) → IsAmong entry entered ⊎ IsAmong entry waiting → IsAmong (line_of entry) (order ++ line_order woven)
        whole entry (inl among) = among_front (line_of entry) order (line_order woven) (gone.lines.whole entry among)
        whole entry (inr among) =
            among_back (line_of entry) order (line_order woven) (among_map line_of entry woven (waiting_is_taken workers waiting woven taken entry among))

        only : (number : ℕ) → IsAmong number order ⊎ IsAmong number (line_order woven)
            → (entry : Entry) × IsAmong entry (entered ++ waiting) × (line_of entry ≡ number)
        only number (inl early) = let found = gone.lines.only number early in (found.0, among_front found.0 entered waiting found.1, found.2)
        only number (inr late) =
            let found = among_mapped line_of number woven late in
            (found.0, among_back found.0 entered waiting (taken_was_waiting workers waiting woven taken found.0 found.1), found.2)

        runs : LeadsOn setting readings (order ++ line_order woven) (length readings + 1) log
        runs late late_from over rest run behind =
            let joined : (order ++ line_order woven) ++ late ≡ order ++ (line_order woven ++ late) = append_assoc order (line_order woven) late in
            subst (λ o. ScriptRun (record { readings = readings ++ rest; over = over }) o run) (sym joined)
            (gone.runs (line_order woven ++ late) (λ number among. from number (among_parts number (line_order woven) late among)) over rest run
            (subst (λ o. LinesRun over o (flying setting) log (length readings + 1) rest run) joined behind))
          where
            from : (number : ℕ) → IsAmong number (line_order woven) ⊎ IsAmong number late → gone.start ≤ number
            from number (inl among) = (woven_lines number among).0
            from number (inr among) = let inside = gone.inside in let behind : length readings + 1 ≤ number = late_from number among in omega arith

  -- The same from the workers' lists, woven into one.
  pub has_run : {waiting : List Entry} → (lists : List (List Entry)) (woven : List Entry) → HasGone workers setting readings order entered waiting log
      → AreWorkersLists workers waiting lists → IsWoven lists woven
      → HasGone workers setting readings (order ++ line_order woven) (entered ++ waiting) [] log
      × (journal_of (order ++ line_order woven) (entered ++ waiting) ≡ journal_of order entered ++ woven)
  has_run {waiting} lists woven gone are is_woven =
      let taken = woven_is_taken workers waiting lists woven are is_woven in
      (has_entered woven gone taken, journal_has_entered woven gone taken)

  -- The same where the entries are taken in the order of their lines.
  pub has_entered_in_line : {waiting : List Entry} → HasGone workers setting readings order entered waiting log
      → HasGone workers setting readings (order ++ line_order waiting) (entered ++ waiting) [] log
      × (journal_of (order ++ line_order waiting) (entered ++ waiting) ≡ journal_of order entered ++ waiting)
  has_entered_in_line {waiting} gone = (has_entered waiting gone (λ worker. refl), journal_has_entered waiting gone (λ worker. refl))

  -- ---- the end

  -- Nothing waits, and the readings that follow lead to this run of the same log: so does the script, under an allowed order.
  ends : HasGone workers setting readings order entered [] log → (over : Bool) (rest : List Reading) (run : Run)
      → run.setting ≡ Some setting → run.log ≡ log → LinesRun over order (flying setting) log (length readings + 1) rest run
      → ScriptRun (record { readings = readings ++ rest; over = over }) order run
      × IsAllowedOrder (record { readings = readings ++ rest; over = over }) run workers order
  ends gone over rest run settings logs behind = (
    subst (λ o. ScriptRun (record { readings = readings ++ rest; over = over }) o run) (append-nil order)
        (gone.runs [] (λ number among. absurd among) over rest run
        (subst (λ o. LinesRun over o (flying setting) log (length readings + 1) rest run) (sym (append-nil order)) behind)),
    record {
      ordered = subst (λ s. IsOrdered (addresses_in s) (readings ++ rest) workers order) (sym settings)
          (ordered_more setting.addresses workers readings rest order gone.ordered);
      lines = subst (λ l. IsOrderOf (entries l) order) (sym logs) (subst (λ made. IsOrderOf made order) (sym (gone.made ∙ append-nil entered)) gone.lines);
    },
  )

  -- Nothing waits, and no line follows before the limit.
  pub has_ended : HasGone workers setting readings order entered [] log → (over : Bool)
      → ScriptRun (record { readings = readings; over = over }) order (ended_run (flying setting) log (end_behind over (flying setting) (length readings + 1)))
      × IsAllowedOrder (record { readings = readings; over = over }) (ended_run (flying setting) log (end_behind over (flying setting) (length readings + 1))) workers order
  has_ended gone over =
      subst (λ all. ScriptRun (record { readings = all; over = over }) order (ended_run (flying setting) log (end_behind over (flying setting) (length readings + 1)))
      × IsAllowedOrder (record { readings = all; over = over }) (ended_run (flying setting) log (end_behind over (flying setting) (length readings + 1))) workers order)
      (append-nil readings)
      (ends gone over [] (ended_run (flying setting) log (end_behind over (flying setting) (length readings + 1))) refl refl refl)

  -- Nothing waits, and the next line is bad: whatever follows.
  pub has_stopped : (reading : Reading) (found : Code) (value : ℕ) → HasGone workers setting readings order entered [] log
      → step_of (flying setting) log (length readings + 1) reading ≡ stops found value → (over : Bool) (rest : List Reading)
      → ScriptRun (record { readings = readings ++ reading ∷ rest; over = over }) order (stopped_run (flying setting) log (length readings + 1) found value)
      × IsAllowedOrder (record { readings = readings ++ reading ∷ rest; over = over }) (stopped_run (flying setting) log (length readings + 1) found value) workers order
  has_stopped reading found value gone step over rest =
      ends gone over (reading ∷ rest) (stopped_run (flying setting) log (length readings + 1) found value) refl refl
      (by_step over order (flying setting) log (length readings + 1) reading rest (stopped_run (flying setting) log (length readings + 1) found value) (stops found value) step refl)

  -- Nothing waits, and the next line brings a downlink that isn't there: the line is bad, and tells how many there are.
  pub has_missed : (reading : Reading) (link place : ℕ) (texts : List (List ℕ)) → HasGone workers setting readings order entered [] log
      → step_of (flying setting) log (length readings + 1) reading ≡ receives setting link place
      → AreDownlinks setting (journal_at order log) link texts → slice_get texts (place - 1) ≡ None → (over : Bool) (rest : List Reading)
      → ScriptRun (record { readings = readings ++ reading ∷ rest; over = over }) order (stopped_run (flying setting) log (length readings + 1) code.Number (length texts))
      × IsAllowedOrder (record { readings = readings ++ reading ∷ rest; over = over }) (stopped_run (flying setting) log (length readings + 1) code.Number (length texts)) workers order
  has_missed reading link place texts gone step are none over rest =
      ends gone over (reading ∷ rest) (stopped_run (flying setting) log (length readings + 1) code.Number (length texts)) refl refl
      (by_step over order (flying setting) log (length readings + 1) reading rest (stopped_run (flying setting) log (length readings + 1) code.Number (length texts))
      (receives setting link place) step (
        texts,
        are,
        subst (λ text. DeliveryRuns Behind (flying setting) log (length readings + 1) setting link place (length texts) text
            (stopped_run (flying setting) log (length readings + 1) code.Number (length texts))) (sym none) refl,
      ))
    where
      Behind : List Happening → Run → Type 0
      Behind now behind = LinesRun over order (stage_after (flying setting) reading) now (length readings + 1 + 1) rest behind
