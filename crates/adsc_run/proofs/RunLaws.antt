-- The laws of a run that is under way: what a line, a burst and the end make of where it stands.
use Rattle.std.proofs.Common.{◌≡◌, ◌≢◌, ◌⊎◌, ◌<◌, ◌≤◌, ◌-◌, ◌*◌, ℕ, ◌+◌, Bool, true, false, List, [], ◌∷◌, ◌++◌, length, Option, Some, None, IfSome, slice_get, inl, inr, refl, sym, ap, ◌∙◌, subst, append_assoc, append-nil, arith}
use Rattle.std.proofs.lemmas.Option.{IfSome_then}
use Rattle.std.specs.Io.KnownBytes.{IsAtEnd}
use Rattle.adsc_io.specs.Readers.{LinesRead}
use Rattle.adsc_io.specs.declared.limits.TheConstants.{MAX_SCRIPT_LINES}
use Rattle.aircraft_core.specs.Downlinks.{AreDownlinks}
use Rattle.aircraft_core.specs.Entries.{IsTakenBy, line_of}
use Rattle.centre_core.specs.Hearing.{Says}
use Rattle.std.proofs.lemmas.List.Elements.{All-nil}
use Rattle.std.specs.List.{All}
use Rattle.aircraft_core.specs.Setting.{Setting, address_of}
use Rattle.aircraft_core.specs.Aircraft.{Aircraft}
use Rattle.aircraft_core.specs.declared.entry.Entry.{Entry}
use Rattle.net_script.specs.declared.refusal.Code.{Code}
use Rattle.net_script.specs.declared.refusal.Code.TheVariants as code
use Rattle.run_rules.specs.Among.{IsAmong}
use Rattle.run_rules.specs.EarlierLines.{AreTaken, HasGone}
use Rattle.run_rules.specs.Happenings.{Happening, entries}
use Rattle.run_rules.specs.Lines.{step_of}
use Rattle.run_rules.specs.Orders.{is_burst_line, journal_of, line_order}
use Rattle.run_rules.specs.Runs.{IsAllowedOrder, IsScript, Script, ScriptRun, ended_run, end_behind, journal_at}
use Rattle.run_rules.specs.Stages.{Step, does, receives, stops, flying}
use Rattle.run_rules.specs.declared.end.End.{End}
use Rattle.run_rules.specs.declared.end.End.TheVariants.{Done, Limit}
use Rattle.run_rules.specs.declared.reading.Reading.{Reading}
use Rattle.run_rules.proofs.EarlierLines.{entered_below, has_begun, has_ended, has_entered, has_gone_on, has_heard, has_joined, has_missed, has_stopped, has_taken, joined_journal, journal_has_entered, journal_so_far}
use Rattle.run_rules.proofs.Weaving.{taken_was_waiting}
use Rattle.run_rules.proofs.LineEntries.{NoneOrOne, OfLine, one_of_line, own_downlinks}
use Rattle.adsc_run.specs.Courses.{Did, HasEntered, HasGrown, StandsBehind}
use Rattle.adsc_run.specs.Feeds.{Found, end_met, limit_met, line_read, HasRead, IsNext, IsWhole, passed}
use Rattle.adsc_run.specs.Outcomes.{AreCentres, IsOutcome, journal_in, setting_in}
use Rattle.adsc_run.specs.Stations.{StationStands, ends_bad}
use Rattle.adsc_run.specs.declared.outcome.Outcome.{Outcome}
use Rattle.adsc_run.specs.UnderWay.{CarriedOut, DidNext, HasEnded, IsAtNext, IsCarriedOn, IsEnding, IsInStage, IsOver, IsReadyFor, IsUnderWay, Stands}
use Rattle.adsc_run.specs.declared.course.Course.{Course}
use Rattle.adsc_run.proofs.CourseLaws.{knows_on}
use Rattle.adsc_run.proofs.FeedLaws.{goes_on_somehow}

-- the same for another name of the setting and of what waits
pub gone_as : {workers : ℕ} {readings : List Reading} {order : List ℕ} {entered : List Entry} {log : List Happening} (setting other : Setting) (waiting others : List Entry)
    → other ≡ setting → others ≡ waiting → HasGone workers setting readings order entered waiting log → HasGone workers other readings order entered others log
gone_as {workers} {readings} {order} {entered} {log} setting other waiting others same also gone =
    subst (λ (x : Setting × List Entry). HasGone workers x.0 readings order entered x.1 log) (λ i. (sym same i, sym also i)) gone

-- ---- a line outside bursts

module _ (workers : ℕ) (readings : List Reading) (reading : Reading) (before now : Course) (stood : Stands workers readings before) (none : before.burst.items ≡ []) where
  gone : HasGone workers before.craft.setting readings stood.order stood.entered [] stood.log
  gone = gone_as before.craft.setting before.craft.setting before.burst.items [] refl (sym none) stood.gone

  -- the journal of the order so far is the craft's
  journal_before : before.craft.journal ≡ journal_at stood.order stood.log
  journal_before = stood.journal ∙ sym (journal_so_far gone)

  -- it stands behind happenings that make no entry
  on_without : (log : List Happening) → HasGone workers before.craft.setting (readings ++ reading ∷ []) stood.order stood.entered [] log → StandsBehind now log
      → HasGrown false [] before now → Stands workers (readings ++ reading ∷ []) now
  on_without log next behind grown = record {
    order = stood.order;
    entered = stood.entered;
    log = log;
    gone = gone_as before.craft.setting now.craft.setting [] now.burst.items grown.setting (grown.burst ∙ none) next;
    journal = grown.journal ∙ append-nil before.craft.journal ∙ stood.journal;
    behind = behind;
  }

  -- it stands behind happenings that make an entry
  on_with : (happenings : List Happening) (entry : Entry) → step_of (flying before.craft.setting) stood.log (length readings + 1) reading ≡ does happenings
      → entries happenings ≡ entry ∷ [] → line_of entry ≡ length readings + 1 → StandsBehind now (happenings ++ stood.log)
      → HasGrown false (entries happenings) before now → Stands workers (readings ++ reading ∷ []) now
  on_with happenings entry step one of_line behind grown = record {
    order = stood.order ++ line_of entry ∷ [];
    entered = stood.entered ++ entry ∷ [];
    log = happenings ++ stood.log;
    gone = gone_as before.craft.setting now.craft.setting [] now.burst.items grown.setting (grown.burst ∙ none) (has_taken reading happenings entry gone step one);
    journal = grown.journal ∙ ap (λ made. before.craft.journal ++ made) one ∙ ap (λ journal. journal ++ entry ∷ []) stood.journal ∙ sym joined;
    behind = behind;
  }
    where
      from_start : (other : Entry) → IsAmong other (entry ∷ []) → gone.start ≤ line_of other
      from_start other (inr none) = absurd none
      from_start other (inl e) = let line : line_of other ≡ length readings + 1 = ap line_of (sym e) ∙ of_line in omega (arith, line, gone.inside)

      joined : journal_of (stood.order ++ line_of entry ∷ []) (stood.entered ++ entry ∷ []) ≡ journal_of stood.order stood.entered ++ entry ∷ []
      joined = joined_journal stood.order stood.entered (entry ∷ []) (entry ∷ []) gone.start gone.below (λ other among. entered_below gone other among)
          from_start ((λ number among. absurd among), tt) (λ other among. among)

  -- the run ends with the line
  ends_with : (end : End) (log : List Happening) → log ≡ stood.log → (end ≢ Done) → StandsBehind now log → HasGrown false [] before now
      → ((over : Bool) (rest : List Reading) → ScriptRun (record { readings = readings ++ reading ∷ rest; over = over }) stood.order (ended_run (flying before.craft.setting) stood.log end)
      × IsAllowedOrder (record { readings = readings ++ reading ∷ rest; over = over }) (ended_run (flying before.craft.setting) stood.log end) workers stood.order)
      → CarriedOut workers readings reading now (Some end)
  ends_with end log same not_done behind grown runs = (
    not_done,
    λ over rest. record {
      order = stood.order;
      log = stood.log;
      runs = subst (λ s. ScriptRun (record { readings = readings ++ reading ∷ rest; over = over }) stood.order (ended_run (flying s) stood.log end)) (sym grown.setting) (runs over rest).0;
      allowed = subst (λ s. IsAllowedOrder (record { readings = readings ++ reading ∷ rest; over = over }) (ended_run (flying s) stood.log end) workers stood.order) (sym grown.setting) (runs over rest).1;
      journal = grown.journal ∙ append-nil before.craft.journal ∙ journal_before;
      ordered = sym (ap line_order (grown.journal ∙ append-nil before.craft.journal ∙ stood.journal) ∙ gone.journal);
      behind = subst (λ l. StandsBehind now l) same behind;
    },
  )

  -- no bad line ends a run as done
  bad_is_not_done : (line : ℕ) (found : Code) (value : ℕ) (end : End) → end ≡ ends_bad line found value → end ≢ Done
  bad_is_not_done line found value end is done = let both : ends_bad line found value ≡ Done = sym is ∙ done in cc

  -- what the line did
  pub line_carried_out : (ended : Option End) → Did false (step_of (flying before.craft.setting) stood.log (length readings + 1) reading) (length readings + 1) stood.log before now ended
      → CarriedOut workers readings reading now ended
  line_carried_out ended did = at (step_of (flying before.craft.setting) stood.log (length readings + 1) reading) ended refl did
    where
      at : (step : Step) (ended : Option End) → step_of (flying before.craft.setting) stood.log (length readings + 1) reading ≡ step
          → Did false step (length readings + 1) stood.log before now ended → CarriedOut workers readings reading now ended
      at (does happenings) None step did = made (entries happenings) refl (one_of_line before.craft.setting stood.log (length readings + 1) reading happenings step)
        where
          made : (these : List Entry) → entries happenings ≡ these → NoneOrOne (OfLine (length readings + 1)) (entries happenings)
              → Stands workers (readings ++ reading ∷ []) now
          made [] is one = on_without (happenings ++ stood.log) (has_gone_on reading happenings gone step is) did.0 (subst (λ e. HasGrown false e before now) is did.1)
          made (entry ∷ []) is one = on_with happenings entry step is (subst (NoneOrOne (OfLine (length readings + 1))) is one) did.0 did.1
          made (entry ∷ other ∷ more) is one = absurd (subst (NoneOrOne (OfLine (length readings + 1))) is one)
      at (does happenings) (Some end) step did = absurd did
      at (stops found value) None step did = absurd did
      at (stops found value) (Some end) step did =
          ends_with end stood.log refl (bad_is_not_done (length readings + 1) found value end did.0) did.1 did.2
          (λ over rest. subst (λ e. ScriptRun (record { readings = readings ++ reading ∷ rest; over = over }) stood.order (ended_run (flying before.craft.setting) stood.log e)
          × IsAllowedOrder (record { readings = readings ++ reading ∷ rest; over = over }) (ended_run (flying before.craft.setting) stood.log e) workers stood.order) (sym did.0)
          (has_stopped reading found value gone step over rest))
      at (receives other link place) None step did = heard other (own_downlinks before.craft.setting stood.log (length readings + 1) reading other link place step) step did
        where
          heard : (other : Setting) → other ≡ before.craft.setting → step_of (flying before.craft.setting) stood.log (length readings + 1) reading ≡ receives other link place
              → Did false (receives other link place) (length readings + 1) stood.log before now None → Stands workers (readings ++ reading ∷ []) now
          heard other own step did =
              on_without _ (has_heard reading link place did.0 gone (step ∙ ap (λ s. receives s link place) own)
              (record {
                texts = did.1.texts;
                text = did.1.text;
                are_downlinks = subst (λ j. AreDownlinks before.craft.setting j link did.1.texts) journal_before (subst (λ s. AreDownlinks s before.craft.journal link did.1.texts) own did.1.are_downlinks);
                there = did.1.there;
                says = subst (λ s. Says (address_of s link) s.registration did.1.text did.0) own did.1.says;
              })) did.2 did.3
      at (receives other link place) (Some end) step did = missed other (own_downlinks before.craft.setting stood.log (length readings + 1) reading other link place step) step did
        where
          missed : (other : Setting) → other ≡ before.craft.setting → step_of (flying before.craft.setting) stood.log (length readings + 1) reading ≡ receives other link place
              → Did false (receives other link place) (length readings + 1) stood.log before now (Some end) → CarriedOut workers readings reading now (Some end)
          missed other own step did =
              let bad : end ≡ ends_bad (length readings + 1) code.Number (length did.1.texts) = did.2 ∙ ap (λ n. ends_bad (length readings + 1) code.Number n) did.1.counted in
              ends_with end stood.log refl (bad_is_not_done (length readings + 1) code.Number (length did.1.texts) end bad) did.3 did.4
              (λ over rest. subst (λ e. ScriptRun (record { readings = readings ++ reading ∷ rest; over = over }) stood.order (ended_run (flying before.craft.setting) stood.log e)
              × IsAllowedOrder (record { readings = readings ++ reading ∷ rest; over = over }) (ended_run (flying before.craft.setting) stood.log e) workers stood.order) (sym bad)
              (has_missed reading link place did.1.texts gone (step ∙ ap (λ s. receives s link place) own)
              (subst (λ j. AreDownlinks before.craft.setting j link did.1.texts) journal_before (subst (λ s. AreDownlinks s before.craft.journal link did.1.texts) own did.1.are_downlinks))
              did.1.none over rest))

-- ---- a burst

-- where the workers entered the burst, the course stands behind the same log
pub behind_entered : (workers : ℕ) (before now : Course) (log : List Happening) → HasEntered workers before now → StandsBehind before log → StandsBehind now log
behind_entered workers before now log entered behind = record {
  count = ap (λ v. length v.items) entered.stations ∙ behind.count ∙ sym (ap (λ (s : Setting). length s.addresses) entered.setting);
  each = λ link station there. subst (λ s. StationStands s link log station) (sym entered.setting)
      (behind.each link station (ap (λ v. slice_get v.items link) (sym entered.stations) ∙ there));
  refused = ap (λ v. v.items) entered.refused ∙ behind.refused;
  waiting = subst (λ these. All (IsTakenBy now.craft.setting) these) (sym entered.none) (All-nil (IsTakenBy now.craft.setting));
  found = knows_on before now entered.woven behind.found entered.setting entered.journal (ap (λ v. v.items) entered.ends);
}

-- the workers entered the burst of a course that stands
abbrev pub burst_entered : (workers : ℕ) (readings : List Reading) (before now : Course) → Stands workers readings before → HasEntered workers before now
    → Stands workers readings now
burst_entered workers readings before now stood entered = record {
  order = stood.order ++ line_order entered.woven;
  entered = stood.entered ++ before.burst.items;
  log = stood.log;
  gone = gone_as before.craft.setting now.craft.setting [] now.burst.items entered.setting entered.none (has_entered entered.woven stood.gone entered.taken);
  journal = entered.journal ∙ ap (λ journal. journal ++ entered.woven) stood.journal ∙ sym (journal_has_entered entered.woven stood.gone entered.taken);
  behind = behind_entered workers before now stood.log entered stood.behind;
}

-- a line of a burst joined it
pub burst_joined : (workers : ℕ) (readings : List Reading) (reading : Reading) (before now : Course) (stood : Stands workers readings before)
    → is_burst_line (Some reading) ≡ true
    → Did true (step_of (flying before.craft.setting) stood.log (length readings + 1) reading) (length readings + 1) stood.log before now None
    → Stands workers (readings ++ reading ∷ []) now
burst_joined workers readings reading before now stood burst did = at (step_of (flying before.craft.setting) stood.log (length readings + 1) reading) refl did
  where
    at : (step : Step) → step_of (flying before.craft.setting) stood.log (length readings + 1) reading ≡ step
        → Did true step (length readings + 1) stood.log before now None → Stands workers (readings ++ reading ∷ []) now
    at (does happenings) step did = record {
      order = stood.order;
      entered = stood.entered;
      log = happenings ++ stood.log;
      gone = gone_as before.craft.setting now.craft.setting (before.burst.items ++ entries happenings) now.burst.items (ap (λ (c : Aircraft). c.setting) did.1.craft) did.1.burst
          (has_joined reading happenings stood.gone burst step);
      journal = ap (λ (c : Aircraft). c.journal) did.1.craft ∙ stood.journal;
      behind = did.0;
    }
    at (stops found value) step did = absurd did
    at (receives setting link place) step did = absurd did

-- a line of a burst ends the run, and then the burst is entered
pub burst_stopped : (workers : ℕ) (readings : List Reading) (reading : Reading) (before middle now : Course) (end : End) (stood : Stands workers readings before)
    → Did true (step_of (flying before.craft.setting) stood.log (length readings + 1) reading) (length readings + 1) stood.log before middle (Some end)
    → HasEntered workers middle now → CarriedOut workers readings reading now (Some end)
burst_stopped workers readings reading before middle now end stood did entered =
    at (step_of (flying before.craft.setting) stood.log (length readings + 1) reading) refl did
  where
    at : (step : Step) → step_of (flying before.craft.setting) stood.log (length readings + 1) reading ≡ step
        → Did true step (length readings + 1) stood.log before middle (Some end) → CarriedOut workers readings reading now (Some end)
    at (does happenings) step did = absurd did
    at (receives setting link place) step did = absurd did
    at (stops found value) step did =
        line_carried_out workers readings reading now now after entered.none (Some end)
        (subst (λ s. Did false s (length readings + 1) stood.log now now (Some end)) (sym same_step)
        (did.0, after.behind, record { setting = refl; journal = sym (append-nil now.craft.journal); burst = refl }))
      where
        own : middle.craft.setting ≡ before.craft.setting
        own = ap (λ (c : Aircraft). c.setting) did.2.craft

        stays : Stands workers readings middle
        stays = record {
          order = stood.order;
          entered = stood.entered;
          log = stood.log;
          gone = gone_as before.craft.setting middle.craft.setting before.burst.items middle.burst.items own (did.2.burst ∙ append-nil before.burst.items) stood.gone;
          journal = ap (λ (c : Aircraft). c.journal) did.2.craft ∙ stood.journal;
          behind = did.1;
        }

        after : Stands workers readings now
        after = burst_entered workers readings middle now stays entered

        same_step : step_of (flying now.craft.setting) stood.log (length readings + 1) reading ≡ stops found value
        same_step = ap (λ s. step_of (flying s) stood.log (length readings + 1) reading) (entered.setting ∙ own) ∙ step

-- ---- the end

-- The lines are over, and nothing waits.
pub lines_over : (workers : ℕ) (readings : List Reading) (course : Course) (over : Bool) (end : End) → Stands workers readings course → course.burst.items ≡ []
    → end ≡ end_behind over (flying course.craft.setting) (length readings + 1)
    → HasEnded workers (record { readings = readings; over = over }) course end
lines_over workers readings course over end stood none is =
    let gone = gone_as course.craft.setting course.craft.setting course.burst.items [] refl (sym none) stood.gone in
    let ended = has_ended gone over in
    record {
      order = stood.order;
      log = stood.log;
      runs = subst (λ e. ScriptRun (record { readings = readings; over = over }) stood.order (ended_run (flying course.craft.setting) stood.log e)) (sym is) ended.0;
      allowed = subst (λ e. IsAllowedOrder (record { readings = readings; over = over }) (ended_run (flying course.craft.setting) stood.log e) workers stood.order) (sym is) ended.1;
      journal = stood.journal ∙ sym (journal_so_far gone);
      ordered = sym (ap line_order stood.journal ∙ stood.gone.journal);
      behind = stood.behind;
    }

-- The script of the source has ended where its lines are over.
pub source_over : (workers : ℕ) (before now : Option (List ℕ)) (readings : List Reading) (course : Course) (over : Bool) (end : End) → IsWhole before readings over
    → HasEnded workers (record { readings = readings; over = over }) course end → (end ≡ Done → IsAtEnd now) → IsOver workers before now course end
source_over workers before now readings course over end whole ended done = record {
  ended = IfSome_then before whole (λ bytes is. (record { readings = readings; over = over }, is, ended));
  done = done;
}

-- The script of the source has ended with a bad line, whatever stands behind it.
pub source_stopped : (workers : ℕ) (before now : Option (List ℕ)) (reader : LinesRead) (readings : List Reading) (reading : Reading) (course : Course) (end : End)
    → HasRead before now reader (readings ++ reading ∷ []) → CarriedOut workers readings reading course (Some end) → IsOver workers before now course end
source_stopped workers before now reader readings reading course end has carried = record {
  ended = IfSome_then before (goes_on_somehow before now reader (readings ++ reading ∷ []) has)
      (λ bytes on. (
        record { readings = readings ++ reading ∷ on.0; over = on.1 },
        subst (λ all. IsScript bytes (record { readings = all; over = on.1 })) (append_assoc readings (reading ∷ []) on.0) on.2,
        carried.1 on.1 on.0,
      ));
  done = λ done. absurd (carried.0 done);
}

-- ---- calls

-- a line left the setting as it was, and the stations as many
pub did_keeps : (waits : Bool) (step : Step) (line : ℕ) (log : List Happening) (before now : Course) (end : Option End) → Did waits step line log before now end
    → now.craft.setting ≡ before.craft.setting
did_keeps true (does happenings) line log before now None did = ap (λ (c : Aircraft). c.setting) did.1.craft
did_keeps false (does happenings) line log before now None did = did.1.setting
did_keeps true (does happenings) line log before now (Some end) did = absurd did
did_keeps false (does happenings) line log before now (Some end) did = absurd did
did_keeps true (stops found value) line log before now None did = absurd did
did_keeps false (stops found value) line log before now None did = absurd did
did_keeps true (stops found value) line log before now (Some end) did = ap (λ (c : Aircraft). c.setting) did.2.craft
did_keeps false (stops found value) line log before now (Some end) did = did.2.setting
did_keeps true (receives setting link place) line log before now None did = absurd did
did_keeps true (receives setting link place) line log before now (Some end) did = absurd did
did_keeps false (receives setting link place) line log before now None did = did.3.setting
did_keeps false (receives setting link place) line log before now (Some end) did = did.4.setting

-- what waits behind a line is taken
pub waits_taken : (waits : Bool) (step : Step) (line : ℕ) (log : List Happening) (before now : Course) (end : Option End) → Did waits step line log before now end
    → All (IsTakenBy now.craft.setting) now.burst.items
waits_taken true (does happenings) line log before now None did = did.0.waiting
waits_taken false (does happenings) line log before now None did = did.0.waiting
waits_taken true (does happenings) line log before now (Some end) did = absurd did
waits_taken false (does happenings) line log before now (Some end) did = absurd did
waits_taken true (stops found value) line log before now None did = absurd did
waits_taken false (stops found value) line log before now None did = absurd did
waits_taken true (stops found value) line log before now (Some end) did = did.1.waiting
waits_taken false (stops found value) line log before now (Some end) did = did.1.waiting
waits_taken true (receives setting link place) line log before now None did = absurd did
waits_taken true (receives setting link place) line log before now (Some end) did = absurd did
waits_taken false (receives setting link place) line log before now None did = did.2.waiting
waits_taken false (receives setting link place) line log before now (Some end) did = did.3.waiting

-- a line of no burst leaves what waits
did_waits : (step : Step) (line : ℕ) (log : List Happening) (before now : Course) (end : Option End) → Did false step line log before now end
    → now.burst.items ≡ before.burst.items
did_waits (does happenings) line log before now None did = did.1.burst
did_waits (does happenings) line log before now (Some end) did = absurd did
did_waits (stops found value) line log before now None did = absurd did
did_waits (stops found value) line log before now (Some end) did = did.2.burst
did_waits (receives setting link place) line log before now None did = did.3.burst
did_waits (receives setting link place) line log before now (Some end) did = did.4.burst

-- a line that ends a run is bad
bad_ends : (waits : Bool) (step : Step) (line : ℕ) (log : List Happening) (before now : Course) (end : End) → Did waits step line log before now (Some end) → end ≢ Done
bad_ends waits step line log before now end did done = at waits step did
  where
    bad : (found : Code) (value : ℕ) → end ≡ ends_bad line found value → ⊥
    bad found value is = let both : ends_bad line found value ≡ Done = sym is ∙ done in cc

    at : (waits : Bool) (step : Step) → Did waits step line log before now (Some end) → ⊥
    at true (does happenings) did = absurd did
    at false (does happenings) did = absurd did
    at true (stops found value) did = bad found value did.0
    at false (stops found value) did = bad found value did.0
    at true (receives setting link place) did = absurd did
    at false (receives setting link place) did = bad code.Number did.0 did.2

-- ---- where nothing waits

nothing_taken : (workers : ℕ) (woven : List Entry) → AreTaken workers [] woven → woven ≡ []
nothing_taken workers [] taken = refl
nothing_taken workers (first ∷ woven) taken = absurd (taken_was_waiting workers [] (first ∷ woven) taken first (inl refl))

-- a script that ended with nothing waiting has ended, too, once nothing was entered
ended_entered : (workers : ℕ) (script : Script) (course entered : Course) (end : End) → HasEnded workers script course end → course.burst.items ≡ []
    → HasEntered workers course entered → HasEnded workers script entered end
ended_entered workers script course entered end ended none has =
    let woven : has.woven ≡ [] = nothing_taken workers has.woven (subst (λ these. AreTaken workers these has.woven) none has.taken) in
    let same : entered.craft.journal ≡ course.craft.journal = has.journal ∙ ap (λ made. course.craft.journal ++ made) woven ∙ append-nil course.craft.journal in
    record {
      order = ended.order;
      log = ended.log;
      runs = subst (λ s. ScriptRun script ended.order (ended_run (flying s) ended.log end)) (sym has.setting) ended.runs;
      allowed = subst (λ s. IsAllowedOrder script (ended_run (flying s) ended.log end) workers ended.order) (sym has.setting) ended.allowed;
      journal = same ∙ ended.journal;
      ordered = ended.ordered ∙ ap line_order (sym same);
      behind = behind_entered workers course entered ended.log has ended.behind;
    }

-- ---- one line more

module _ (workers : ℕ) (before now : Option (List ℕ)) (reader : LinesRead) (reading : Reading) (course after : Course)
    (at : IsAtNext workers before now reader course (line_read reading)) where
  abbrev its_step : Step
  its_step = step_of (flying course.craft.setting) at.stands.log (length at.readings + 1) reading

  grows : after.craft.setting ≡ course.craft.setting → Stands workers (at.readings ++ reading ∷ []) after → IsUnderWay workers before now reader after
  grows own stands = record {
    readings = at.readings ++ reading ∷ [];
    read = at.next;
    stands = stands;
    few = subst (λ (s : Setting). length s.addresses ≤ 64) (sym own) at.few;
  }

  -- a line of a burst
  in_burst : (end : Option End) → is_burst_line (Some reading) ≡ true
      → Did true its_step (length at.readings + 1) at.stands.log course after end → IsCarriedOn workers before now reader after end
  in_burst None burst did = grows (did_keeps true its_step (length at.readings + 1) at.stands.log course after None did) (burst_joined workers at.readings reading course after at.stands burst did)
  in_burst (Some end) burst did = record {
    ended = λ entered has.
        (source_stopped workers before now reader at.readings reading entered end at.next
        (burst_stopped workers at.readings reading course after entered end at.stands did has)).ended;
    done = λ done. absurd (bad_ends true its_step (length at.readings + 1) at.stands.log course after end did done);
  }

  -- another line, where nothing waits
  alone : (end : Option End) → course.burst.items ≡ []
      → Did false its_step (length at.readings + 1) at.stands.log course after end → IsCarriedOn workers before now reader after end
  alone None none did = grows (did_keeps false its_step (length at.readings + 1) at.stands.log course after None did) (line_carried_out workers at.readings reading course after at.stands none None did)
  alone (Some end) none did =
      let carried = line_carried_out workers at.readings reading course after at.stands none (Some end) did in
      record {
        ended = λ entered has.
            (source_stopped workers before now reader at.readings reading entered end at.next (
              carried.0,
              λ over rest. ended_entered workers _ after entered end (carried.1 over rest)
                  (did_waits its_step (length at.readings + 1) at.stands.log course after (Some end) did ∙ none) has,
            )).ended;
        done = λ done. absurd (carried.0 done);
      }

-- the script ends where what stands next is no line
ends_next : (workers : ℕ) (before now : Option (List ℕ)) (readings : List Reading) (course : Course) (over : Bool) (end : End) → Stands workers readings course
    → IsWhole before readings over → ((setting : Setting) → end ≡ end_behind over (flying setting) (length readings + 1)) → (end ≡ Done → IsAtEnd now)
    → IsEnding workers before now course end
ends_next workers before now readings course over end stands whole is done = record {
  ended = λ entered has.
      (source_over workers before now readings entered over end whole
      (lines_over workers readings entered over end (burst_entered workers readings course entered stands has) has.none (is entered.craft.setting)) done).ended;
  done = done;
}

-- what stood next was carried out
pub carried_on : (workers : ℕ) (before now : Option (List ℕ)) (reader : LinesRead) (number : ℕ) (found : Found) (course after : Course) (end : Option End)
    (at : IsAtNext workers before now reader course found) → number ≡ reader.number → IsReadyFor course found → DidNext found number at.stands.log course after end
    → IsCarriedOn workers before now reader after end
carried_on workers before now reader number (line_read reading) course after end at numbered ready did = by_kind (is_burst_line (Some reading)) refl
  where
    here : Did (is_burst_line (Some reading)) (step_of (flying course.craft.setting) at.stands.log (length at.readings + 1) reading) (length at.readings + 1) at.stands.log course after end
    here = subst (λ n. Did (is_burst_line (Some reading)) (step_of (flying course.craft.setting) at.stands.log n reading) n at.stands.log course after end) (numbered ∙ at.counted) did

    nothing_waits : (is_burst_line (Some reading) ≡ true) ⊎ (course.burst.items ≡ []) → is_burst_line (Some reading) ≡ false → course.burst.items ≡ []
    nothing_waits (inl burst) other = absurd (let both : true ≡ false = sym burst ∙ other in cc)
    nothing_waits (inr none) other = none

    by_kind : (kind : Bool) → is_burst_line (Some reading) ≡ kind → IsCarriedOn workers before now reader after end
    by_kind true burst =
        in_burst workers before now reader reading course after at end burst
        (subst (λ b. Did b (step_of (flying course.craft.setting) at.stands.log (length at.readings + 1) reading) (length at.readings + 1) at.stands.log course after end) burst here)
    by_kind false other =
        alone workers before now reader reading course after at end (nothing_waits ready other)
        (subst (λ b. Did b (step_of (flying course.craft.setting) at.stands.log (length at.readings + 1) reading) (length at.readings + 1) at.stands.log course after end) other here)
carried_on workers before now reader number end_met course after end at numbered ready did =
    subst (λ e. IsCarriedOn workers before now reader after e) (sym did.0)
    (subst (λ c. IsEnding workers before now c Done) (sym did.1)
    (ends_next workers before now at.readings course false Done at.stands at.next.0 (λ setting. refl) (λ done. at.next.1)))
carried_on workers before now reader number limit_met course after end at numbered ready did =
    subst (λ e. IsCarriedOn workers before now reader after e) (sym did.0)
    (subst (λ c. IsEnding workers before now c (Limit (number + 1))) (sym did.1)
    (ends_next workers before now at.readings course true (Limit (number + 1)) at.stands at.next (λ setting. ap (λ n. Limit (n + 1)) counted) (λ done. absurd (not_done done))))
  where
    counted : number ≡ length at.readings
    counted = let is = at.counted in omega (arith, numbered, is)

    not_done : Limit (number + 1) ≡ Done → ⊥
    not_done is = cc

-- what waits once it was carried out is taken
pub did_next_waits : (found : Found) (number : ℕ) (log : List Happening) (before now : Course) (end : Option End) → StandsBehind before log
    → DidNext found number log before now end → All (IsTakenBy now.craft.setting) now.burst.items
did_next_waits (line_read reading) number log before now end behind did =
    waits_taken (is_burst_line (Some reading)) (step_of (flying before.craft.setting) log number reading) number log before now end did
did_next_waits end_met number log before now end behind did = subst (λ c. All (IsTakenBy c.craft.setting) c.burst.items) (sym did.1) behind.waiting
did_next_waits limit_met number log before now end behind did = subst (λ c. All (IsTakenBy c.craft.setting) c.burst.items) (sym did.1) behind.waiting

-- where nothing is due before it, what stands next is carried out behind the lines so far
pub at_next : (workers : ℕ) (before now left : Option (List ℕ)) (reader behind : LinesRead) (found : Found) (course : Course)
    (way : IsUnderWay workers before now reader course) → IsNext before left behind way.readings found → behind.number ≡ reader.number + passed found
    → IsAtNext workers before left behind course found
at_next workers before now left reader behind found course way is number =
    record { readings = way.readings; stands = way.stands; few = way.few; next = is; counted = number ∙ ap (λ n. n + passed found) way.read.counted }

-- the workers entered what waited before it
pub at_next_entered : (workers : ℕ) (before now : Option (List ℕ)) (reader : LinesRead) (found : Found) (course entered : Course)
    → IsAtNext workers before now reader course found → HasEntered workers course entered → IsAtNext workers before now reader entered found
at_next_entered workers before now reader found course entered at has =
    record {
      readings = at.readings;
      stands = burst_entered workers at.readings course entered at.stands has;
      few = subst (λ (s : Setting). length s.addresses ≤ 64) (sym has.setting) at.few;
      next = at.next;
      counted = at.counted;
    }

-- ---- the outcome

-- the outcome of a run that is over
pub outcome_of : (workers : ℕ) (before now : Option (List ℕ)) (course : Course) (end : End) (outcome : Outcome) → IsOver workers before now course end
    → outcome.craft ≡ Some course.craft → outcome.refused.items ≡ course.refused.items
    → ((log : List Happening) → StandsBehind course log → AreCentres (Some course.craft.setting) log outcome.centres.items) → outcome.end ≡ end
    → IfSome before (λ bytes. IsOutcome bytes workers outcome)
outcome_of workers before now course end outcome over craft refused centres ends =
    IfSome_then before over.ended
    (λ bytes found.
    let ended = found.2 in
    record {
      script = found.0;
      order = ended.order;
      run = ended_run (flying course.craft.setting) ended.log end;
      is_script = found.1;
      runs = ended.runs;
      allowed = ended.allowed;
      of_run = record {
        setting = ap setting_in craft;
        journal = ap journal_in craft ∙ ended.journal;
        lines = ended.ordered ∙ sym (ap (λ c. line_order (journal_in c)) craft);
        refused = refused ∙ ended.behind.refused;
        centres = centres ended.log ended.behind;
        end = ends;
      };
    })

-- ---- the beginning

-- the first line behind the head stands next
pub started : (workers : ℕ) (before now : Option (List ℕ)) (reader : LinesRead) (craft : Aircraft) (course : Course) → course.craft ≡ craft
    → IsInStage before now reader 3 (flying craft.setting) → craft.journal ≡ [] → length craft.setting.addresses ≤ 64 → course.burst.items ≡ [] → StandsBehind course []
    → IsUnderWay workers before now reader course
started workers before now reader craft course same stage empty few none behind =
    let stood : IsInStage before now reader 3 (flying course.craft.setting) = subst (λ (c : Aircraft). IsInStage before now reader 3 (flying c.setting)) (sym same) stage in
    record {
      readings = stood.readings;
      read = stood.read;
      stands = record {
        order = [];
        entered = [];
        log = [];
        gone = gone_as course.craft.setting course.craft.setting [] course.burst.items refl none (has_begun workers course.craft.setting stood.readings stood.head);
        journal = ap (λ (c : Aircraft). c.journal) same ∙ empty;
        behind = behind;
      };
      few = subst (λ (c : Aircraft). length c.setting.addresses ≤ 64) (sym same) few;
    }

-- ---- turns

-- whether anything waits, as a number
pub waits : List Entry → ℕ
waits [] = 0
waits (first ∷ burst) = 1

-- How many turns there are at most: each carries out a line, or enters what waits.
abbrev pub turns_left : LinesRead → Found → Course → ℕ
turns_left reader found course = 2 * (MAX_SCRIPT_LINES + 1 - (reader.number - passed found)) + waits course.burst.items

waits_some : (burst : List Entry) → 0 < length burst → waits burst ≡ 1
unfolding waits
waits_some [] some = absurd (omega (arith, some))
waits_some (first ∷ burst) some = refl

waits_one : (burst : List Entry) → waits burst ≤ 1
unfolding waits
waits_one [] = omega arith
waits_one (first ∷ burst) = omega arith

waits_none : (burst : List Entry) → burst ≡ [] → waits burst ≡ 0
unfolding waits
waits_none [] none = refl
waits_none (first ∷ burst) none = absurd (cc)

-- entering what waits is one turn
pub entering_is_a_turn : (reader : LinesRead) (found : Found) (course entered : Course) → 0 < length course.burst.items → entered.burst.items ≡ []
    → turns_left reader found entered < turns_left reader found course
entering_is_a_turn reader found course entered some none =
    let one = waits_some course.burst.items some in
    let zero = waits_none entered.burst.items none in
    omega (arith, one, zero)

-- carrying out a line is one turn
pub carrying_is_a_turn : (before after : LinesRead) (found behind : Found) (course now : Course) (number : ℕ) (log : List Happening)
    → before.number ≤ MAX_SCRIPT_LINES → passed found ≤ before.number → DidNext found number log course now None → after.number ≡ before.number + passed behind
    → turns_left after behind now < turns_left before found course
carrying_is_a_turn before after (line_read reading) behind course now number log few some did counted =
    let one = waits_one now.burst.items in
    omega (arith, few, some, counted, one)
carrying_is_a_turn before after end_met behind course now number log few some did counted = absurd (let both : None ≡ Some Done = did.0 in cc)
carrying_is_a_turn before after limit_met behind course now number log few some did counted = absurd (let both : None ≡ Some (Limit (number + 1)) = did.0 in cc)
