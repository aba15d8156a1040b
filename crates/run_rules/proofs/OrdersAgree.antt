-- What each link gets, and so the whole run, is the same in each allowed order, where the aircraft has at most five links.
use Rattle.std.proofs.Common.{◌≡◌, ◌↔◌, ◌⊎◌, ◌+◌, ◌<◌, ◌≤◌, ◌%◌, ℕ, inl, inr, true, List, [], ◌∷◌, ◌++◌, filter, length, Option, Some, None, refl, sym, ap, ◌∙◌, subst, arith, eqb-true}
use Rattle.std.specs.Option.{ForSome}
use Rattle.aircraft_core.specs.Downlinks.{AreDownlinks}
use Rattle.aircraft_core.specs.Entries.{is_heard_by, line_of}
use Rattle.aircraft_core.specs.LogonStates.{logon_state}
use Rattle.aircraft_core.specs.Setting.{Setting}
use Rattle.aircraft_core.specs.declared.entry.Entry.{Entry}
use Rattle.aircraft_core.proofs.LogonLaws.{same_logon}
use Rattle.run_rules.specs.Among.{IsAmong}
use Rattle.run_rules.specs.EarlierLines.{text_link}
use Rattle.run_rules.specs.Happenings.{Happening, entries}
use Rattle.run_rules.specs.Laws.{DifferInJournalLine, OrdersAgree, RunsAgree}
use Rattle.run_rules.specs.Output.{AreLinesOfLinks, AreLinkLines, IsEndText, IsRunText, downlink_lines, journal_line, logon_line}
use Rattle.run_rules.specs.Orders.{IsOrdered, MayPass, is_burst_line, place_on, reading_at}
use Rattle.run_rules.specs.Runs.{IsAllowedOrder, IsScript, Run, Script, ScriptRun, addresses_in, journal_at}
use Rattle.run_rules.specs.Stages.{begun}
use Rattle.run_rules.specs.declared.end.End.{End}
use Rattle.run_rules.specs.declared.end.End.TheVariants.{Done, Bad, Limit}
use Rattle.run_rules.specs.declared.reading.Reading.{Reading}
use Rattle.run_rules.proofs.FewLinks.{downlinks_carry, kept_first}
use Rattle.run_rules.proofs.HeardLines.{log_fits, nothing_happened}
use Rattle.run_rules.proofs.LogEntries.{EntryFits, LogFits}
use Rattle.run_rules.proofs.Members.{filter_among}
use Rattle.run_rules.proofs.OneAircraft.{one_aircraft}
use Rattle.run_rules.proofs.OneRun.{end_text_one, one_run}
use Rattle.run_rules.proofs.OtherOrders.{FindsSame, RunsUnder, runs_under}
use Rattle.run_rules.proofs.Projection.{StandsRising, arranged, filter_journal, journal_from, journal_holds, none_of_none}
use Rattle.run_rules.proofs.Rising.{rising_filter}
use Rattle.run_rules.proofs.RisingOrder.{all_lines, all_lines_journal, entry_at_end}
use Rattle.run_rules.proofs.RunDeeds.{run_deeds}

-- ---- what a link hears rises in each allowed order

module _ (setting : Setting) (readings : List Reading) (workers link : ℕ) where
  -- A text of a burst line that the link hears came at the link's place.
  heard_place : (entry : Entry) (place : ℕ) → EntryFits setting readings entry → is_heard_by link entry ≡ true
      → is_burst_line (reading_at readings (line_of entry)) ≡ true → place_on setting.addresses (reading_at readings (line_of entry)) ≡ Some place
      → place ≡ link
  heard_place entry place fits heard is_burst is_place =
      let text = fits.text is_burst in
      let one : Some place ≡ Some (text_link entry) = sym is_place ∙ text.0 in
      let its : place ≡ text_link entry = cc in
      its ∙ sym (eqb-true link (text_link entry) (sym (text.1 link) ∙ heard))

  -- Of two entries that a link hears none passes the other.
  none_passes : (one other : Entry) → EntryFits setting readings one → EntryFits setting readings other
      → is_heard_by link one ≡ true → is_heard_by link other ≡ true → line_of other < line_of one
      → MayPass setting.addresses readings workers (line_of other) (line_of one) → ⊥
  none_passes one other first second one_heard other_heard before pass =
      let at_other = pass.burst (line_of other) (omega arith) (omega arith) in
      let at_one = pass.burst (line_of one) (omega arith) (omega arith) in
      let earlier : pass.one ≡ link = heard_place other pass.one second other_heard at_other pass.earlier_place in
      let later : pass.other ≡ link = heard_place one pass.other first one_heard at_one pass.later_place in
      pass.apart (ap (λ place. place % workers) (earlier ∙ sym later))

  heard_stands : (order : List ℕ) → IsOrdered setting.addresses readings workers order → (made : List Entry)
      → ((entry : Entry) → IsAmong entry made → EntryFits setting readings entry × (is_heard_by link entry ≡ true)) → StandsRising order made
  heard_stands [] ordered made fit = tt
  heard_stands (first ∷ order) ordered made fit = (
    (λ one other is_one is_other line listed. at one other (fit one is_one) (fit other is_other) line (ordered.0 (line_of other) listed)),
    heard_stands order ordered.1 made fit,
  )
    where
      at : (one other : Entry) → EntryFits setting readings one × (is_heard_by link one ≡ true) → EntryFits setting readings other × (is_heard_by link other ≡ true)
          → line_of one ≡ first
          → (first < line_of other) ⊎ ((line_of other < first) × MayPass setting.addresses readings workers (line_of other) first) → first < line_of other
      at one other first_fits other_fits line (inl before) = before
      at one other first_fits other_fits line (inr passes) =
          absurd (none_passes one other first_fits.0 other_fits.0 first_fits.1 other_fits.1
          (subst (λ n. line_of other < n) (sym line) passes.0)
          (subst (MayPass setting.addresses readings workers (line_of other)) (sym line) passes.1))

  -- So the link hears the same of the journal as of the entries in the order of their lines.
  pub heard_in_line : (order : List ℕ) (log : List Happening) (number : ℕ) → LogFits setting readings log number
      → IsOrdered setting.addresses readings workers order → ((entry : Entry) → IsAmong entry (entries log) → IsAmong (line_of entry) order)
      → filter (is_heard_by link) (journal_at order log) ≡ filter (is_heard_by link) (entries log)
  heard_in_line order log number fits ordered listed =
      filter_journal (is_heard_by link) order (entries log)
      ∙ arranged order (filter (is_heard_by link) (entries log)) (rising_filter (is_heard_by link) (entries log) fits.rising)
      (λ entry among. listed entry (filter_among (is_heard_by link) entry (entries log) among).0)
      (heard_stands order ordered (filter (is_heard_by link) (entries log))
      (λ entry among. let found = filter_among (is_heard_by link) entry (entries log) among in (fits.each entry found.0, found.1)))

-- A link of few gets the same of the journal as of the entries in the order of their lines.
gets_in_line : (setting : Setting) (readings : List Reading) (workers : ℕ) (order : List ℕ) (log : List Happening) (number : ℕ)
    → length setting.addresses ≤ 5 → ForSome setting.kept (λ link. link < length setting.addresses) → LogFits setting readings log number
    → IsOrdered setting.addresses readings workers order → ((entry : Entry) → IsAmong entry (entries log) → IsAmong (line_of entry) order)
    → (link : ℕ) (texts : List (List ℕ)) → AreDownlinks setting (journal_at order log) link texts → AreDownlinks setting (entries log) link texts
gets_in_line setting readings workers order log number few kept fits ordered listed link texts are =
    downlinks_carry setting few (kept_first setting few kept) link (journal_at order log) (entries log)
    (λ entry among. (fits.each entry (journal_from order (entries log) entry among)).inside)
    (λ entry among. journal_holds order (entries log) entry among (listed entry among))
    (heard_in_line setting readings workers link order log number fits ordered listed) texts are

-- And the other way round.
got_in_line : (setting : Setting) (readings : List Reading) (workers : ℕ) (order : List ℕ) (log : List Happening) (number : ℕ)
    → length setting.addresses ≤ 5 → ForSome setting.kept (λ link. link < length setting.addresses) → LogFits setting readings log number
    → IsOrdered setting.addresses readings workers order → ((entry : Entry) → IsAmong entry (entries log) → IsAmong (line_of entry) order)
    → (link : ℕ) (texts : List (List ℕ)) → AreDownlinks setting (entries log) link texts → AreDownlinks setting (journal_at order log) link texts
got_in_line setting readings workers order log number few kept fits ordered listed link texts are =
    downlinks_carry setting few (kept_first setting few kept) link (entries log) (journal_at order log)
    (λ entry among. (fits.each entry among).inside)
    (λ entry among. journal_from order (entries log) entry among)
    (sym (heard_in_line setting readings workers link order log number fits ordered listed)) texts are

-- ---- the lines of the output

-- Where each link has the same downlinks and the same logon state, the lines of the links are the same.
link_lines_agree : (setting : Setting) (one other : List Entry) (link : ℕ) (addresses : List (List ℕ)) (text : List ℕ)
    → ((at : ℕ) (texts : List (List ℕ)) → AreDownlinks setting one at texts → AreDownlinks setting other at texts)
    → ((at : ℕ) → logon_state at one ≡ logon_state at other)
    → AreLinkLines setting one link addresses text → AreLinkLines setting other link addresses text
link_lines_agree setting one other link [] text downlinks logons lines = lines
link_lines_agree setting one other link (address ∷ addresses) text downlinks logons (texts, behind, are, more, spelled) = (
  texts,
  behind,
  downlinks link texts are,
  link_lines_agree setting one other (link + 1) addresses behind downlinks logons more,
  spelled ∙ ap (λ state. logon_line address state ++ (downlink_lines texts ++ behind)) (logons link),
)

-- ---- one run in the order of all lines

some_same : {A : Type 0} (one other : A) → Some one ≡ Some other → one ≡ other
some_same one other e = cc

module _ (script : Script) (order : List ℕ) (run : Run) (workers : ℕ) (allowed : IsAllowedOrder script run workers order)
    (few : (setting : Setting) → run.setting ≡ Some setting → length setting.addresses ≤ 5)
    (kept : (setting : Setting) → run.setting ≡ Some setting → ForSome setting.kept (λ link. link < length setting.addresses)) where
  ordered : (setting : Setting) → run.setting ≡ Some setting → IsOrdered setting.addresses script.readings workers order
  ordered setting flies = subst (λ s. IsOrdered (addresses_in s) script.readings workers order) flies allowed.ordered

  finds : FindsSame script.readings order (all_lines script) run
  finds = record { finds = λ setting log number later flies joined fits rises link texts are. found setting log number later flies joined fits link texts are }
    where
      found : (setting : Setting) (log : List Happening) (number : ℕ) (later : List Happening)
          → run.setting ≡ Some setting → run.log ≡ later ++ log → LogFits setting script.readings log number
          → (link : ℕ) (texts : List (List ℕ)) → AreDownlinks setting (journal_at order log) link texts
          → AreDownlinks setting (journal_at (all_lines script) log) link texts
      found setting log number later flies joined fits link texts are =
          subst (λ journal. AreDownlinks setting journal link texts) (sym (all_lines_journal script log fits))
          (gets_in_line setting script.readings workers order log number (few setting flies) (kept setting flies) fits (ordered setting flies)
          (λ entry among. allowed.lines.whole entry (entry_at_end run later log joined entry among)) link texts are)

  -- The run is one in the order of all lines.
  pub runs_in_line : ScriptRun script order run → ScriptRun script (all_lines script) run
  runs_in_line runs =
      let under : RunsUnder script.readings script.over (all_lines script) begun [] 1 script.readings run
      = runs_under script.readings script.over order (all_lines script) run finds [] script.readings refl begun [] 1 refl refl runs in
      under.runs

  module _ (runs : ScriptRun script order run) where
    -- Each link gets the same of the journal as of the entries in the order of their lines.
    pub downlinks_in_line : (setting : Setting) → run.setting ≡ Some setting → (link : ℕ) (texts : List (List ℕ))
        → AreDownlinks setting (journal_at order run.log) link texts ↔ AreDownlinks setting (entries run.log) link texts
    downlinks_in_line setting flies link texts =
        let fits = (log_fits script order run setting runs flies).1 in
        let number = (log_fits script order run setting runs flies).0 in (
          gets_in_line setting script.readings workers order run.log number (few setting flies) (kept setting flies) fits (ordered setting flies)
              allowed.lines.whole link texts,
          got_in_line setting script.readings workers order run.log number (few setting flies) (kept setting flies) fits (ordered setting flies)
              allowed.lines.whole link texts,
        )

    -- And it has the same logon state.
    pub logon_in_line : (link : ℕ) → logon_state link (journal_at order run.log) ≡ logon_state link (entries run.log)
    logon_in_line link = at run.setting refl
      where
        at : (setting : Option Setting) → run.setting ≡ setting → logon_state link (journal_at order run.log) ≡ logon_state link (entries run.log)
        at None none =
            ap (λ log. logon_state link (journal_at order log)) (nothing_happened script order run runs none)
            ∙ ap (logon_state link) (none_of_none order)
            ∙ sym (ap (λ log. logon_state link (entries log)) (nothing_happened script order run runs none))
        at (Some setting) flies =
            let fits = log_fits script order run setting runs flies in
            same_logon link (journal_at order run.log) (entries run.log)
            (heard_in_line setting script.readings workers link order run.log fits.0 fits.1 (ordered setting flies) allowed.lines.whole)

-- ---- two orders of one run

module _ (order other_order : List ℕ) (run : Run)
    (downlinks : (setting : Setting) → run.setting ≡ Some setting → (link : ℕ) (texts : List (List ℕ))
    → AreDownlinks setting (journal_at order run.log) link texts ↔ AreDownlinks setting (journal_at other_order run.log) link texts)
    (logons : (link : ℕ) → logon_state link (journal_at order run.log) ≡ logon_state link (journal_at other_order run.log)) where
  lines_agree : (setting : Option Setting) → run.setting ≡ setting → (text : List ℕ) → AreLinesOfLinks setting (journal_at order run.log) text
      → AreLinesOfLinks setting (journal_at other_order run.log) text
  lines_agree None flies text lines = lines
  lines_agree (Some setting) flies text lines =
      link_lines_agree setting (journal_at order run.log) (journal_at other_order run.log) 0 setting.addresses text
      (λ link texts are. (downlinks setting flies link texts).0 are) logons lines

  end_agrees : (end : End) (behind : List ℕ) → IsEndText order run end behind → IsEndText other_order run end behind
  end_agrees Done behind (links, lines, spelled) = (links, lines_agree run.setting refl links lines, spelled)
  end_agrees (Bad bad) behind spelled = spelled
  end_agrees (Limit line) behind spelled = spelled

  output_agrees : (text other_text : List ℕ) → IsRunText order run text → IsRunText other_order run other_text
      → DifferInJournalLine order other_order text other_text
  output_agrees text other_text one other = (
    one.behind,
    one.spelled,
    other.spelled
        ∙ ap (λ behind. journal_line other_order ++ behind)
        (end_text_one other_order run run.end other.behind one.behind other.is_end (end_agrees run.end one.behind one.is_end)),
  )

  pub run_agrees : RunsAgree order other_order run run
  run_agrees = record { same = refl; downlinks = downlinks; logons = logons; output = output_agrees }

-- ---- the law

few_links : (found : Option Setting) → length (addresses_in found) ≤ 5 → (setting : Setting) → found ≡ Some setting → length setting.addresses ≤ 5
few_links found few setting flies = subst (λ s. length (addresses_in s) ≤ 5) flies few

module _ (bytes : List ℕ) (script : Script) (is_script : IsScript bytes script) where
  kept_link : (order : List ℕ) (run : Run) → ScriptRun script order run → (setting : Setting) → run.setting ≡ Some setting
      → ForSome setting.kept (λ link. link < length setting.addresses)
  kept_link order run runs setting flies = (run_deeds bytes script order run setting is_script runs flies).settled.kept

  -- Two runs with few links are one.
  one_run_of_few : (workers others : ℕ) (order other_order : List ℕ) (run other : Run) → length (addresses_in run.setting) ≤ 5
      → ScriptRun script order run → IsAllowedOrder script run workers order → ScriptRun script other_order other
      → IsAllowedOrder script other others other_order → run ≡ other
  one_run_of_few workers others order other_order run other few runs allowed too allowed' =
      one_run script (all_lines script) run other
      (runs_in_line script order run workers allowed (few_links run.setting few) (kept_link order run runs) runs)
      (runs_in_line script other_order other others allowed'
      (few_links other.setting (subst (λ s. length (addresses_in s) ≤ 5) (one_aircraft script order other_order run other runs too) few))
      (kept_link other_order other too) too)

  -- Two orders of one run agree.
  orders_of_run_agree : (workers others : ℕ) (order other_order : List ℕ) (run : Run) → length (addresses_in run.setting) ≤ 5
      → ScriptRun script order run → IsAllowedOrder script run workers order → ScriptRun script other_order run
      → IsAllowedOrder script run others other_order → RunsAgree order other_order run run
  orders_of_run_agree workers others order other_order run few runs allowed too allowed' =
      run_agrees order other_order run
      (λ setting flies link texts. (
        λ are. (theirs setting flies link texts).1 ((ours setting flies link texts).0 are),
        λ are. (ours setting flies link texts).1 ((theirs setting flies link texts).0 are),
      ))
      (λ link. logon_in_line script order run workers allowed (few_links run.setting few) (kept_link order run runs) runs link
      ∙ sym (logon_in_line script other_order run others allowed' (few_links run.setting few) (kept_link other_order run too) too link))
    where
      ours : (setting : Setting) → run.setting ≡ Some setting → (link : ℕ) (texts : List (List ℕ))
          → AreDownlinks setting (journal_at order run.log) link texts ↔ AreDownlinks setting (entries run.log) link texts
      ours = downlinks_in_line script order run workers allowed (few_links run.setting few) (kept_link order run runs) runs

      theirs : (setting : Setting) → run.setting ≡ Some setting → (link : ℕ) (texts : List (List ℕ))
          → AreDownlinks setting (journal_at other_order run.log) link texts ↔ AreDownlinks setting (entries run.log) link texts
      theirs = downlinks_in_line script other_order run others allowed' (few_links run.setting few) (kept_link other_order run too) too

pub orders_agree : OrdersAgree
orders_agree bytes script workers others order other_order run other is_script few runs allowed too allowed' =
    let same : run ≡ other = one_run_of_few bytes script is_script workers others order other_order run other few runs allowed too allowed' in
    subst (RunsAgree order other_order run) same
    (orders_of_run_agree bytes script is_script workers others order other_order run few runs allowed
    (subst (ScriptRun script other_order) (sym same) too) (subst (λ r. IsAllowedOrder script r others other_order) (sym same) allowed'))
