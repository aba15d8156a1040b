-- What is shown confirmed at the end of a run was accepted.
use Rattle.std.proofs.Common.{◌≡◌, ◌≢◌, ◌⊎◌, ℕ, ◌<◌, inl, inr, List, ◌∷◌, ◌++◌, append-nil, refl, sym, ap, ◌∙◌, subst, arith}
use Rattle.aircraft_core.specs.Entries.{line_of}
use Rattle.aircraft_core.specs.Setting.{Setting}
use Rattle.aircraft_core.specs.declared.entry.Entry.{Entry}
use Rattle.centre_core.specs.Hearing.{Hearing}
use Rattle.run_rules.specs.Among.{IsAmong}
use Rattle.run_rules.proofs.Deeds.{AreDeeds}
use Rattle.run_rules.specs.Happenings.{Happening, Heard, entries}
use Rattle.run_rules.specs.Laws.{WhatIsShownWasAccepted}
use Rattle.run_rules.specs.Orders.{IsOrderOf, IsOrdered, journal_of}
use Rattle.run_rules.specs.Runs.{addresses_in, journal_at}
use Rattle.run_rules.specs.declared.reading.Reading.{Reading}
use Rattle.run_rules.proofs.Beginnings.{SplitsAt, journal_among, journal_begins, split_at}
use Rattle.run_rules.proofs.Confirmed.{Begins, shown_good}
use Rattle.run_rules.proofs.HeardItems.{of_all}
use Rattle.run_rules.proofs.Journals.{entries-append}
use Rattle.run_rules.proofs.Members.{among_back, among_parts}
use Rattle.run_rules.proofs.Origins.{DoneAt, done_at, entry_before}
use Rattle.run_rules.proofs.OwnEntries.{journal_acts, made_acts}
use Rattle.run_rules.proofs.QuietLines.{AreQuiet, IsQuiet, quiet_run}
use Rattle.run_rules.proofs.RunDeeds.{run_deeds}

-- At each delivery the journal so far is a beginning of the journal at the end.
pub all_begins : (order : List ℕ) (setting : Setting) (number : ℕ) (log : List Happening) (addresses : List (List ℕ)) (readings : List Reading) (workers : ℕ)
    → AreDeeds order setting number log → AreQuiet readings log → IsOrdered addresses readings workers order → IsOrderOf (entries log) order
    → Begins order (journal_at order log) log
all_begins order setting number log addresses readings workers deeds quiet ordered lines = record { begins = begins }
  where
    begins : (later : List Happening) (line link place : ℕ) (hearing : Hearing) (earlier : List Happening) → log ≡ later ++ Heard line link place hearing ∷ earlier
        → (rest : List Entry) × (journal_at order log ≡ journal_at order earlier ++ rest)
    begins later line link place hearing earlier split =
        let found = journal_begins order (entries earlier) (entries later) line splits low high in
        (found.0, ap (journal_of order) parts ∙ found.1)
      where
        delivery : Happening
        delivery = Heard line link place hearing

        done : DoneAt order setting number later (Heard line link place hearing) earlier
        done = done_at order setting number later (Heard line link place hearing) earlier (subst (AreDeeds order setting number) split deeds)

        parts : entries log ≡ entries earlier ++ entries later
        parts =
            ap entries split ∙ entries-append later (Heard line link place hearing ∷ earlier) ∙ ap (λ made. made ++ entries later) (append-nil (entries earlier))

        low : (made : Entry) → IsAmong made (entries earlier) → line_of made < line
        low made among =
            let less = entry_before order setting done.line earlier made done.before among in
            let same = done.deed.0 in
            omega (arith, less, same)

        high : (made : Entry) → IsAmong made (entries later) → line < line_of made
        high made among =
            let less = done.entries_after made among in
            let same = done.deed.0 in
            omega (arith, less, same)

        others : (n : ℕ) → IsAmong n order → n ≢ line
        others n among same =
            let found = lines.only n among in
            at found.0 found.2 (among_parts found.0 (entries earlier) (entries later) (subst (IsAmong found.0) parts found.1))
          where
            at : (made : Entry) → line_of made ≡ n → IsAmong made (entries earlier) ⊎ IsAmong made (entries later) → ⊥
            at made of_line (inl before) = let less = low made before in omega (arith, less, of_line, same)
            at made of_line (inr after) = let great = high made after in omega (arith, great, of_line, same)

        splits : SplitsAt order line
        splits =
            split_at addresses readings workers order line ordered
            (of_all (IsQuiet readings) log (Heard line link place hearing) quiet
            (subst (IsAmong (Heard line link place hearing)) (sym split) (among_back (Heard line link place hearing) later (Heard line link place hearing ∷ earlier) (inl refl))))
            others

-- The law: the journal of the run has acts, and in it was accepted what is shown.
pub what_is_shown_was_accepted : WhatIsShownWasAccepted
what_is_shown_was_accepted bytes script order run workers setting link request is runs allowed made none shown =
    let has = run_deeds bytes script order run setting is runs made in
    let acts = journal_acts setting.first (journal_at order run.log)
    (λ entry among. made_acts order setting has.number run.log entry has.deeds (journal_among order (entries run.log) entry among)) in
    shown_good order setting has.settled (journal_at order run.log) acts.0 acts.1 link has.number run.log request has.deeds none
    (all_begins order setting has.number run.log (addresses_in run.setting) script.readings workers has.deeds (quiet_run script order run runs) allowed.ordered allowed.lines)
    shown
