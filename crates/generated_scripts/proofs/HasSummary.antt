-- Each run of a generated script has a summary.
use Rattle.std.proofs.Common.{ℕ, ◌+◌, ◌==◌, Bool, true, false, cond, List, [], ◌∷◌, ◌++◌, codes, filter, length, refl}
use Rattle.std.specs.List.{AllByRecursion}
use Rattle.adsc_io.specs.Lines.{ended}
use Rattle.aircraft_core.specs.Entries.{line_of}
use Rattle.aircraft_core.specs.Setting.{Setting}
use Rattle.aircraft_core.specs.declared.entry.Entry.{Entry}
use Rattle.run_rules.specs.Happenings.{entries, refused_lines}
use Rattle.run_rules.specs.Orders.{journal_of}
use Rattle.run_rules.specs.Runs.{journal_at}
use Rattle.run_rules.proofs.EachRun.{IsReadEntry, each_downlinks, entries_are_read}
use Rattle.run_rules.proofs.RunDeeds.{run_deeds}
use Rattle.generated_scripts.specs.Generator.{made_script}
use Rattle.generated_scripts.specs.Laws.{EachRunHasASummary}
use Rattle.generated_scripts.specs.Summaries.{AreLinkLines, count_line, link_line}
use Rattle.generated_scripts.proofs.MadeRuns.{script_taken}

-- ---- entries that are read

all_joined : (xs ys : List Entry) → AllByRecursion IsReadEntry xs → AllByRecursion IsReadEntry ys → AllByRecursion IsReadEntry (xs ++ ys)
all_joined [] ys all others = others
all_joined (x ∷ xs) ys all others = (all.0, all_joined xs ys all.1 others)

all_kept : (test : Entry → Bool) (xs : List Entry) → AllByRecursion IsReadEntry xs → AllByRecursion IsReadEntry (filter test xs)
all_kept test [] all = tt
all_kept test (x ∷ xs) all = at (test x) (all_kept test xs all.1)
  where
    at : (kept : Bool) → AllByRecursion IsReadEntry (filter test xs) → AllByRecursion IsReadEntry (cond kept (x ∷ filter test xs) (filter test xs))
    at true others = (all.0, others)
    at false others = others

journal_read : (order : List ℕ) (made : List Entry) → AllByRecursion IsReadEntry made → AllByRecursion IsReadEntry (journal_of order made)
journal_read [] made all = tt
journal_read (number ∷ order) made all =
    all_joined (filter (λ entry. line_of entry == number) made) (journal_of order made) (all_kept (λ entry. line_of entry == number) made all)
    (journal_read order made all)

-- ---- summaries

-- The links to some addresses have lines.
lines_of : (setting : Setting) (journal : List Entry) (link : ℕ) (addresses : List (List ℕ)) → AllByRecursion IsReadEntry journal
    → (text : List ℕ) × AreLinkLines setting journal link addresses text
lines_of setting journal link [] read = ([], refl)
lines_of setting journal link (address ∷ addresses) read =
    let texts = each_downlinks setting journal link read in
    let others = lines_of setting journal (link + 1) addresses read in
    (link_line address texts.0 ++ others.0, (texts.0, others.0, texts.1, others.1, refl))

-- Each run of a generated script has a summary.
pub has_summary : EachRunHasASummary
has_summary number lines script order run some few is runs =
    let taken = script_taken number lines script order run some few is runs in
    let deeds = run_deeds (made_script number lines) script order run taken.setting is runs taken.flies in
    let journal = journal_at order run.log in
    let read = journal_read order (entries run.log) (entries_are_read order taken.setting deeds.number run.log deeds.deeds) in
    let links = lines_of taken.setting journal 0 taken.setting.addresses read in (
      count_line number lines (length journal) (length (refused_lines run.log)) ++ links.0 ++ ended (codes "OK"),
      (taken.setting, taken.flies, record { links = links.0; of_links = links.1; joined = refl }),
    )
