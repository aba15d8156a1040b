-- The laws of the definitions, as statements.
use Rattle.std.specs.Prelude.{◌≡◌, ◌↔◌, ◌<◌, ◌≤◌, ◌++◌, ◌%◌, ◌==◌, ℕ, false, List, length, Some}
use Rattle.std.specs.List.{count_by}
use Rattle.adsc_io.specs.Inputs.{lines_before_limit}
use Rattle.aircraft_core.specs.Downlinks.{AreDownlinks}
use Rattle.aircraft_core.specs.Entries.{line_of}
use Rattle.aircraft_core.specs.LogonStates.{logon_state}
use Rattle.aircraft_core.specs.Setting.{Setting}
use Rattle.aircraft_core.specs.declared.entry.Entry.{Entry}
use Rattle.adsc_requests.specs.declared.message.Message.{Message}
use Rattle.run_rules.specs.Among.{IsAmong}
use Rattle.run_rules.specs.Claims.{IsShownConfirmed, NoEarlyReuse, WasAccepted, ask_count}
use Rattle.run_rules.specs.Happenings.{entries}
use Rattle.run_rules.specs.Orders.{IsRising, StandsBefore, is_burst_line, link_of, reading_at}
use Rattle.run_rules.specs.Output.{IsRunText, journal_line}
use Rattle.run_rules.specs.Readings.{ReadsLine}
use Rattle.run_rules.specs.Runs.{Script, IsScript, Run, ScriptRun, IsAllowedOrder, addresses_in, journal_at}
use Rattle.run_rules.specs.declared.reading.Reading.{Reading}

-- A line has one reading at its place, and so an input is one script.
abbrev pub OneReading : Type 0
OneReading = (number : ℕ) (line : List ℕ) (one other : Reading) → ReadsLine number line one → ReadsLine number line other → one ≡ other

abbrev pub OneScript : Type 0
OneScript = (bytes : List ℕ) (one other : Script) → IsScript bytes one → IsScript bytes other → one ≡ other

-- Each input is a script: whatever bytes a line holds, it is read in some way.
abbrev pub EachInputIsAScript : Type 0
EachInputIsAScript = (bytes : List ℕ) → (script : Script) × IsScript bytes script

-- A script has one run under an order, and a run has one output.
abbrev pub OneRun : Type 0
OneRun = (script : Script) (order : List ℕ) (one other : Run) → ScriptRun script order one → ScriptRun script order other → one ≡ other

abbrev pub OneOutput : Type 0
OneOutput = (order : List ℕ) (run : Run) (one other : List ℕ) → IsRunText order run one → IsRunText order run other → one ≡ other

-- Each script has a run under each order.
abbrev pub EachScriptHasARun : Type 0
EachScriptHasARun = (bytes : List ℕ) (script : Script) (order : List ℕ) → IsScript bytes script → (run : Run) × ScriptRun script order run

-- A rising order of the entries is allowed for every number of workers, and each script has one.
abbrev pub RisingIsAllowed : Type 0
RisingIsAllowed = (bytes : List ℕ) (script : Script) → IsScript bytes script
    → (order : List ℕ) × (run : Run) × ScriptRun script order run × IsRising order
    × ((workers : ℕ) → IsAllowedOrder script run workers order)

-- ---- allowed orders

-- In an order in which so many workers may take the entries of a script the line of each entry stands once, and
-- nothing else: the order is as long as there are entries.
pub record HoldsEachOnce (made : List Entry) (order : List ℕ) : Type 0 where
  pub once : (entry : Entry) → IsAmong entry made → count_by (λ number. number == line_of entry) order ≡ 1
  pub no_more : length order ≡ length made

abbrev pub EachEntryStandsOnce : Type 0
EachEntryStandsOnce = (script : Script) (order : List ℕ) (run : Run) (workers : ℕ) → ScriptRun script order run
    → IsAllowedOrder script run workers order → HoldsEachOnce (entries run.log) order

-- Of these two entries the one of the earlier line stands first.
abbrev pub StandInLine : List ℕ → Entry → Entry → Type 0
StandInLine order one other = line_of one < line_of other → StandsBefore (line_of one) (line_of other) order

-- It is so of any two entries of a run for which this holds, in each order in which so many workers may take them.
abbrev pub AlwaysStandInLine : (Script → ℕ → Entry → Entry → Type 0) → Type 0
AlwaysStandInLine Holds =
    (script : Script) (order : List ℕ) (run : Run) (workers : ℕ) → ScriptRun script order run
    → IsAllowedOrder script run workers order → (one other : Entry) → IsAmong one (entries run.log)
    → IsAmong other (entries run.log) → Holds script workers one other → StandInLine order one other

-- Two entries of one link.
abbrev pub LinkStandsInLine : Type 0
LinkStandsInLine = AlwaysStandInLine (λ script workers one other.
    (link : ℕ) × (link_of one ≡ Some link) × (link_of other ≡ Some link))

-- Two entries of links of one worker, by the remainder of the link.
abbrev pub WorkerStandsInLine : Type 0
WorkerStandsInLine = AlwaysStandInLine (λ script workers one other.
    (link : ℕ) × (another : ℕ) × (link_of one ≡ Some link) × (link_of other ≡ Some another)
    × (link % workers ≡ another % workers))

-- Two entries that are not of one burst: a line from the one to the other, be it one of the two, is no line of a
-- burst. So are entries of two bursts, an entry of a burst and one of the flight, and two of the flight.
abbrev pub BurstsStandInLine : Type 0
BurstsStandInLine = AlwaysStandInLine (λ script workers one other.
    (number : ℕ) × (line_of one ≤ number) × (number ≤ line_of other)
    × (is_burst_line (reading_at script.readings number) ≡ false))

-- With one worker the order rises.
abbrev pub OneWorkerRises : Type 0
OneWorkerRises = (script : Script) (order : List ℕ) (run : Run) → IsAllowedOrder script run 1 order → IsRising order

-- A number of workers may take the entries of the script of these bytes in this order.
pub record IsTakingOrder (bytes : List ℕ) (order : List ℕ) : Type 0 where
  pub script : Script
  pub run : Run
  pub workers : ℕ
  pub is_script : IsScript bytes script
  pub runs : ScriptRun script order run
  pub allowed : IsAllowedOrder script run workers order

-- Such an order is a list of numbers of the script's lines.
abbrev pub OrdersNameLines : Type 0
OrdersNameLines = (bytes order : List ℕ) → IsTakingOrder bytes order
    → (number : ℕ) → IsAmong number order → (1 ≤ number) × (number ≤ length (lines_before_limit bytes))

-- And its journal line shows it: of two such orders, be they of one script or of two, that have one journal line,
-- whatever stands behind it, both are one.
abbrev pub JournalLineShowsOrder : Type 0
JournalLineShowsOrder = (bytes others order other_order behind rest : List ℕ) → IsTakingOrder bytes order
    → IsTakingOrder others other_order
    → journal_line order ++ behind ≡ journal_line other_order ++ rest → order ≡ other_order

-- ---- orders that agree

-- Two outputs differ in the journal line alone, which shows the order.
abbrev pub DifferInJournalLine : List ℕ → List ℕ → List ℕ → List ℕ → Type 0
DifferInJournalLine order other_order text other_text =
    (behind : List ℕ) × (text ≡ journal_line order ++ behind) × (other_text ≡ journal_line other_order ++ behind)

-- Two runs, each under an order of its own, agree. They are one run: the same happened, so the same texts were
-- refused and each centre has the same rows; and they end alike. Each link has the same downlinks and the same logon
-- state. So what is written is the same but for the journal line.
pub record RunsAgree (order other_order : List ℕ) (run other : Run) : Type 0 where
  pub same : run ≡ other
  pub downlinks : (setting : Setting) → run.setting ≡ Some setting → (link : ℕ) (texts : List (List ℕ))
      → AreDownlinks setting (journal_at order run.log) link texts
      ↔ AreDownlinks setting (journal_at other_order other.log) link texts
  pub logons : (link : ℕ)
      → logon_state link (journal_at order run.log) ≡ logon_state link (journal_at other_order other.log)
  pub output : (text other_text : List ℕ) → IsRunText order run text → IsRunText other_order other other_text
      → DifferInJournalLine order other_order text other_text

-- With at most five ground addresses the runs of a script agree under whatever two allowed orders, each for a number
-- of workers of its own, with a kept connection too.
abbrev pub OrdersAgree : Type 0
OrdersAgree = (bytes : List ℕ) (script : Script) (workers others : ℕ) (order other_order : List ℕ) (run other : Run)
    → IsScript bytes script → length (addresses_in run.setting) ≤ 5
    → ScriptRun script order run → IsAllowedOrder script run workers order
    → ScriptRun script other_order other → IsAllowedOrder script other others other_order
    → RunsAgree order other_order run other

-- ---- confirmed contracts

-- What a centre shows confirmed or partial at the end of a run, however it ends, was accepted by the aircraft, with
-- those parameters, unless the centre reused a number too early: for every number of workers, and every allowed
-- order.
abbrev pub WhatIsShownWasAccepted : Type 0
WhatIsShownWasAccepted = (bytes : List ℕ) (script : Script) (order : List ℕ) (run : Run) (workers : ℕ) (setting : Setting) (link : ℕ) (request : Message)
    → IsScript bytes script → ScriptRun script order run → IsAllowedOrder script run workers order
    → run.setting ≡ Some setting
    → NoEarlyReuse setting order link run.log → IsShownConfirmed link run.log request
    → WasAccepted setting (journal_at order run.log) link request

-- A centre that asks at most 255 times reuses no number too early.
abbrev pub FewAsksReuseNothing : Type 0
FewAsksReuseNothing = (bytes : List ℕ) (script : Script) (order : List ℕ) (run : Run) (workers : ℕ) (setting : Setting) (link : ℕ)
    → IsScript bytes script → ScriptRun script order run → IsAllowedOrder script run workers order
    → run.setting ≡ Some setting
    → ask_count link run.log ≤ 255 → NoEarlyReuse setting order link run.log
