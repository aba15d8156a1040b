-- Where a course stands in a run, and what a line makes of it (this project's profile).
use Rattle.std.specs.Prelude.{◌≡◌, ◌-◌, ℕ, Bool, true, false, All, List, [], ◌∷◌, ◌++◌, length, Option, Some, None, slice_get, slice_set}
use Rattle.aircraft_core.specs.Downlinks.{AreDownlinks}
use Rattle.aircraft_core.specs.Entries.{IsTakenBy}
use Rattle.aircraft_core.specs.Setting.{Setting, address_of}
use Rattle.aircraft_core.specs.declared.entry.Entry.{Entry}
use Rattle.centre_core.specs.Hearing.{Hearing, Says}
use Rattle.net_script.specs.declared.refusal.Code.TheVariants as code
use Rattle.run_rules.specs.EarlierLines.{AreTaken}
use Rattle.run_rules.specs.Happenings.{Happening, Heard, entries, refused_lines}
use Rattle.run_rules.specs.Stages.{Step, does, receives, stops}
use Rattle.run_rules.specs.declared.end.End.{End}
use Rattle.adsc_run.specs.Outboxes.{AreFound}
use Rattle.adsc_run.specs.Stations.{StationDid, StationStands, ends_bad}
use Rattle.adsc_run.specs.declared.course.Course.{Course}
use Rattle.adsc_run.specs.declared.station.Station.{Station}

-- ---- behind a log

-- The course knows the ends of those downlinks that it has found.
abbrev pub KnowsEnds : Course → Type 0
KnowsEnds course = AreFound course.craft.setting course.craft.journal course.downlink_ends.items

-- The course stands behind this log: each of its stations is that of its link, its refused texts are those of the log, the aircraft
-- takes each entry that waits, and the ends of downlinks that it keeps are right.
pub record StandsBehind (course : Course) (log : List Happening) : Type 0 where
  pub count : length course.stations.items ≡ length course.craft.setting.addresses
  pub each : (link : ℕ) (station : Station) → slice_get course.stations.items link ≡ Some station
      → StationStands course.craft.setting link log station
  pub refused : course.refused.items ≡ refused_lines log
  pub waiting : All (IsTakenBy course.craft.setting) course.burst.items
  pub found : KnowsEnds course

-- ---- what a line makes of it

-- These entries wait now, besides those that did.
pub record Waits (made : List Entry) (before now : Course) : Type 0 where
  pub craft : now.craft ≡ before.craft
  pub burst : now.burst.items ≡ before.burst.items ++ made

-- These entries are entered now.
pub record Enters (made : List Entry) (before now : Course) : Type 0 where
  pub setting : now.craft.setting ≡ before.craft.setting
  pub journal : now.craft.journal ≡ before.craft.journal ++ made
  pub burst : now.burst.items ≡ before.burst.items

-- A line of a burst made these entries, which wait; any other line entered them.
abbrev pub HasGrown : Bool → List Entry → Course → Course → Type 0
HasGrown true made before now = Waits made before now
HasGrown false made before now = Enters made before now

-- The link has this downlink at the place, and it says this to the centre.
pub record IsHeardAt (setting : Setting) (journal : List Entry) (link place : ℕ) (hearing : Hearing) : Type 0 where
  pub texts : List (List ℕ)
  pub text : List ℕ
  pub are_downlinks : AreDownlinks setting journal link texts
  pub there : slice_get texts (place - 1) ≡ Some text
  pub says : Says (address_of setting link) setting.registration text hearing

-- The link has no downlink at the place, and so many there are.
pub record IsMissing (setting : Setting) (journal : List Entry) (link place count : ℕ) : Type 0 where
  pub texts : List (List ℕ)
  pub are_downlinks : AreDownlinks setting journal link texts
  pub none : slice_get texts (place - 1) ≡ None
  pub counted : count ≡ length texts

-- A line did its step: its happenings join the log; or a downlink is heard, by no line of a burst; or the line is bad, and the run ends.
abbrev pub Did : Bool → Step → ℕ → List Happening → Course → Course → Option End → Type 0
Did waits (does happenings) line log before now None = StandsBehind now (happenings ++ log) × HasGrown waits (entries happenings) before now
Did waits (stops found value) line log before now (Some end) = (end ≡ ends_bad line found value) × StandsBehind now log × HasGrown waits [] before now
Did false (receives setting link place) line log before now None =
    (hearing : Hearing) × IsHeardAt setting before.craft.journal link place hearing × StandsBehind now (Heard line link place hearing ∷ log)
    × Enters [] before now
Did false (receives setting link place) line log before now (Some end) =
    (count : ℕ) × IsMissing setting before.craft.journal link place count × (end ≡ ends_bad line code.Number count) × StandsBehind now log
    × Enters [] before now
Did waits step line log before now ended = ⊥

-- The step ends the run so.
abbrev pub EndsWith : ℕ → Step → End → Type 0
EndsWith line (stops found value) end = end ≡ ends_bad line found value
EndsWith line step end = ⊥

-- ---- bursts

-- The workers entered the burst: each took its own entries in the order of their lines.
pub record HasEntered (workers : ℕ) (before now : Course) : Type 0 where
  pub woven : List Entry
  pub taken : AreTaken workers before.burst.items woven
  pub journal : now.craft.journal ≡ before.craft.journal ++ woven
  pub setting : now.craft.setting ≡ before.craft.setting
  pub stations : now.stations ≡ before.stations
  pub refused : now.refused ≡ before.refused
  pub ends : now.downlink_ends ≡ before.downlink_ends
  pub none : now.burst.items ≡ []

-- ---- the stations

-- A station did the step of this line, or the run ends with it; the others are as they were.
abbrev pub StationsDid : Step → ℕ → Setting → ℕ → List Happening → List Station → List Station → Option End → Type 0
StationsDid step line setting link log before now ended =
    (station : Station) × (now ≡ slice_set before link station) × StationDid step line setting link log station ended

-- The stations are those of the links at the end of the log.
abbrev pub AreStations : Setting → List Happening → List Station → Type 0
AreStations setting log stations =
    (link : ℕ) (station : Station) → slice_get stations link ≡ Some station → StationStands setting link log station
