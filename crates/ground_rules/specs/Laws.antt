-- Laws of the watch and of ground logs, as statements.
use Rattle.std.specs.Prelude.{◌≡◌, ◌≤◌, ℕ, false, IsTrue, List, [], ◌∷◌, ◌++◌}
use Rattle.ground_rules.specs.GroundReadings.{GroundLog, IsGroundLog}
use Rattle.ground_rules.specs.Watching.{Making, WatchEvent, Happens, Ticks, ends_quiet, events, quiet_since, rings, time}
use Rattle.ground_rules.specs.WatchedText.{IsWatched}
use Rattle.run_rules.specs.declared.end.End.{End}

-- None of these events, which follow a past, ends the quiet.
abbrev pub IsQuietThrough : Making → List WatchEvent → List WatchEvent → Type 0
IsQuietThrough making past [] = Unit {0}
IsQuietThrough making past (Happens event ∷ later) =
    (ends_quiet event (events making (later ++ past)) ≡ false) × IsQuietThrough making past later
IsQuietThrough making past (Ticks t ∷ later) = IsQuietThrough making past later

-- A tick that rang: none rings again, until the quiet ends.
abbrev pub RingsOnce : Type 0
RingsOnce = (making : Making) (grace t u : ℕ) (past later : List WatchEvent) → IsTrue (rings making grace t past)
    → IsQuietThrough making (Ticks t ∷ past) later → rings making grace u (later ++ Ticks t ∷ past) ≡ false

-- It is quiet since a time that is past.
abbrev pub QuietIsPast : Type 0
QuietIsPast = (making : Making) (past : List WatchEvent) → quiet_since making past ≤ time making past

-- An input is one ground log, and has one output, with one end.
abbrev pub OneGroundLog : Type 0
OneGroundLog = (bytes : List ℕ) (one other : GroundLog) → IsGroundLog bytes one → IsGroundLog bytes other → one ≡ other

abbrev pub OneWatchedText : Type 0
OneWatchedText = (bytes : List ℕ) (grace : ℕ) (first second : End) (one other : List ℕ)
    → IsWatched bytes grace first one → IsWatched bytes grace second other → (first ≡ second) × (one ≡ other)

-- Each input is a ground log: whatever bytes a line holds, it is read in some way.
abbrev pub EachInputIsAGroundLog : Type 0
EachInputIsAGroundLog = (bytes : List ℕ) → (log : GroundLog) × IsGroundLog bytes log
