-- Worked orders that aren't allowed, and beside them some that are. Orders are this project's profile.
use Rattle.std.specs.Prelude.{◌≡◌, ℕ, List, [], ◌∷◌, ◌++◌, codes}
use Rattle.adsc_requests.specs.declared.message.Uplink.{Uplink}
use Rattle.aircraft_core.specs.declared.who.Who.{Who}
use Rattle.arrayvec.specs.ArrayVec.{ArrayVec}
use Rattle.flight_samples.specs.declared.sample.Sample.{Sample as FlightSample}
use Rattle.net_script.specs.declared.line.Cancel.TheVariants.{All}
use Rattle.net_script.specs.declared.line.ScriptLine.TheVariants as line
use Rattle.run_rules.specs.Happenings.{entries}
use Rattle.run_rules.specs.Histories.Words.{RunsTo, head, script_of, sends}
use Rattle.run_rules.specs.Orders.{IsOrderOf}
use Rattle.run_rules.specs.Runs.{IsAllowedOrder, Script}
use Rattle.run_rules.specs.declared.end.End.TheVariants.{Done}
use Rattle.run_rules.specs.declared.reading.Reading.{Reading}
use Rattle.run_rules.specs.declared.reading.Reading.TheVariants.{Says}

-- ---- scripts

-- Three ground addresses, with the places 0, 1 and 2.
abbrev pub first : List ℕ
first = codes "GRND001"

abbrev pub second : List ℕ
second = codes "GRND002"

abbrev pub third : List ℕ
third = codes "GRND003"

-- A script with a head of these addresses.
abbrev pub behind_head : Who → FlightSample → List Reading → Script
behind_head who sample readings = script_of (head who (first ∷ second ∷ third ∷ []) sample ++ readings)

-- So many workers may take the entries of the script in this order.
abbrev pub MayTake : Script → List ℕ → ℕ → Type 0
MayTake script order workers = RunsTo script order (λ run. (run.end ≡ Done) × IsAllowedOrder script run workers order)

-- They may not, though it holds the lines of all entries and no others.
abbrev pub MayNotTake : Script → List ℕ → ℕ → Type 0
MayNotTake script order workers =
    RunsTo script order (λ run.
    (run.end ≡ Done) × IsOrderOf (entries run.log) order × (IsAllowedOrder script run workers order → ⊥))

-- Whoever the aircraft is, and whatever the texts ask.
abbrev pub Always : (Who → FlightSample → ArrayVec ℕ → Uplink → Type 0) → Type 0
Always Holds =
    (who : Who) (sample : FlightSample) (octets : ArrayVec ℕ) (uplink : Uplink) → Holds who sample octets uplink

-- ---- what isn't allowed

-- Two texts of which each goes to a worker of its own, at the lines 4 and 6, and a tick between them.
abbrev pub with_tick : Who → FlightSample → ArrayVec ℕ → Uplink → Script
with_tick who sample octets uplink =
    behind_head who sample (sends who octets uplink first ∷ Says (line.T 0) ∷ sends who octets uplink second ∷ [])

-- They may not be exchanged across the tick, nor may the tick come before the first.
abbrev pub AcrossATick : Type 0
AcrossATick = Always (λ who sample octets uplink.
    MayTake (with_tick who sample octets uplink) (4 ∷ 5 ∷ 6 ∷ []) 2
    × MayNotTake (with_tick who sample octets uplink) (6 ∷ 5 ∷ 4 ∷ []) 2
    × MayNotTake (with_tick who sample octets uplink) (5 ∷ 4 ∷ 6 ∷ []) 2)

-- The same two texts, and between them a cancel of the centre at the third address, which makes no entry.
abbrev pub with_cancel_all : Who → FlightSample → ArrayVec ℕ → Uplink → Script
with_cancel_all who sample octets uplink =
    behind_head who sample
    (sends who octets uplink first ∷ Says (line.K third All) ∷ sends who octets uplink second ∷ [])

-- They may not be exchanged: the cancel ends the burst.
abbrev pub AcrossACancel : Type 0
AcrossACancel = Always (λ who sample octets uplink.
    MayTake (with_cancel_all who sample octets uplink) (4 ∷ 6 ∷ []) 2
    × MayNotTake (with_cancel_all who sample octets uplink) (6 ∷ 4 ∷ []) 2)

-- Two texts in one burst, at the lines 4 and 5, of the first and the third address.
abbrev pub two_texts : Who → FlightSample → ArrayVec ℕ → Uplink → Script
two_texts who sample octets uplink =
    behind_head who sample (sends who octets uplink first ∷ sends who octets uplink third ∷ [])

-- Of two workers one takes both, so they may not be exchanged; three workers may exchange them.
abbrev pub OfOneWorker : Type 0
OfOneWorker = Always (λ who sample octets uplink.
    MayNotTake (two_texts who sample octets uplink) (5 ∷ 4 ∷ []) 2
    × MayTake (two_texts who sample octets uplink) (5 ∷ 4 ∷ []) 3)
