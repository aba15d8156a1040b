-- In which order the entries of a script may be taken into the journal, by a number of workers (this project's
-- profile). An order is a list of line numbers, those of the entries.
use Rattle.std.specs.Prelude.{◌≡◌, ◌≢◌, ◌⊎◌, ◌<◌, ◌≤◌, ◌-◌, ◌%◌, ◌==◌, ℕ, Bool, true, false, List, [], ◌∷◌, filter, flat_map, map, Option, Some, None, option_and_then, slice_get}
use Rattle.aircraft_core.specs.declared.entry.Entry.{Entry}
use Rattle.aircraft_core.specs.declared.entry.Entry.TheVariants.{Uplink, Answer, Logon}
use Rattle.aircraft_core.specs.Entries.{line_of}
use Rattle.ground_texts.specs.declared.ground_text.GroundText.TheVariants as text
use Rattle.net_script.specs.declared.line.ScriptLine.TheVariants as line
use Rattle.run_rules.specs.Among.{IsAmong}
use Rattle.run_rules.specs.Texts.{link_from}
use Rattle.run_rules.specs.declared.reading.Reading.{Reading}
use Rattle.run_rules.specs.declared.reading.Reading.TheVariants.{Says, Brings}

-- The journal of an order: these entries, as the order names their lines.
abbrev pub journal_of : List ℕ → List Entry → List Entry
journal_of order made = flat_map (λ number. filter (λ entry. line_of entry == number) made) order

-- The order of the lines: each entry where its line stands.
abbrev pub line_order : List Entry → List ℕ
line_order made = map line_of made

-- ---- bursts

-- How the line of this number is read, if there is one; the first has number 1.
abbrev pub reading_at : List Reading → ℕ → Option Reading
reading_at readings number = slice_get readings (number - 1)

-- Whether a line may stand in a burst: it is a `U` or a `B` line.
abbrev pub is_burst_line : Option Reading → Bool
is_burst_line (Some (Brings text)) = true
is_burst_line (Some (Says (line.B address place))) = true
is_burst_line reading = false

-- The address of such a line, if it can be read.
abbrev pub address_in : Option Reading → Option (List ℕ)
address_in (Some (Brings (text.Ads uplink))) = Some uplink.address
address_in (Some (Brings (text.Afn notice))) = Some notice.address
address_in (Some (Says (line.B address place))) = Some address
address_in reading = None

-- The place of the line's address among these, counted from 0, if it is one of them.
abbrev pub place_on : List (List ℕ) → Option Reading → Option ℕ
place_on addresses reading = option_and_then (link_from 0 addresses) (address_in reading)

-- Of two lines with entries the later one's may be taken first: one burst holds both lines, so all lines from the one
-- to the other are `U` and `B` lines; and they go to different workers, so the places of their addresses differ
-- modulo the number of workers.
pub record MayPass (addresses : List (List ℕ)) (readings : List Reading) (workers earlier later : ℕ) : Type 0 where
  pub burst : (number : ℕ) → earlier ≤ number → number ≤ later → is_burst_line (reading_at readings number) ≡ true
  pub one : ℕ
  pub other : ℕ
  pub earlier_place : place_on addresses (reading_at readings earlier) ≡ Some one
  pub later_place : place_on addresses (reading_at readings later) ≡ Some other
  pub apart : one % workers ≢ other % workers

-- ---- orders

-- Of any two lines in the order the first is the earlier one, or may pass it. So no line stands twice.
abbrev pub IsOrdered : List (List ℕ) → List Reading → ℕ → List ℕ → Type 0
IsOrdered addresses readings workers [] = Unit {0}
IsOrdered addresses readings workers (first ∷ order) =
    ((number : ℕ) → IsAmong number order → (first < number) ⊎ ((number < first) × MayPass addresses readings workers number first))
    × IsOrdered addresses readings workers order

-- The order holds the lines of these entries and no others.
pub record IsOrderOf (made : List Entry) (order : List ℕ) : Type 0 where
  pub whole : (entry : Entry) → IsAmong entry made → IsAmong (line_of entry) order
  pub only : (number : ℕ) → IsAmong number order → (entry : Entry) × IsAmong entry made × (line_of entry ≡ number)

-- The order rises.
abbrev pub IsRising : List ℕ → Type 0
IsRising [] = Unit {0}
IsRising (first ∷ order) = ((number : ℕ) → IsAmong number order → first < number) × IsRising order

-- One number stands before the other in the order.
abbrev pub StandsBefore : ℕ → ℕ → List ℕ → Type 0
StandsBefore one other [] = ⊥
StandsBefore one other (first ∷ order) = ((first ≡ one) × IsAmong other order) ⊎ StandsBefore one other order

-- ---- whose entries

-- The link of an entry: that of an uplink, an answer and a logon; the entries of the flight have none.
abbrev pub link_of : Entry → Option ℕ
link_of (Uplink line link bytes) = Some link
link_of (Answer line link code) = Some link
link_of (Logon line link) = Some link
link_of made = None
