-- The generated script of a number, line by line (this project's profile).
use Rattle.std.specs.Prelude.{ℕ, zero, suc, ◌+◌, ◌-◌, ◌%◌, ◌==◌, nat_lt, pos, ◌-ℤ◌, List, [], ◌∷◌, ◌++◌, map, if◌then◌else◌}
use Rattle.adsc_io.specs.Lines.{ended_lines}
use Rattle.generated_scripts.specs.Draws.{draw, state_after}
use Rattle.generated_scripts.specs.Texts.{head_lines, line_text}
use Rattle.generated_scripts.specs.declared.line.MadeLine.{MadeLine}
use Rattle.generated_scripts.specs.declared.line.MadeLine.TheVariants.{Sample, Time, Crew, Uplink}
use Rattle.generated_scripts.specs.declared.line.MadePayload.{MadePayload}
use Rattle.generated_scripts.specs.declared.line.MadePayload.TheVariants.{Demand, Periodic, Event, Emergency, Cancel, CancelAll, Malformed}
use Rattle.generated_scripts.specs.declared.line.MadeSample.{MadeSample}

-- How far the making of a script has come: the state of the generator, and the clock of the `T` lines.
pub record Making : Type 0 where
  pub state : ℕ
  pub clock : ℕ

-- ---- a line by its draws

-- The first draw says which letter a line has; the further ones, counted from 1 at the state behind the first, what it says.

-- The sample that six draws give.
abbrev pub sample_drawn : ℕ → MadeSample
sample_drawn state =
    record {
      lat = pos (draw state 1 % 1048577) -ℤ pos 524288;
      lon = pos (draw state 2 % 2097152) -ℤ pos 1048576;
      alt = pos (draw state 3 % 10001);
      xtk = pos (draw state 4 % 41) -ℤ pos 20;
      wlat = pos (draw state 5 % 4);
      vr = pos (draw state 6 % 401) -ℤ pos 200;
    }

-- A reporting interval that a draw gives: the octet of 1 to 64 times a scale of 1, 8 or 64 s.
abbrev pub interval_drawn : ℕ → ℕ
interval_drawn drawn = 64 + drawn % 192

-- What a draw gives beside the five kinds: a cancel of all contracts, or the malformed payload.
abbrev pub other_drawn : ℕ → ℕ → MadePayload
other_drawn number drawn = if drawn % 8 == 0 then CancelAll else Malformed number

-- The payload of this kind and number, and what one more draw gives for it.
abbrev pub payload_of_kind : ℕ → ℕ → ℕ → MadePayload
payload_of_kind kind number drawn =
    if kind == 0 then Demand number
    else if kind == 1 then Periodic number (interval_drawn drawn)
    else if kind == 2 then Event number (1 + drawn % 20)
    else if kind == 3 then Emergency number (interval_drawn drawn)
    else if kind == 4 then Cancel number
    else other_drawn number drawn

-- The text that draws give: the address's place, the number, the kind, and what the payload asks.
abbrev pub uplink_drawn : ℕ → MadeLine
uplink_drawn state = Uplink (draw state 1 % 5) (payload_of_kind (draw state 3 % 6) (draw state 2 % 8) (draw state 4))

-- The line of this letter that further draws give.
abbrev pub line_of_letter : ℕ → ℕ → ℕ → MadeLine
line_of_letter letter state clock =
    if nat_lt letter 3 then Sample (sample_drawn state)
    else if nat_lt letter 6 then Time (clock + draw state 1 % 120)
    else if letter == 6 then Crew (draw state 1 % 2 == 1)
    else uplink_drawn state

-- The line that the draws from here on give.
abbrev pub line_drawn : Making → MadeLine
line_drawn at = line_of_letter (draw at.state 1 % 10) (state_after 1 at.state) at.clock

-- ---- how far the making has come behind a line

-- How many draws a payload takes behind its kind.
abbrev pub payload_draws : MadePayload → ℕ
payload_draws (Demand number) = 0
payload_draws (Cancel number) = 0
payload_draws payload = 1

-- How many draws a line takes behind the one for its letter.
abbrev pub further_draws : MadeLine → ℕ
further_draws (Sample sample) = 6
further_draws (Time moment) = 1
further_draws (Crew on) = 1
further_draws (Uplink place payload) = 3 + payload_draws payload

-- The clock behind a line: a `T` line sets it.
abbrev pub clock_behind : ℕ → MadeLine → ℕ
clock_behind clock (Time moment) = moment
clock_behind clock line = clock

-- How far the making has come behind this line.
abbrev pub behind_line : Making → MadeLine → Making
behind_line at line = record { state = state_after (1 + further_draws line) at.state; clock = clock_behind at.clock line }

-- ---- the script

-- So many lines, one after the other.
abbrev pub lines_drawn : ℕ → Making → List MadeLine
lines_drawn zero at = []
lines_drawn (suc count) at = line_drawn at ∷ lines_drawn count (behind_line at (line_drawn at))

-- The lines of the script of this number behind its head, where it has so many lines in all.
abbrev pub made_lines : ℕ → ℕ → List MadeLine
made_lines number lines = lines_drawn (lines - 3) (record { state = number; clock = 0 })

-- The script of this number that has so many lines, of 3 or more.
abbrev pub made_script : ℕ → ℕ → List ℕ
made_script number lines = ended_lines (head_lines ++ map line_text (made_lines number lines))
