-- What is drawn is within its limits.
use Rattle.std.proofs.Common.{ℕ, zero, suc, ◌+◌, ◌*◌, ◌%◌, ◌==◌, ◌<◌, ◌≤◌, ◌^◌, ℤ, pos, negsuc, ◌-ℤ◌, Bool, true, false, if◌then◌else◌, arith}
use Rattle.std.specs.Prelude.{nat_lt, ◌≤ℤ◌}
use Rattle.std.specs.List.{AllByRecursion}
use Rattle.std.proofs.lemmas.Int.{ints}
use Rattle.generated_scripts.specs.Draws.{draw, state_after}
use Rattle.generated_scripts.specs.Generator.{Making, behind_line, interval_drawn, line_drawn, line_of_letter, lines_drawn, other_drawn, payload_of_kind, sample_drawn, uplink_drawn}
use Rattle.generated_scripts.specs.Limits.{IsPayloadWithin, IsSampleWithin, IsWithin}
use Rattle.generated_scripts.specs.Writing.{HasPlace}
use Rattle.generated_scripts.specs.declared.line.MadeLine.{MadeLine}
use Rattle.generated_scripts.specs.declared.line.MadeLine.TheVariants.{Sample, Time, Crew}
use Rattle.generated_scripts.specs.declared.line.MadePayload.TheVariants.{Demand, Periodic, Event, Emergency, Cancel, CancelAll, Malformed}

-- ---- remainders

below : (d n : ℕ) → d % suc n < suc n
below d n = omega arith

interval_within : (d : ℕ) → interval_drawn d < 2 ^ 8
interval_within d = omega (arith, below d 191)

-- ---- samples

-- A number below n + 1, less an offset, lies between minus the offset and n less the offset.
least : (low : ℤ) (offset d : ℕ) → low ≤ℤ (pos 0 -ℤ pos offset) → low ≤ℤ (pos d -ℤ pos offset)
least low offset d start = omega (arith, ints)

most : (high : ℤ) (offset n d : ℕ) → d ≤ n → (pos n -ℤ pos offset) ≤ℤ high → (pos d -ℤ pos offset) ≤ℤ high
most high offset n d few end = omega (arith, ints)

sample_within : (state : ℕ) → IsSampleWithin (sample_drawn state)
sample_within state = record {
  lat = (least (negsuc 524287) 524288 (draw state 1 % 1048577) (omega (arith, ints)), most (pos 524288) 524288 1048576 (draw state 1 % 1048577) (omega (arith, below (draw state 1) 1048576)) (omega (arith, ints)));
  lon = (least (negsuc 1048575) 1048576 (draw state 2 % 2097152) (omega (arith, ints)), most (pos 1048575) 1048576 2097151 (draw state 2 % 2097152) (omega (arith, below (draw state 2) 2097151)) (omega (arith, ints)));
  alt = (omega (arith, ints), omega (arith, ints, below (draw state 3) 10000));
  xtk = (least (negsuc 32766) 20 (draw state 4 % 41) (omega (arith, ints)), most (pos 32767) 20 40 (draw state 4 % 41) (omega (arith, below (draw state 4) 40)) (omega (arith, ints)));
  wlat = (omega (arith, ints), omega (arith, ints, below (draw state 5) 3));
  vr = (least (negsuc 2047) 200 (draw state 6 % 401) (omega (arith, ints)), most (pos 2047) 200 400 (draw state 6 % 401) (omega (arith, below (draw state 6) 400)) (omega (arith, ints)));
}

-- ---- payloads

other_within : (number d : ℕ) → number < 2 ^ 8 → IsPayloadWithin (other_drawn number d)
other_within number d small = at (d % 8 == 0)
  where
    at : (all : Bool) → IsPayloadWithin (if all then CancelAll else Malformed number)
    at true = tt
    at false = small

payload_within : (kind number d : ℕ) → number < 2 ^ 8 → IsPayloadWithin (payload_of_kind kind number d)
payload_within kind number d small = at (kind == 0) (kind == 1) (kind == 2) (kind == 3) (kind == 4)
  where
    at : (first second third fourth fifth : Bool) → IsPayloadWithin (if first then Demand number else if second then Periodic number (interval_drawn d)
        else if third then Event number (1 + d % 20) else if fourth then Emergency number (interval_drawn d) else if fifth then Cancel number else other_drawn number d)
    at true second third fourth fifth = small
    at false true third fourth fifth = (small, interval_within d)
    at false false true fourth fifth = (small, omega arith, omega (arith, below d 19))
    at false false false true fifth = (small, interval_within d)
    at false false false false true = small
    at false false false false false = other_within number d small

uplink_within : (state : ℕ) → IsWithin (uplink_drawn state)
uplink_within state = (below (draw state 1) 4, payload_within (draw state 3 % 6) (draw state 2 % 8) (draw state 4) (omega (arith, below (draw state 2) 7)))

-- ---- lines

-- Whatever the letter, what holds of the four lines holds of the line.
by_letter : (P : MadeLine → Type 0) (letter state clock : ℕ) → P (Sample (sample_drawn state)) → P (Time (clock + draw state 1 % 120))
    → P (Crew (draw state 1 % 2 == 1)) → P (uplink_drawn state) → P (line_of_letter letter state clock)
by_letter P letter state clock sample time crew uplink = at (nat_lt letter 3) (nat_lt letter 6) (letter == 6)
  where
    at : (first second third : Bool)
        → P (if first then Sample (sample_drawn state) else if second then Time (clock + draw state 1 % 120) else if third then Crew (draw state 1 % 2 == 1) else uplink_drawn state)
    at true second third = sample
    at false true third = time
    at false false true = crew
    at false false false = uplink

-- The address of each line that is drawn is one of the five.
pub drawn_has_place : (at : Making) → HasPlace (line_drawn at)
drawn_has_place at =
    let behind = state_after 1 at.state in
    by_letter HasPlace (draw at.state 1 % 10) behind at.clock tt tt tt (below (draw behind 1) 4)

-- A line that is drawn is within its limits, as long as its clock is; and it moves the clock on by less than 120 s.
line_within : (at : Making) → at.clock + 120 ≤ 999999999 → IsWithin (line_drawn at)
line_within at early =
    let behind = state_after 1 at.state in
    by_letter IsWithin (draw at.state 1 % 10) behind at.clock (sample_within behind) (omega (arith, below (draw behind 1) 119)) tt (uplink_within behind)

clock_moves : (at : Making) → (behind_line at (line_drawn at)).clock ≤ at.clock + 120
clock_moves at =
    let behind = state_after 1 at.state in
    by_letter (λ line. (behind_line at line).clock ≤ at.clock + 120) (draw at.state 1 % 10) behind at.clock (omega arith) (omega (arith, below (draw behind 1) 119)) (omega arith) (omega arith)

-- So are all lines of a script.
pub lines_within_limits : (count : ℕ) (at : Making) → at.clock + 120 * count ≤ 999999999 → AllByRecursion IsWithin (lines_drawn count at)
lines_within_limits zero at early = tt
lines_within_limits (suc count) at early =
    (line_within at (omega (arith, early)), lines_within_limits count (behind_line at (line_drawn at)) (omega (arith, early, clock_moves at)))
