-- Each line that is made behind the head is read as what was drawn.
use Rattle.std.proofs.Common.{ℕ, ◌≤◌, ◌-◌, arith}
use Rattle.generated_scripts.specs.Laws.{LinesAreReadAsDrawn, LinesAreWithin}
use Rattle.generated_scripts.specs.Limits.{IsWithin}
use Rattle.generated_scripts.specs.declared.line.MadeLine.{MadeLine}
use Rattle.generated_scripts.specs.declared.line.MadeLine.TheVariants.{Sample, Time, Crew, Uplink}
use Rattle.generated_scripts.proofs.DrawnLimits.{lines_within_limits}
use Rattle.generated_scripts.proofs.ReadLines.{IsReadLine, crew_read, sample_read, time_read}
use Rattle.generated_scripts.proofs.ReadUplinks.{uplink_read}

pub made_read : (place : ℕ) (drawn : MadeLine) → 4 ≤ place → IsWithin drawn → IsReadLine place drawn
made_read place (Sample sample) behind within = sample_read place sample behind within
made_read place (Time moment) behind within = time_read place moment behind within
made_read place (Crew on) behind within = crew_read place on behind
made_read place (Uplink number payload) behind within = uplink_read place number payload behind within.0 within.1

pub lines_read : LinesAreReadAsDrawn
lines_read place drawn behind within = let is = made_read place drawn behind within in (is.reading, is.reads, is.says)

pub lines_within : LinesAreWithin
lines_within number lines few = lines_within_limits (lines - 3) (record { state = number; clock = 0 }) (omega (arith, few))
