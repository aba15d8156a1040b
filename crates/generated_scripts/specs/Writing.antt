-- Which lines can be written.
use Rattle.std.specs.Prelude.{◌<◌}
use Rattle.generated_scripts.specs.declared.line.MadeLine.{MadeLine}
use Rattle.generated_scripts.specs.declared.line.MadeLine.TheVariants.{Uplink}

-- The line's address, if it has one, is one of the five.
abbrev pub HasPlace : MadeLine → Type 0
HasPlace (Uplink place payload) = place < 5
HasPlace line = Unit {0}
