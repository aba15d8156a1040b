-- The first lines of a script, worked draw by draw.
use Rattle.std.specs.Prelude.{◌≡◌, false, pos, negsuc, [], ◌∷◌}
use Rattle.generated_scripts.specs.Generator.{made_lines}
use Rattle.generated_scripts.specs.declared.line.MadeLine.TheVariants.{Sample, Time, Crew, Uplink}
use Rattle.generated_scripts.specs.declared.line.MadePayload.TheVariants.{Demand}

-- The first six lines behind the head of the script of number 1.
abbrev pub FirstLinesOfOne : Type 0
FirstLinesOfOne =
    made_lines 1 9
    ≡ Time 33 ∷ Crew false ∷ Time 68
    ∷ Sample (record { lat = pos 501873; lon = pos 795945; alt = pos 4136; xtk = negsuc 2; wlat = pos 2; vr = negsuc 23 })
    ∷ Sample (record { lat = pos 371400; lon = pos 880652; alt = pos 3731; xtk = negsuc 17; wlat = pos 0; vr = pos 13 })
    ∷ Uplink 2 (Demand 6) ∷ []
