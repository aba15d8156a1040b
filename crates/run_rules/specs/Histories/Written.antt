-- What is written of a worked script. The output is this project's profile; the texts of downlinks follow ARINC 622.
use Rattle.std.specs.Prelude.{ℕ, List, [], ◌∷◌, ◌++◌, codes, flat_map}
use Rattle.acars_envelope.specs.Names.{IsFlight, IsRegistration}
use Rattle.adsc_io.specs.Lines.{ended}
use Rattle.aircraft_core.specs.Downlinks.{contact_text_on, text_of_items}
use Rattle.aircraft_core.specs.declared.who.Who.{Who}
use Rattle.contract_rules.specs.Due.{Acknowledgement}
use Rattle.flight_samples.specs.declared.sample.Sample.{Sample as FlightSample}
use Rattle.run_rules.specs.Histories.Confirmed.{confirming}
use Rattle.run_rules.specs.Histories.Words.{RunsTo, aircraft_of}
use Rattle.run_rules.specs.Output.{IsRunText}

-- The lines that are written of the script that confirms: the journal, whose entries came with the lines 4, 6 and 8; the logon state and
-- the two downlinks of the one link, the contact and the acknowledgement; the four rows of its centre; and the end.
abbrev pub confirmed_lines : Who → FlightSample → List (List ℕ)
confirmed_lines who sample =
    codes "J,4,6,8"
    ∷ codes "L,GRND001,accepted"
    ∷ (codes "D," ++ contact_text_on (aircraft_of who sample) 0 [] sample)
    ∷ (codes "D," ++ text_of_items (aircraft_of who sample) 0 sample (Acknowledgement 1 ∷ []))
    ∷ codes "C,GRND001,D,none"
    ∷ codes "C,GRND001,P,none"
    ∷ codes "C,GRND001,V,none"
    ∷ codes "C,GRND001,M,confirmed,0901"
    ∷ codes "OK"
    ∷ []

-- The script that confirms is written so, each line with a newline.
abbrev pub ConfirmedIsWritten : Type 0
ConfirmedIsWritten = (who : Who) (sample : FlightSample) → IsRegistration who.registration → IsFlight who.flight
    → RunsTo (confirming who sample) (4 ∷ 6 ∷ 8 ∷ []) (λ run.
    IsRunText (4 ∷ 6 ∷ 8 ∷ []) run (flat_map ended (confirmed_lines who sample)))
