-- Worked scripts that confirm. Logons and contracts are those of RTCA DO-258A / EUROCAE ED-100A.
use Rattle.std.specs.Prelude.{◌≡◌, [], ◌∷◌}
use Rattle.acars_envelope.specs.Names.{IsFlight, IsRegistration}
use Rattle.adsc_downlink.specs.Items.ItemData.{ack}
use Rattle.adsc_requests.specs.declared.kind.Kind.TheVariants as kinds
use Rattle.afn_logon.specs.declared.logon.Logon.TheVariants.{Accepted}
use Rattle.aircraft_core.specs.Downlinks.{AreDownlinks, contact_text_on, text_of_items}
use Rattle.aircraft_core.specs.LogonStates.{logon_state}
use Rattle.aircraft_core.specs.declared.who.Who.{Who}
use Rattle.centre_core.specs.Events.{Asks, HearsContact, HearsItem}
use Rattle.centre_core.specs.Histories.{row_at}
use Rattle.centre_core.specs.declared.shown.Shown.TheVariants as shown
use Rattle.contract_rules.specs.Due.{Acknowledgement}
use Rattle.flight_samples.specs.declared.sample.Sample.{Sample as FlightSample}
use Rattle.run_rules.specs.Claims.{WasAccepted}
use Rattle.run_rules.specs.Happenings.{history}
use Rattle.run_rules.specs.Histories.Words.{RunsTo, aircraft_of, asks, brings, emergency, flight_of, logs_on, receives}
use Rattle.run_rules.specs.Runs.{Script, journal_at}
use Rattle.run_rules.specs.declared.end.End.TheVariants.{Done}

-- Confirmed. The crew logs on at line 4, and the centre hears the contact; its answer is brought. It asks at line 7, which gets number 1;
-- its request is brought at line 8, and then the acknowledgement is heard.
abbrev pub confirming : Who → FlightSample → Script
confirming who sample = flight_of who sample (logs_on ∷ receives 1 ∷ brings 1 ∷ asks ∷ brings 2 ∷ receives 2 ∷ [])

-- The logon is accepted, the centre shows the request as confirmed, and the aircraft accepted it.
abbrev pub Confirms : Type 0
Confirms = (who : Who) (sample : FlightSample) → IsRegistration who.registration → IsFlight who.flight
    → RunsTo (confirming who sample) (4 ∷ 6 ∷ 8 ∷ []) (λ run.
    (run.end ≡ Done) × (row_at kinds.Emergency (history 0 run.log) ≡ shown.Confirmed (emergency 1))
    × (logon_state 0 (journal_at (4 ∷ 6 ∷ 8 ∷ []) run.log) ≡ Accepted)
    × WasAccepted (aircraft_of who sample) (journal_at (4 ∷ 6 ∷ 8 ∷ []) run.log) 0 (emergency 1))

-- Brought twice. The request is brought at line 8 and again at line 9, and of the two acknowledgements the first is heard twice.
abbrev pub bringing_twice : Who → FlightSample → Script
bringing_twice who sample =
    flight_of who sample (logs_on ∷ receives 1 ∷ brings 1 ∷ asks ∷ brings 2 ∷ brings 2 ∷ receives 2 ∷ receives 2 ∷ [])

-- The aircraft acknowledges both, the centre hears what is brought to it, and the row stays confirmed.
abbrev pub BringsTwice : Type 0
BringsTwice = (who : Who) (sample : FlightSample) → IsRegistration who.registration → IsFlight who.flight
    → RunsTo (bringing_twice who sample) (4 ∷ 6 ∷ 8 ∷ 9 ∷ []) (λ run.
    (run.end ≡ Done) × (row_at kinds.Emergency (history 0 run.log) ≡ shown.Confirmed (emergency 1))
    × (history 0 run.log ≡ HearsItem (ack 1) ∷ HearsItem (ack 1) ∷ Asks (emergency 1) ∷ HearsContact ∷ [])
    × AreDownlinks (aircraft_of who sample) (journal_at (4 ∷ 6 ∷ 8 ∷ 9 ∷ []) run.log) 0
    (contact_text_on (aircraft_of who sample) 0 [] sample
    ∷ text_of_items (aircraft_of who sample) 0 sample (Acknowledgement 1 ∷ [])
    ∷ text_of_items (aircraft_of who sample) 0 sample (Acknowledgement 1 ∷ []) ∷ []))
