-- Worked scripts that end with a line that is bad by what stands before it, one for each cause.
use Rattle.std.specs.Prelude.{◌≡◌, ℕ, List, [], ◌∷◌}
use Rattle.acars_envelope.specs.Names.{IsFlight, IsRegistration}
use Rattle.adsc_requests.specs.declared.kind.Kind.TheVariants as kinds
use Rattle.adsc_requests.specs.declared.message.Uplink.{Uplink}
use Rattle.aircraft_core.specs.declared.who.Who.{Who}
use Rattle.arrayvec.specs.ArrayVec.{ArrayVec}
use Rattle.flight_samples.specs.declared.sample.Sample.{Sample as FlightSample}
use Rattle.net_script.specs.declared.line.Cancel.TheVariants.{Of}
use Rattle.net_script.specs.declared.line.ScriptLine.TheVariants as line
use Rattle.net_script.specs.declared.refusal.Code.{Code}
use Rattle.net_script.specs.declared.refusal.Code.TheVariants as code
use Rattle.run_rules.specs.Histories.Words.{RunsTo, asks, brings, cancels, flight_of, ground, logs_on, receives, sends, unlisted}
use Rattle.run_rules.specs.declared.end.End.TheVariants.{Bad}
use Rattle.run_rules.specs.declared.reading.Reading.{Reading}
use Rattle.run_rules.specs.declared.reading.Reading.TheVariants.{Says}

-- A script whose lines behind the head are these ends with this line, which is bad by this code with this value.
abbrev pub EndsBad : Who → FlightSample → List Reading → List ℕ → ℕ → Code → ℕ → Type 0
EndsBad who sample readings order number found value =
    RunsTo (flight_of who sample readings) order (λ run. run.end ≡ Bad (record { line = number; code = found; value = value }))

-- Of any aircraft such a script ends so.
abbrev pub AlwaysEndsBad : List Reading → List ℕ → ℕ → Code → ℕ → Type 0
AlwaysEndsBad readings order number found value =
    (who : Who) (sample : FlightSample) → IsRegistration who.registration → IsFlight who.flight
    → EndsBad who sample readings order number found value

-- The crew logs on to an address that isn't listed.
abbrev pub UnlistedAddress : Type 0
UnlistedAddress = AlwaysEndsBad (Says (line.L unlisted) ∷ []) [] 4 code.Address 1

-- An uplink is taken as a text of an address, and then the centre at the address asks.
abbrev pub OtherRole : Type 0
OtherRole = (who : Who) (sample : FlightSample) (uplink : Uplink) (octets : ArrayVec ℕ)
    → EndsBad who sample
    (sends who octets uplink ground ∷ asks ∷ []) (4 ∷ []) 5 code.Role 0

-- A message is to be brought where none was sent; a downlink, where there is none.
abbrev pub NoSuchNumber : Type 0
NoSuchNumber = AlwaysEndsBad (brings 1 ∷ []) [] 4 code.Number 0 × AlwaysEndsBad (receives 1 ∷ []) [] 4 code.Number 0

-- A centre asks that heard no contact.
abbrev pub NoLogon : Type 0
NoLogon = AlwaysEndsBad (asks ∷ []) [] 4 code.Logon 0

-- A centre that heard a contact asks twice: the request of number 1 is pending.
abbrev pub StillWaiting : Type 0
StillWaiting = AlwaysEndsBad (logs_on ∷ receives 1 ∷ asks ∷ asks ∷ []) (4 ∷ []) 7 code.Waiting 1

-- A centre cancels a kind of which it asked for nothing.
abbrev pub NothingToCancel : Type 0
NothingToCancel = AlwaysEndsBad (cancels (Of kinds.Event) ∷ []) [] 4 code.Nothing 0
