-- The worked scripts that end with a bad line.
use Rattle.std.proofs.Common.{false, [], ◌∷◌, Ok, refl}
use Rattle.aircraft_core.specs.Downlinks.{contact_on, contact_text_on}
use Rattle.aircraft_core.specs.declared.entry.Entry.TheVariants.{Logon, Uplink}
use Rattle.centre_core.specs.Hearing.{Greets}
use Rattle.ground_texts.specs.declared.ground_text.AdsUplink.{AdsUplink}
use Rattle.ground_texts.specs.declared.ground_text.GroundText.TheVariants as text
use Rattle.net_script.specs.declared.refusal.Code.TheVariants as code
use Rattle.run_rules.specs.Happenings.{Asked, Entered, Heard}
use Rattle.run_rules.specs.Histories.BadLines.{NoLogon, NoSuchNumber, NothingToCancel, OtherRole, StillWaiting, UnlistedAddress}
use Rattle.run_rules.specs.Histories.Words.{aircraft_of, asks, emergency, ground}
use Rattle.run_rules.specs.Runs.{stopped_run}
use Rattle.run_rules.specs.Stages.{flying}
use Rattle.run_rules.proofs.WorkedTexts.{brings_on, uplink_enters, worked_contact}

pub unlisted_address : UnlistedAddress
unlisted_address who sample registration flight = (stopped_run (flying (aircraft_of who sample)) [] 4 code.Address 1, refl, refl)

pub other_role : OtherRole
other_role who sample uplink octets =
    let said : AdsUplink = record { address = ground; registration = who.registration; octets = octets; asked = Ok uplink } in
    let entered = Entered (Uplink 4 0 octets) ∷ [] in
    let run = stopped_run (flying (aircraft_of who sample)) entered 5 code.Role 0 in (
      run,
      brings_on false (4 ∷ []) (aircraft_of who sample) [] 4 (text.Ads said) entered (asks ∷ []) run
          (uplink_enters (aircraft_of who sample) [] 4 0 said uplink refl refl refl refl) refl,
      refl,
    )

pub no_such_number : NoSuchNumber
no_such_number = (
  λ who sample registration flight. (stopped_run (flying (aircraft_of who sample)) [] 4 code.Number 0, refl, refl),
  λ who sample registration flight. (
    stopped_run (flying (aircraft_of who sample)) [] 4 code.Number 0,
    ([], record { acts = []; are_acts = refl; spelled = refl }, refl),
    refl,
  ),
)

pub no_logon : NoLogon
no_logon who sample registration flight = (stopped_run (flying (aircraft_of who sample)) [] 4 code.Logon 0, refl, refl)

pub still_waiting : StillWaiting
still_waiting who sample registration flight = (
  stopped_run (flying (aircraft_of who sample))
      (Asked 6 0 (emergency 1) ∷ Heard 5 0 1 (Greets (contact_on (aircraft_of who sample) 0 [] sample)) ∷ Entered (Logon 4 0) ∷ []) 7 code.Waiting 1,
  (
    contact_text_on (aircraft_of who sample) 0 [] sample ∷ [],
    record { acts = [] ∷ []; are_acts = (refl, refl); spelled = refl },
    (Greets (contact_on (aircraft_of who sample) 0 [] sample), worked_contact who sample sample [] registration flight, refl),
  ),
  refl,
)

pub nothing_to_cancel : NothingToCancel
nothing_to_cancel who sample registration flight = (stopped_run (flying (aircraft_of who sample)) [] 4 code.Nothing 0, refl, refl)
