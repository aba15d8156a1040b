-- What the texts of worked scripts say to their centre, and what a text from the ground does in them.
use Rattle.std.proofs.Common.{◌≡◌, ℕ, ◌+◌, ◌^◌, ◌<◌, ◌≤◌, ℤ, pos, negsuc, Bool, false, if◌then◌else◌, List, [], ◌∷◌, ◌++◌, length, codes, Some, None, Ok, refl, ap, ◌∙◌, subst, arith, sym, length-append}
use Rattle.std.specs.Prelude.{◌≤ℤ◌, unsigned_abs}
use Rattle.std.proofs.lemmas.Int.{ints}
use Rattle.std.proofs.lemmas.List.Elements.{All-cons, All-nil}
use Rattle.std.proofs.lemmas.List.Sums.{AllPass-from_list_all}
use Rattle.acars_envelope.specs.Names.{IsAddress, IsFlight, IsRegistration, is_letter, is_name_character}
use Rattle.adsc_downlink.specs.Encodings.{EncodesDownlink}
use Rattle.adsc_downlink.specs.Items.{downlink_bits, item_bits}
use Rattle.adsc_downlink.specs.Items.ItemData.{ack}
use Rattle.adsc_downlink.proofs.Sizes.{length-octets}
use Rattle.adsc_requests.specs.declared.message.Uplink.{Uplink as UplinkMessages}
use Rattle.afn_logon.specs.Contents.{IsApplication, IsContact}
use Rattle.aircraft_core.specs.Downlinks.{contact_on, contact_text_on, text_of_items}
use Rattle.aircraft_core.specs.Setting.{Setting, address_of}
use Rattle.aircraft_core.specs.declared.entry.Entry.TheVariants.{Uplink}
use Rattle.aircraft_core.specs.declared.who.Who.{Who}
use Rattle.centre_core.specs.Hearing.{Greets, Says, Tells}
use Rattle.centre_core.proofs.HearingLaws.{own_contact_heard, own_is_heard}
use Rattle.contract_rules.specs.Due.{Acknowledgement}
use Rattle.contract_rules.specs.LiveLinks.{Noted}
use Rattle.flight_samples.specs.Columns.{IsIn, latitudes, longitudes}
use Rattle.flight_samples.specs.declared.sample.Sample.{Sample as FlightSample}
use Rattle.ground_texts.specs.declared.ground_text.AdsUplink.{AdsUplink}
use Rattle.ground_texts.specs.declared.ground_text.GroundText.{GroundText}
use Rattle.ground_texts.specs.declared.ground_text.GroundText.TheVariants as text
use Rattle.net_script.specs.declared.refusal.Code.TheVariants as code
use Rattle.run_rules.proofs.Deeds.{IsSettled}
use Rattle.run_rules.specs.Happenings.{Happening, is_centre}
use Rattle.run_rules.specs.Histories.Words.{aircraft_of, ground}
use Rattle.run_rules.specs.Runs.{LinesRun, Run, StepRuns}
use Rattle.run_rules.specs.Stages.{does, enters, flying, stops}
use Rattle.run_rules.specs.Texts.{link_to, payload_happenings, refuses, registration_place, takes, text_step, uplink_step}
use Rattle.run_rules.specs.declared.reading.Reading.{Reading}
use Rattle.run_rules.specs.declared.reading.Reading.TheVariants.{Brings}
use Rattle.run_rules.specs.declared.refused.RefusedWhy.TheVariants as why
use Rattle.run_rules.proofs.Heads.{settled_by}
use Rattle.run_rules.proofs.SentTexts.{same_is}

-- ---- the aircraft

ground_is_address : IsAddress ground
ground_is_address = record { size = refl; characters = AllPass-from_list_all is_name_character ground refl }

-- The aircraft of a worked script is settled.
pub worked_is_settled : (who : Who) (sample : FlightSample) → IsRegistration who.registration → IsFlight who.flight → IsSettled (aircraft_of who sample)
worked_is_settled who sample registration flight =
    settled_by who (ground ∷ []) None sample (record { registration = registration; flight = flight; airframe = who.address_size })
    (record {
      some = omega arith;
      few = omega arith;
      addresses = (ground_is_address, tt);
      different = λ place inside again. omega (arith, inside, again.1);
      kept = λ link is. absurd (cc);
    })

-- ---- a contact

size_of_latitude : (z : ℤ) → IsIn latitudes z → unsigned_abs z ≤ 524288
size_of_latitude (pos n) is = let high : pos n ≤ℤ pos 524288 = is.1 in omega (arith, ints)
size_of_latitude (negsuc n) is = let low : negsuc 524287 ≤ℤ negsuc n = is.0 in omega (arith, ints)

size_of_longitude : (z : ℤ) → IsIn longitudes z → unsigned_abs z ≤ 1048576
size_of_longitude (pos n) is = let high : pos n ≤ℤ pos 1048575 = is.1 in omega (arith, ints)
size_of_longitude (negsuc n) is = let low : negsuc 1048575 ≤ℤ negsuc n = is.0 in omega (arith, ints)

contact_is : (setting : Setting) (link : ℕ) (past : List Noted) (latest : FlightSample) → IsSettled setting
    → IsContact (contact_on setting link past latest)
contact_is setting link past latest settled = record {
  flight = settled.flight;
  registration = settled.registration;
  airframe = λ address is. let same : setting.airframe ≡ address = cc in subst (λ a. a < 2 ^ 24) same settled.airframe;
  clock = omega arith;
  position = record {
    lat = omega (arith, size_of_latitude latest.lat latest.lat_range);
    lon = omega (arith, size_of_longitude latest.lon latest.lon_range);
  };
  applications = record {
    some = omega arith;
    few = omega arith;
    each = All-cons (IsApplication 99) _ []
        (record { three = refl; letters = AllPass-from_list_all is_letter (codes "ADS") refl; number = omega arith }) (All-nil (IsApplication 99));
  };
}

-- The text of a contact says the contact.
pub contact_is_heard : (setting : Setting) (link : ℕ) (past : List Noted) (latest : FlightSample) → IsSettled setting → IsAddress (address_of setting link)
    → Says (address_of setting link) setting.registration (contact_text_on setting link past latest) (Greets (contact_on setting link past latest))
unfolding contact_text_on
contact_is_heard setting link past latest settled is_address =
    own_contact_heard (address_of setting link) (contact_on setting link past latest) is_address (contact_is setting link past latest settled)

-- ---- an acknowledgement

ack_encoded : (n : ℕ) → n < 256 → EncodesDownlink (ack n ∷ []) (downlink_bits (ack n ∷ []))
unfolding downlink_bits
ack_encoded n fits = record { some = omega arith; few = omega arith; encoded = (item_bits (ack n), [], refl, (fits, refl), refl) }

ack_fits : (n : ℕ) → length (downlink_bits (ack n ∷ [])) ≤ 2040
unfolding downlink_bits item_bits
ack_fits n = omega (arith, length-append (item_bits (ack n)) [], length-octets (3 ∷ n ∷ []) 2 refl)

-- The text of an acknowledgement says it.
pub ack_is_heard : (setting : Setting) (link : ℕ) (latest : FlightSample) (n : ℕ) → n < 256 → IsSettled setting → IsAddress (address_of setting link)
    → Says (address_of setting link) setting.registration (text_of_items setting link latest (Acknowledgement n ∷ [])) (Tells (ack n ∷ []))
unfolding text_of_items
ack_is_heard setting link latest n fits settled is_address =
    own_is_heard (address_of setting link) setting.registration (ack n ∷ []) is_address settled.registration (ack_encoded n fits) (ack_fits n)

-- In a worked script of one address.
pub worked_contact : (who : Who) (sample latest : FlightSample) (past : List Noted) → IsRegistration who.registration → IsFlight who.flight
    → Says ground who.registration (contact_text_on (aircraft_of who sample) 0 past latest) (Greets (contact_on (aircraft_of who sample) 0 past latest))
worked_contact who sample latest past registration flight =
    contact_is_heard (aircraft_of who sample) 0 past latest (worked_is_settled who sample registration flight) ground_is_address

pub worked_ack : (who : Who) (sample latest : FlightSample) (n : ℕ) → n < 256 → IsRegistration who.registration → IsFlight who.flight
    → Says ground who.registration (text_of_items (aircraft_of who sample) 0 latest (Acknowledgement n ∷ [])) (Tells (ack n ∷ []))
worked_ack who sample latest n fits registration flight =
    ack_is_heard (aircraft_of who sample) 0 latest n fits (worked_is_settled who sample registration flight) ground_is_address

-- ---- texts from the ground

-- A text of the aircraft's own, from an address that is no centre's, enters its payload.
pub uplink_enters : (setting : Setting) (log : List Happening) (number link : ℕ) (uplink : AdsUplink) (asked : UplinkMessages)
    → uplink.registration ≡ setting.registration → link_to setting uplink.address ≡ Some link → is_centre link log ≡ false → uplink.asked ≡ Ok asked
    → text_step setting log number (text.Ads uplink) ≡ enters (Uplink number link uplink.octets)
uplink_enters setting log number link uplink asked own found free is =
    ap (λ place. uplink_step setting log number uplink place) found
    ∙ ap
    (λ same. if same
    then takes log link (payload_happenings number (Uplink number link uplink.octets) uplink.asked)
    else refuses number (why.OtherRegistration registration_place))
    (same_is uplink.registration setting.registration own)
    ∙ ap (λ centre. if centre then stops code.Role 0 else does (payload_happenings number (Uplink number link uplink.octets) uplink.asked)) free
    ∙ ap (λ found. does (payload_happenings number (Uplink number link uplink.octets) found)) is

-- A line that brings such a text goes on.
pub brings_on : (over : Bool) (order : List ℕ) (setting : Setting) (log : List Happening) (number : ℕ) (reading : GroundText) (happenings : List Happening)
    (readings : List Reading) (run : Run) → text_step setting log number reading ≡ does happenings
    → LinesRun over order (flying setting) (happenings ++ log) (number + 1) readings run
    → LinesRun over order (flying setting) log number (Brings reading ∷ readings) run
brings_on over order setting log number reading happenings readings run same behind =
    subst
    (λ step. StepRuns (λ now rest. LinesRun over order (flying setting) now (number + 1) readings rest) order (flying setting) log number step run)
    (sym same) behind
