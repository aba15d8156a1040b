-- What the three lines of the head make is settled.
use Rattle.std.proofs.Common.{◌≡◌, ◌^◌, ◌-◌, ◌<◌, ◌≤◌, ℕ, suc, List, [], ◌∷◌, Option, Some, length, map, take, drop, inl, inr, sym, ap, ◌∙◌, subst, arith, length-drop}
use Rattle.std.proofs.lemmas.List.{length-map}
use Rattle.std.specs.List.{AllByRecursion}
use Rattle.std.specs.Option.{ForSome}
use Rattle.acars_envelope.specs.Names.{IsAddress, IsFlight, IsRegistration}
use Rattle.aircraft_core.specs.declared.who.Who.{Who}
use Rattle.flight_samples.specs.declared.sample.Sample.{Sample as FlightSample}
use Rattle.net_script.specs.Addresses.{AddressList, AreDifferent, IsListed, IsReserved}
use Rattle.net_script.specs.Counts.{HasCount}
use Rattle.net_script.specs.Fields.{field_at}
use Rattle.net_script.specs.Lines.{SaysAddresses, SaysWho}
use Rattle.net_script.specs.declared.letter.Letter.TheVariants.{Ground}
use Rattle.net_script.proofs.FieldsLaws.{field-drop}
use Rattle.net_script.proofs.GroundLaws.{seven, seven_starred}
use Rattle.run_rules.proofs.Deeds.{IsSettled}
use Rattle.run_rules.specs.Stages.{setting_with}

-- ---- who the aircraft is

-- The registration, the flight and the airframe's address have their forms.
pub record IsRightWho (who : Who) : Type 0 where
  pub registration : IsRegistration who.registration
  pub flight : IsFlight who.flight
  pub airframe : who.airframe < 2 ^ 24

pub right_who : (who : Who) (fields : List (List ℕ)) → SaysWho fields who → IsRightWho who
right_who who fields says =
    record {
      registration = record { mark = field_at fields 1; is_mark = says.is_mark; dotted = says.registration };
      flight = subst IsFlight (sym says.flight) says.is_flight;
      airframe = who.address_size;
    }

-- ---- the ground addresses

-- An aircraft can have links to these addresses, and keep a connection for this one.
pub record AreLinks (listed : List (List ℕ)) (reserved : Option ℕ) : Type 0 where
  pub some : 1 ≤ length listed
  pub few : length listed ≤ 64
  pub addresses : AllByRecursion IsAddress listed
  pub different : AreDifferent listed
  pub kept : ForSome reserved (λ link. link < length listed)

-- A field that lists an address begins with it.
listed_address : (fields : List (List ℕ)) (place : ℕ) → IsListed fields place → IsAddress (take 7 (field_at fields place))
listed_address fields place (inl is) = subst IsAddress (sym (seven (field_at fields place) is)) is
listed_address fields place (inr starred) =
    subst IsAddress (sym (seven_starred (field_at fields place) starred.0.address starred.0.is_address starred.0.spelled)) starred.0.is_address

all_addresses : (fields : List (List ℕ)) → ((k : ℕ) → k < length fields → IsAddress (take 7 (field_at fields k))) → AllByRecursion IsAddress (map (take 7) fields)
all_addresses [] each = tt
all_addresses (field ∷ fields) each = (each 0 (omega arith), all_addresses fields (λ k below. each (suc k) (omega (arith, below))))

-- What a ground line lists are links.
pub right_links : (addresses : AddressList) (reserved : Option ℕ) (fields : List (List ℕ)) → HasCount Ground (length fields)
    → SaysAddresses fields addresses.items reserved → AreLinks addresses.items reserved
right_links addresses reserved fields count says =
    record {
      some = omega (arith, size, count.0);
      few = omega (arith, size, count.1);
      addresses = subst (AllByRecursion IsAddress) says.listed (all_addresses (drop 1 fields) each);
      different = says.different;
      kept = λ link is. inside link (subst (IsReserved fields) is says.star);
    }
  where
    size : length addresses.items ≡ length fields - 1
    size = sym (ap length says.listed) ∙ length-map (drop 1 fields) (take 7) ∙ length-drop 1 fields

    each : (k : ℕ) → k < length (drop 1 fields) → IsAddress (take 7 (field_at (drop 1 fields) k))
    each k below =
        subst (λ field. IsAddress (take 7 field)) (sym (field-drop fields k))
        (listed_address fields (suc k) (says.right (suc k) (omega arith) (omega (arith, below, length-drop 1 fields))))

    inside : (link : ℕ) → IsReserved fields (Some link) → link < length addresses.items
    inside link star = omega (arith, star.0, size)

-- ---- the aircraft

-- What three lines make is settled.
pub settled_by : (who : Who) (addresses : List (List ℕ)) (kept : Option ℕ) (first : FlightSample) → IsRightWho who → AreLinks addresses kept
    → IsSettled (setting_with who addresses kept first)
settled_by who addresses kept first is links =
    record {
      registration = is.registration;
      flight = is.flight;
      airframe = is.airframe;
      some = links.some;
      few = links.few;
      addresses = links.addresses;
      different = links.different;
      kept = links.kept;
    }
