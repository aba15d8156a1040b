-- The texts that are made are read as they were drawn.
use Rattle.std.proofs.Common.{◌≡◌, ◌≢◌, ℕ, zero, suc, ◌+◌, ◌*◌, ◌<◌, ◌≤◌, true, List, [], ◌∷◌, ◌++◌, codes, length, Result, refl, ap, arith, length-append}
use Rattle.std.specs.List.{AllByRecursion}
use Rattle.std.proofs.lemmas.List.Elements.{All-append}
use Rattle.std.proofs.lemmas.List.Sums.{AllPass-from_list_all}
use Rattle.hex.specs.Hex.{IsBytes, encode_upper, upper_digits}
use Rattle.hex.proofs.HexLemmas.{length-encode_with}
use Rattle.acars_envelope.specs.Bodies.{covered_octets, is_body_size, written_body}
use Rattle.acars_envelope.specs.Check.{check_of}
use Rattle.acars_envelope.specs.Names.{IsAddress, IsRegistration, is_mark_character, is_name_character, with_dots}
use Rattle.acars_envelope.specs.Texts.{IsEnvelopeText, four_digits, sealed_text}
use Rattle.acars_envelope.specs.declared.texts.Body.{Body}
use Rattle.acars_envelope.specs.declared.texts.Body.TheVariants.{Ads}
use Rattle.acars_envelope.specs.declared.texts.Envelope.{Envelope}
use Rattle.acars_envelope.proofs.PassingLaws.{length-four_digits, length-registration}
use Rattle.acars_envelope.proofs.PrintableLaws.{sealed_text_has_no_newline}
use Rattle.adsc_io.specs.Lines.{IsUnbroken}
use Rattle.adsc_requests.specs.declared.message.Uplink.{Uplink as UplinkMessages}
use Rattle.adsc_requests.specs.declared.refusal.Refusal.{Refusal}
use Rattle.ground_texts.specs.Readings.{ReadsPayload}
use Rattle.ground_texts.specs.declared.ground_text.AdsUplink.{AdsUplink}
use Rattle.ground_texts.specs.declared.ground_text.GroundText.TheVariants as text
use Rattle.ground_texts.proofs.EachUplink.{each_payload}
use Rattle.net_script.specs.Fields.{field_at, fields_of}
use Rattle.net_script.specs.Lines.{IsScriptLine}
use Rattle.net_script.specs.declared.letter.Letter.TheVariants as letter
use Rattle.net_script.specs.declared.line.ScriptLine.TheVariants as line
use Rattle.net_script.proofs.FieldsLaws.{length-fields}
use Rattle.run_rules.specs.Readings.{IsGoodLine}
use Rattle.run_rules.specs.declared.reading.Reading.TheVariants.{Brings}
use Rattle.generated_scripts.specs.Limits.{IsPayloadWithin}
use Rattle.generated_scripts.specs.Payloads.{payload_octets}
use Rattle.generated_scripts.specs.Texts.{line_text, made_address, made_mark}
use Rattle.generated_scripts.specs.declared.line.MadeLine.TheVariants.{Uplink}
use Rattle.generated_scripts.specs.declared.line.MadePayload.{MadePayload}
use Rattle.generated_scripts.specs.declared.line.MadePayload.TheVariants.{Demand, Periodic, Event, Emergency, Cancel, CancelAll, Malformed}
use Rattle.generated_scripts.proofs.LineFields.{cut, in_place}
use Rattle.generated_scripts.proofs.ReadLines.{IsReadLine, letter_alone}
use Rattle.generated_scripts.proofs.ReadPayloads.{asked_by}
use Rattle.generated_scripts.proofs.TextBytes.{unbroken_by}

-- ---- the parts of a text

pub address_is : (place : ℕ) → place < 5 → IsAddress (made_address place)
address_is zero inside = record { size = refl; characters = AllPass-from_list_all is_name_character (codes "GRND001") refl }
address_is (suc zero) inside = record { size = refl; characters = AllPass-from_list_all is_name_character (codes "GRND002") refl }
address_is (suc (suc zero)) inside = record { size = refl; characters = AllPass-from_list_all is_name_character (codes "GRND003") refl }
address_is (suc (suc (suc zero))) inside = record { size = refl; characters = AllPass-from_list_all is_name_character (codes "GRND004") refl }
address_is (suc (suc (suc (suc zero)))) inside = record { size = refl; characters = AllPass-from_list_all is_name_character (codes "GRND005") refl }
address_is (suc (suc (suc (suc (suc place))))) inside = absurd (omega (arith, inside))

pub registration_is : IsRegistration (with_dots made_mark)
registration_is = record {
  mark = made_mark;
  is_mark = record { some = omega arith; few = omega arith; characters = AllPass-from_list_all is_mark_character made_mark refl };
  dotted = refl;
}

bytes_by : (xs : List ℕ) → AllByRecursion (λ b. b < 256) xs → IsBytes xs
bytes_by [] all i = omega arith
bytes_by (b ∷ xs) all zero = all.0
bytes_by (b ∷ xs) all (suc i) = bytes_by xs all.1 i

pub octets_are_bytes : (payload : MadePayload) → IsPayloadWithin payload → IsBytes (payload_octets payload)
octets_are_bytes (Demand number) is = bytes_by (payload_octets (Demand number)) (omega arith, (is, tt))
octets_are_bytes (Periodic number interval) is =
    bytes_by (payload_octets (Periodic number interval)) (omega arith, (is.0, (omega arith, (is.1, (omega arith, (omega arith, tt))))))
octets_are_bytes (Event number lateral) is =
    bytes_by (payload_octets (Event number lateral)) (omega arith, (is.0, (omega arith, (is.2, (omega arith, tt)))))
octets_are_bytes (Emergency number interval) is =
    bytes_by (payload_octets (Emergency number interval)) (omega arith, (is.0, (omega arith, (is.1, tt))))
octets_are_bytes (Cancel number) is = bytes_by (payload_octets (Cancel number)) (omega arith, (is, tt))
octets_are_bytes CancelAll is = bytes_by (payload_octets CancelAll) (omega arith, tt)
octets_are_bytes (Malformed number) is = bytes_by (payload_octets (Malformed number)) (omega arith, (is, (omega arith, tt)))

payload_sized : (payload : MadePayload) → (is_body_size (length (payload_octets payload)) ≡ true) × (length (payload_octets payload) ≤ 6)
payload_sized (Demand number) = (refl, omega arith)
payload_sized (Periodic number interval) = (refl, omega arith)
payload_sized (Event number lateral) = (refl, omega arith)
payload_sized (Emergency number interval) = (refl, omega arith)
payload_sized (Cancel number) = (refl, omega arith)
payload_sized CancelAll = (refl, omega arith)
payload_sized (Malformed number) = (refl, omega arith)

-- ---- the size of a text

text_length : (address registration octets : List ℕ) → IsAddress address → IsRegistration registration
    → length (sealed_text address (Ads registration (record { items = octets }))) ≡ 23 + 2 * length octets
text_length address registration octets is_address is_registration =
    let body : Body = Ads registration (record { items = octets }) in
    let check = four_digits (check_of (covered_octets body)) in
    omega (
      arith,
      length-append (codes "/" ++ address ++ codes "." ++ written_body body) check,
      length-four_digits (check_of (covered_octets body)),
      length-append (codes "/" ++ address ++ codes ".") (written_body body),
      length-append (codes "/" ++ address) (codes "."),
      length-append (codes "ADS" ++ registration) (encode_upper octets),
      length-encode_with upper_digits octets,
      is_address.size,
      length-registration registration is_registration,
    )

-- ---- the line

-- A text that is made is read as what was drawn.
pub uplink_read : (number place : ℕ) (payload : MadePayload) → 4 ≤ number → place < 5 → IsPayloadWithin payload → IsReadLine number (Uplink place payload)
uplink_read number place payload behind inside within =
    record {
      short = omega (arith, short);
      unbroken = unbroken;
      reading = Brings (text.Ads uplink);
      reads = (2, good, (envelope, is_text, (refl, refl, refl, read.1)));
      says = record { address = refl; registration = refl; octets = refl; asked = asked_by payload read.0 within read.1 };
    }
  where
    body : Body
    body = Ads (with_dots made_mark) (record { items = payload_octets payload })

    characters : List ℕ
    characters = sealed_text (made_address place) body

    bytes : IsBytes (payload_octets payload)
    bytes = octets_are_bytes payload within

    read : (asked : Result UplinkMessages Refusal) × ReadsPayload (payload_octets payload) asked
    read = each_payload (payload_octets payload) bytes

    uplink : AdsUplink
    uplink =
        record {
          address = made_address place;
          registration = with_dots made_mark;
          octets = record { items = payload_octets payload };
          asked = read.0;
        }

    envelope : Envelope
    envelope = record { address = made_address place; body = body; well_formed = (payload_sized payload).0 }

    is_text : IsEnvelopeText envelope characters
    is_text = record { address = address_is place inside; body = (registration_is, bytes); spelled = refl }

    short : length characters ≤ 35
    short = omega (arith, text_length (made_address place) (with_dots made_mark) (payload_octets payload) (address_is place inside) registration_is, (payload_sized payload).1)

    unbroken : IsUnbroken (line_text (Uplink place payload))
    unbroken =
        All-append (λ byte. byte ≢ 10) (codes "U,") characters (unbroken_by (codes "U,") refl)
        (sealed_text_has_no_newline (made_address place) body (address_is place inside) (registration_is, bytes) (payload_sized payload).0)

    fields : fields_of (line_text (Uplink place payload)) ≡ codes "U" ∷ fields_of characters
    fields = cut (codes "U") characters (letter_alone 85 (λ e. omega (arith, e)))

    is : IsScriptLine (line.U 2) (line_text (Uplink place payload))
    is = record {
      letter = ap (λ fs. field_at fs 0) fields;
      count = omega (arith, ap length fields, length-fields characters);
      says = refl;
    }

    good : IsGoodLine number (line_text (Uplink place payload)) (line.U 2)
    good = record {
      fits = omega (arith, short);
      placed = in_place number (line_text (Uplink place payload)) letter.Uplink behind is.letter (λ e. cc) (λ e. cc);
      says = is;
    }
