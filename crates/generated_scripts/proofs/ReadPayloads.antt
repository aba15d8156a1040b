-- Which of the payloads that are made are malformed.
use Rattle.std.proofs.Common.{◌≡◌, ℕ, ◌≤◌, List, [], ◌∷◌, Result, Ok, Err, Some, None, if◌then◌else◌, refl, sym, ◌∙◌, ap, length, arith}
use Rattle.std.proofs.lemmas.Bool.{ne_eqb}
use Rattle.adsc_requests.specs.Contents.{Content, Group}
use Rattle.adsc_requests.specs.Reading.{uplink_at, messages_at, message_at, request_at, cancel_at, event_at, groups_at, group_at, with_data_at, data_at, octet_at, admitted_or, put, ◌>>=◌}
use Rattle.adsc_requests.specs.Tables.{is_message_tag, is_request_tag, is_modulus_tag, allows, data_size, field_size, value_reason}
use Rattle.adsc_requests.specs.declared.decoding.stop.Stop.{Stop}
use Rattle.adsc_requests.specs.declared.message.Uplink.{Uplink as UplinkMessages}
use Rattle.adsc_requests.specs.declared.refusal.Refusal.{Refusal}
use Rattle.adsc_requests.proofs.Encodings.{encoding_is_read}
use Rattle.adsc_requests.proofs.ReadingLaws.{fault_is_read}
use Rattle.ground_texts.specs.Readings.{ReadsPayload}
use Rattle.generated_scripts.specs.Laws.{IsAskedBy}
use Rattle.generated_scripts.specs.Limits.{IsPayloadWithin}
use Rattle.generated_scripts.specs.Payloads.{payload_octets}
use Rattle.generated_scripts.specs.declared.line.MadePayload.{MadePayload}
use Rattle.generated_scripts.specs.declared.line.MadePayload.TheVariants.{Demand, Periodic, Event, Emergency, Cancel, CancelAll, Malformed}

not_both : {A B : Type 0} (r : Result A B) (a : A) (b : B) → r ≡ Ok a → r ≡ Err b → ⊥
not_both r a b is other = let same : Ok a ≡ Err b = sym is ∙ other in cc

-- Reading a payload from left to right ends well, or, where it is the malformed one, it stops.
abbrev Reads : MadePayload → Type 0
Reads (Malformed number) = (s : Stop) × (uplink_at (payload_octets (Malformed number)) ≡ Err s)
Reads payload = (contents : List Content) × (uplink_at (payload_octets payload) ≡ Ok contents)

-- The lateral limit of an event request that isn't 0 is read.
lateral_is_read : (number lateral : ℕ) → 1 ≤ lateral → data_at 10 number (lateral ∷ 0x14 ∷ []) ≡ Ok (lateral ∷ [], 0x14 ∷ [])
unfolding data_at data_size field_size value_reason
lateral_is_read number lateral some =
    ap (λ none. admitted_or (if none then Some 13 else None) 2 number (lateral ∷ []) (0x14 ∷ [])) (ne_eqb lateral 0 (λ e. omega (arith, some, e)))

abbrev grouped : List Group → List ℕ → Result (List Group × List ℕ) Stop
grouped groups rest = Ok (groups, rest)

abbrev told : Content → List ℕ → Result (Content × List ℕ) Stop
told content rest = Ok (content, rest)

-- What reading gives behind it.
abbrev behind_lateral : ℕ → Result (List ℕ × List ℕ) Stop → Result (List Content) Stop
behind_lateral number read =
    ((((read >>= λ d. grouped (put (record { tag = 10; octets = d.0 }) []) d.1) >>= λ g. groups_at 2 8 number g.0 g.1)
    >>= λ gs. event_at number gs.0 (length gs.1) >>= λ c. told c gs.1)
    >>= λ m. messages_at 3 m.0.number m.1 >>= λ ms. Ok (m.0 ∷ ms))

reads : (payload : MadePayload) → IsPayloadWithin payload → Reads payload
unfolding uplink_at messages_at message_at request_at cancel_at event_at groups_at group_at with_data_at data_at octet_at is_message_tag is_request_tag is_modulus_tag allows data_size field_size value_reason
reads (Demand number) within = (_, refl)
reads (Periodic number interval) within = (_, refl)
reads (Event number lateral) within = (_, ap (behind_lateral number) (lateral_is_read number lateral within.1))
reads (Emergency number interval) within = (_, refl)
reads (Cancel number) within = (_, refl)
reads CancelAll within = (_, refl)
reads (Malformed number) within = (_, refl)

-- A payload that reading ends well is read as an uplink; the malformed one is refused.
abbrev IsReadOr : Result UplinkMessages Refusal → Type 0
IsReadOr (Ok uplink) = Unit {0}
IsReadOr (Err refusal) = ⊥

read_well : (octets : List ℕ) (contents : List Content) (asked : Result UplinkMessages Refusal) → uplink_at octets ≡ Ok contents → ReadsPayload octets asked → IsReadOr asked
read_well octets contents (Ok uplink) is well = tt
read_well octets contents (Err refusal) is well =
    not_both (uplink_at octets) contents _ is (fault_is_read octets well.at refusal.reason refusal.number well.fault).2

read_badly : (octets : List ℕ) (s : Stop) (asked : Result UplinkMessages Refusal) → uplink_at octets ≡ Err s → ReadsPayload octets asked → IsReadOr asked → ⊥
read_badly octets s (Ok uplink) is well ok = not_both (uplink_at octets) _ s (encoding_is_read _ octets well) is
read_badly octets s (Err refusal) is well ok = ok

-- So each payload within its limits is read as an uplink, and the malformed one is refused.
pub asked_by : (payload : MadePayload) (asked : Result UplinkMessages Refusal) → IsPayloadWithin payload → ReadsPayload (payload_octets payload) asked → IsAskedBy payload asked
asked_by payload asked within is = at payload asked (reads payload within) is
  where
    at : (payload : MadePayload) (asked : Result UplinkMessages Refusal) → Reads payload → ReadsPayload (payload_octets payload) asked → IsAskedBy payload asked
    at (Malformed number) (Ok uplink) read is = read_badly (payload_octets (Malformed number)) read.0 (Ok uplink) read.1 is tt
    at (Malformed number) (Err refusal) read is = tt
    at (Demand number) (Ok uplink) read is = tt
    at (Demand number) (Err refusal) read is = read_well (payload_octets (Demand number)) read.0 (Err refusal) read.1 is
    at (Periodic number interval) (Ok uplink) read is = tt
    at (Periodic number interval) (Err refusal) read is = read_well (payload_octets (Periodic number interval)) read.0 (Err refusal) read.1 is
    at (Event number lateral) (Ok uplink) read is = tt
    at (Event number lateral) (Err refusal) read is = read_well (payload_octets (Event number lateral)) read.0 (Err refusal) read.1 is
    at (Emergency number interval) (Ok uplink) read is = tt
    at (Emergency number interval) (Err refusal) read is = read_well (payload_octets (Emergency number interval)) read.0 (Err refusal) read.1 is
    at (Cancel number) (Ok uplink) read is = tt
    at (Cancel number) (Err refusal) read is = read_well (payload_octets (Cancel number)) read.0 (Err refusal) read.1 is
    at CancelAll (Ok uplink) read is = tt
    at CancelAll (Err refusal) read is = read_well (payload_octets CancelAll) read.0 (Err refusal) read.1 is
