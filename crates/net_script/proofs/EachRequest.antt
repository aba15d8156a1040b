-- Each text is that of a request or isn't.
use Rattle.std.proofs.Common.{◌≡◌, ◌%◌, ◌≤◌, ℕ, List, [], ◌∷◌, length, refl, sym, ap, ◌∙◌, subst, arith, inl, inr, Ok, Err, Result}
use Rattle.std.specs.List.{AllPass}
use Rattle.std.proofs.lemmas.Bool.{cases_eq}
use Rattle.hex.specs.Hex.{IsBytes, upper_digits, encode_upper}
use Rattle.hex.proofs.HexLemmas.{length-encode_with}
use Rattle.acars_envelope.specs.Faults.{is_capital_digit}
use Rattle.acars_envelope.proofs.CapitalDigits.{Octets, octets_of, same_octets, spelled_digits}
use Rattle.adsc_requests.specs.Contents.{contents_of}
use Rattle.adsc_requests.specs.Grammar.{EncodesUplink}
use Rattle.adsc_requests.specs.declared.message.Message.{Message}
use Rattle.adsc_requests.specs.declared.message.Message.TheVariants as message
use Rattle.adsc_requests.specs.declared.message.Uplink.{Uplink}
use Rattle.adsc_requests.specs.declared.refusal.Refusal.{Refusal}
use Rattle.adsc_requests.proofs.Injective.{same_contents}
use Rattle.adsc_requests.proofs.ReadingLaws.{one_reading, uplink_never_fault}
use Rattle.ground_texts.specs.Readings.{ReadsPayload}
use Rattle.ground_texts.proofs.EachUplink.{each_payload}
use Rattle.net_script.specs.Forms.{AsksWithoutNumber, HasForm, a_request}
use Rattle.net_script.proofs.Deciding.{IsDecided, decided_and, decided_le, decided_pass}

-- ---- one request

each_asks : (asked : Message) → IsDecided (AsksWithoutNumber asked)
each_asks message.CancelAll = inr (λ asks. asks)
each_asks (message.Cancel n) = inr (λ asks. asks)
each_asks (message.CancelEmergency n) = inr (λ asks. asks)
each_asks (message.Periodic n interval groups intent) = cases_eq n 0
each_asks (message.Event n limits) = cases_eq n 0
each_asks (message.Emergency n interval groups intent) = cases_eq n 0

only_message : (a b : Message) (others : List Message) → a ∷ [] ≡ b ∷ others → b ≡ a
only_message a b others same = cc

-- ---- the text

-- What the octets of the text encode is what the request asks.
asked_by : (text octets : List ℕ) (uplink : Uplink) → IsBytes octets → text ≡ encode_upper octets → EncodesUplink uplink octets
    → (has : HasForm a_request text) → uplink.messages.items ≡ has.0 ∷ []
asked_by text octets uplink bytes spelled encodes (asked, is) =
    let same = same_octets is.octets octets is.bytes bytes (sym is.digits ∙ spelled) in
    let own = subst (EncodesUplink is.uplink) same is.encoding in
    ap (λ (u : Uplink). u.messages.items) (same_contents uplink is.uplink (one_reading octets (contents_of uplink) (contents_of is.uplink) encodes own))
    ∙ is.sole

-- Whether the octets' one message is such a request.
request_among : (text octets : List ℕ) (uplink : Uplink) (messages : List Message) → uplink.messages.items ≡ messages → IsBytes octets → length octets ≤ 255
    → text ≡ encode_upper octets → EncodesUplink uplink octets → IsDecided (HasForm a_request text)
request_among text octets uplink [] listed bytes few spelled encodes =
    inr (λ has. let same = sym listed ∙ asked_by text octets uplink bytes spelled encodes has in absurd (cc))
request_among text octets uplink (a ∷ b ∷ others) listed bytes few spelled encodes =
    inr (λ has. let same = sym listed ∙ asked_by text octets uplink bytes spelled encodes has in absurd (cc))
request_among text octets uplink (asked ∷ []) listed bytes few spelled encodes = elim (each_asks asked) [
  | inl asks ↦ inl (
    asked,
    record {
      octets = octets;
      uplink = uplink;
      bytes = bytes;
      few = few;
      digits = spelled;
      encoding = encodes;
      sole = listed;
      asks = asks;
    },
  )
  | inr never ↦ inr (λ has.
      let same = only_message asked has.0 [] (sym listed ∙ asked_by text octets uplink bytes spelled encodes has) in
      never (subst AsksWithoutNumber same has.1.asks))
]

request_read : (text octets : List ℕ) (asked : Result Uplink Refusal) → ReadsPayload octets asked → IsBytes octets → length octets ≤ 255
    → text ≡ encode_upper octets → IsDecided (HasForm a_request text)
request_read text octets (Ok uplink) reads bytes few spelled =
    request_among text octets uplink uplink.messages.items refl bytes few spelled reads
request_read text octets (Err refusal) fault bytes few spelled =
    inr (λ has. uplink_never_fault octets (has.1.uplink, own has) (refusal, fault))
  where
    own : (has : HasForm a_request text) → EncodesUplink has.1.uplink octets
    own has =
        let same = same_octets has.1.octets octets has.1.bytes bytes (sym has.1.digits ∙ spelled) in
        subst (EncodesUplink has.1.uplink) same has.1.encoding

request_in : (text octets : List ℕ) → IsBytes octets → length octets ≤ 255 → text ≡ encode_upper octets
    → IsDecided (HasForm a_request text)
request_in text octets bytes few spelled =
    let read = each_payload octets bytes in request_read text octets read.0 read.1 bytes few spelled

-- The text has pairs of digits with capital letters, at most 255 of them.
abbrev ArePairs : List ℕ → Type 0
ArePairs text = (length text ≤ 510) × ((length text % 2 ≡ 0) × AllPass is_capital_digit text)

each_pairs : (text : List ℕ) → IsDecided (ArePairs text)
each_pairs text =
    decided_and (length text ≤ 510) ((length text % 2 ≡ 0) × AllPass is_capital_digit text) (decided_le (length text) 510)
    (decided_and (length text % 2 ≡ 0) (AllPass is_capital_digit text) (cases_eq (length text % 2) 0)
    (decided_pass is_capital_digit text))

pairs_of : (text : List ℕ) → HasForm a_request text → ArePairs text
pairs_of text (asked, is) =
    let digits = spelled_digits text is.octets is.bytes is.digits in
    (omega (arith, digits.1, is.few), (omega (arith, digits.1), digits.0))

pub each_request : (text : List ℕ) → IsDecided (HasForm a_request text)
each_request text = elim (each_pairs text) [
  | inl pairs ↦
      let read : Octets 0 text = octets_of 0 text pairs.1.0 pairs.1.1 in
      let few : length read.octets ≤ 255 = omega (arith, pairs.0, ap length read.written, length-encode_with upper_digits read.octets) in
      request_in text read.octets read.bytes few (sym read.written)
  | inr never ↦ inr (λ has. never (pairs_of text has))
]
