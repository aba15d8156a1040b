-- What a text from the ground does (this project's profile). Texts follow ARINC 622, payloads and answers RTCA DO-258A /
-- EUROCAE ED-100A.
use Rattle.std.specs.Prelude.{ℕ, ◌+◌, Bool, List, [], ◌∷◌, length, Option, Some, None, Result, Ok, Err, nat_eq, if◌then◌else◌}
use Rattle.std.specs.Cmp.Lexicographic.{pointwise}
use Rattle.adsc_requests.specs.declared.message.Uplink.{Uplink as UplinkMessages}
use Rattle.adsc_requests.specs.declared.refusal.Refusal.{Refusal}
use Rattle.afn_logon.specs.declared.answer.Answer.{Answer as LogonAnswer}
use Rattle.afn_logon.specs.declared.refusal.AfnRefusal.{AfnRefusal}
use Rattle.aircraft_core.specs.Setting.{Setting}
use Rattle.aircraft_core.specs.declared.entry.Entry.{Entry}
use Rattle.aircraft_core.specs.declared.entry.Entry.TheVariants.{Uplink, Answer}
use Rattle.ground_texts.specs.declared.ground_text.AdsUplink.{AdsUplink}
use Rattle.ground_texts.specs.declared.ground_text.AfnUplink.{AfnUplink}
use Rattle.ground_texts.specs.declared.ground_text.GroundText.{GroundText}
use Rattle.ground_texts.specs.declared.ground_text.GroundText.TheVariants as text
use Rattle.net_script.specs.declared.refusal.Code.TheVariants as code
use Rattle.run_rules.specs.Happenings.{Happening, Entered, Refused, is_centre}
use Rattle.run_rules.specs.Stages.{Step, does, stops}
use Rattle.run_rules.specs.declared.refused.RefusedWhy.{RefusedWhy}
use Rattle.run_rules.specs.declared.refused.RefusedWhy.TheVariants as why

-- whether two texts are the same
abbrev pub same_text : List ℕ → List ℕ → Bool
same_text one other = pointwise nat_eq one other

-- the link to an address: its place among these addresses, of which the first has the place `from`
abbrev pub link_from : ℕ → List (List ℕ) → List ℕ → Option ℕ
link_from from [] address = None
link_from from (other ∷ others) address = if same_text other address then Some from else link_from (from + 1) others address

-- the link of the aircraft to an address, if it has one
abbrev pub link_to : Setting → List ℕ → Option ℕ
link_to setting address = link_from 0 setting.addresses address

-- the text of this line is refused
abbrev pub refusal_of : ℕ → RefusedWhy → Happening
refusal_of number why = Refused (record { line = number; why = why })

-- the line is refused and makes no entry
abbrev pub refuses : ℕ → RefusedWhy → Step
refuses number why = does (refusal_of number why ∷ [])

-- A text of this link is taken and does this, unless the address is a centre's: then the line is bad.
abbrev pub takes : List Happening → ℕ → List Happening → Step
takes log link happenings = if is_centre link log then stops code.Role 0 else does happenings

-- What a payload that is taken does: it makes this entry, also where it is malformed, and then it is refused besides.
abbrev pub payload_happenings : ℕ → Entry → Result UplinkMessages Refusal → List Happening
payload_happenings number made (Ok uplink) = Entered made ∷ []
payload_happenings number made (Err refusal) = refusal_of number (why.Bits refusal) ∷ Entered made ∷ []

-- where the registration stands in an ADS text
abbrev pub registration_place : ℕ
registration_place = 12

-- An uplink to this link of the aircraft, if there is one: it is taken where the registration is the aircraft's own.
abbrev pub uplink_step : Setting → List Happening → ℕ → AdsUplink → Option ℕ → Step
uplink_step setting log number uplink None = refuses number why.UnknownAddress
uplink_step setting log number uplink (Some link) =
    if same_text uplink.registration setting.registration
    then takes log link (payload_happenings number (Uplink number link uplink.octets) uplink.asked)
    else refuses number (why.OtherRegistration registration_place)

-- where the characters of an AFN text begin, and in an answer the flight
abbrev pub characters_place : ℕ
characters_place = 12

abbrev pub flight_place : ℕ
flight_place = 16

-- An answer on this link: it is taken where the registration is the aircraft's own, which stands behind the flight and a comma. Its
-- flight isn't compared.
abbrev pub answer_step : Setting → List Happening → ℕ → ℕ → LogonAnswer → Step
answer_step setting log number link answer =
    if same_text answer.registration setting.registration then takes log link (Entered (Answer number link answer.code) ∷ [])
    else refuses number (why.OtherRegistration (flight_place + length answer.flight + 1))

-- The characters of an AFN text on this link are an answer, or refused at their first mismatch.
abbrev pub characters_step : Setting → List Happening → ℕ → ℕ → Result LogonAnswer AfnRefusal → Step
characters_step setting log number link (Ok answer) = answer_step setting log number link answer
characters_step setting log number link (Err refusal) = refuses number (why.Afn (characters_place + refusal.place))

-- A text of the application AFN on this link of the aircraft, if there is one.
abbrev pub notice_step : Setting → List Happening → ℕ → AfnUplink → Option ℕ → Step
notice_step setting log number notice None = refuses number why.UnknownAddress
notice_step setting log number notice (Some link) = characters_step setting log number link notice.answer

-- A text: the rules are its envelope, then the address; then for ADS the registration and the payload, for AFN the answer and its
-- registration; and what is taken then may not come from a centre's address.
abbrev pub text_step : Setting → List Happening → ℕ → GroundText → Step
text_step setting log number (text.Refused fault) = refuses number (why.Envelope fault)
text_step setting log number (text.Ads uplink) = uplink_step setting log number uplink (link_to setting uplink.address)
text_step setting log number (text.Afn notice) = notice_step setting log number notice (link_to setting notice.address)
