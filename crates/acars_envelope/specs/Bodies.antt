-- What an envelope carries: octets for the application ADS, characters for the application AFN
-- (RTCA DO-258A / EUROCAE ED-100A; the sizes are this project's profile).
use Rattle.std.specs.Prelude.{ℕ, nat_le, ◌&&◌, Bool, List, ◌++◌, length, codes}
use Rattle.std.specs.List.{list_all}
use Rattle.hex.specs.Hex.{IsBytes, encode_upper}
use Rattle.acars_envelope.specs.declared.texts.Body.{Body}
use Rattle.acars_envelope.specs.declared.texts.Body.TheVariants.{Ads, Afn}
use Rattle.acars_envelope.specs.Names.{IsRegistration}

-- A character of an AFN text: from the space, 20 hexadecimal, to the tilde, 7E.
abbrev pub is_text_character : ℕ → Bool
is_text_character c = nat_le 32 c && nat_le c 126

-- A body has 1 to 255 octets or characters.
abbrev pub is_body_size : ℕ → Bool
is_body_size count = nat_le 1 count && nat_le count 255

-- A payload has a body's size, and a text has it and only a text's characters.
abbrev pub is_well_formed : Body → Bool
is_well_formed (Ads registration payload) = is_body_size (length payload.items)
is_well_formed (Afn text) = is_body_size (length text.items) && list_all is_text_character text.items

-- The parts of a body are what their types hold: a registration, octets.
abbrev pub HasItsForms : Body → Type 0
HasItsForms (Ads registration payload) = IsRegistration registration × IsBytes payload.items
HasItsForms (Afn text) = Unit {0}

-- A body as it is written: the application's three letters, then for ADS the registration and each octet
-- as two hexadecimal digits, and for AFN the characters.
abbrev pub written_body : Body → List ℕ
written_body (Ads registration payload) = codes "ADS" ++ registration ++ encode_upper payload.items
written_body (Afn text) = codes "AFN" ++ text.items

-- What the check covers: the same, but the octets of a payload themselves and not their digits.
abbrev pub covered_octets : Body → List ℕ
covered_octets (Ads registration payload) = codes "ADS" ++ registration ++ payload.items
covered_octets (Afn text) = codes "AFN" ++ text.items
