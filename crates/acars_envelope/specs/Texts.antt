-- The text of an envelope (ARINC 622, with this project's check).
use Rattle.std.specs.Prelude.{◌≡◌, ℕ, List, ◌++◌, codes, drop}
use Rattle.std.specs.Int.{to_be_bytes, w16, w32}
use Rattle.hex.specs.Hex.{encode_upper}
use Rattle.acars_envelope.specs.declared.texts.Body.{Body}
use Rattle.acars_envelope.specs.declared.texts.Envelope.{Envelope}
use Rattle.acars_envelope.specs.Names.{IsAddress}
use Rattle.acars_envelope.specs.Check.{check_of}
use Rattle.acars_envelope.specs.Bodies.{HasItsForms, written_body, covered_octets}

-- A number below 65,536 as four hexadecimal digits, capital letters.
abbrev pub four_digits : ℕ → List ℕ
four_digits n = encode_upper (to_be_bytes w16 n)

-- A number below 2^24, as an aircraft's address, as six hexadecimal digits, capital letters.
abbrev pub six_digits : ℕ → List ℕ
six_digits n = encode_upper (drop 1 (to_be_bytes w32 n))

-- The text with this address and this body: a slash, the address, a dot, the body as it is written, and the
-- four digits of the check over what it covers.
abbrev pub sealed_text : List ℕ → Body → List ℕ
sealed_text address body =
    codes "/" ++ address ++ codes "." ++ written_body body ++ four_digits (check_of (covered_octets body))

-- An envelope's text.
abbrev pub envelope_text : Envelope → List ℕ
envelope_text e = sealed_text e.address e.body

-- The text is that of the envelope, whose parts are what their types hold.
pub record IsEnvelopeText (e : Envelope) (text : List ℕ) : Type 0 where
  pub address : IsAddress e.address
  pub body : HasItsForms e.body
  pub spelled : text ≡ envelope_text e
