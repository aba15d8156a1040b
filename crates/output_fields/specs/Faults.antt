-- What is wrong with a text, as fields of an output line. Envelopes are those of ARINC 622, payloads those of
-- RTCA DO-258A / EUROCAE ED-100A; reasons and codes are this project's profile.
use Rattle.std.specs.Prelude.{ℕ, List, ◌∷◌, ◌++◌, codes, decimal}
use Rattle.acars_envelope.specs.Texts.{four_digits}
use Rattle.acars_envelope.specs.declared.refusal.EnvelopeRefusal.{EnvelopeRefusal}
use Rattle.acars_envelope.specs.declared.refusal.EnvelopeWhy.{EnvelopeWhy}
use Rattle.acars_envelope.specs.declared.refusal.EnvelopeWhy.TheVariants as envelope
use Rattle.adsc_requests.specs.declared.refusal.Refusal.{Refusal}
use Rattle.output_fields.specs.Fields.{comma, number_field}

-- The code of a fault of an envelope.
abbrev pub envelope_code : EnvelopeWhy → List ℕ
envelope_code envelope.Slash = codes "SLASH"
envelope_code envelope.Address = codes "ADDRESS"
envelope_code envelope.Dot = codes "DOT"
envelope_code envelope.Imi = codes "IMI"
envelope_code envelope.Registration = codes "REGISTRATION"
envelope_code envelope.Hex = codes "HEX"
envelope_code envelope.Character = codes "CHARACTER"
envelope_code envelope.TooShort = codes "SHORT"
envelope_code envelope.TooLong = codes "LONG"
envelope_code (envelope.Check found due) = codes "CHECK"

-- What stands behind the code: the place, and for a wrong check in its stead the code that was found and the code that is due.
abbrev pub envelope_fields : ℕ → EnvelopeWhy → List ℕ
envelope_fields place (envelope.Check found due) = comma ∷ four_digits found ++ comma ∷ four_digits due
envelope_fields place why = number_field place

-- The code of an envelope's first bad place, and what stands behind it.
abbrev pub envelope_fault_fields : EnvelopeRefusal → List ℕ
envelope_fault_fields fault = envelope_code fault.why ++ envelope_fields fault.place fault.why

-- The code of the first fault of an uplink's payload, which has the reason that a negative acknowledgement tells the
-- ground, and the fault's first bit.
abbrev pub request_fault_fields : Refusal → List ℕ
request_fault_fields refusal = codes "REASON-" ++ decimal refusal.reason ++ number_field refusal.bit
