-- The payloads of generated texts, octet by octet (RTCA DO-258A / EUROCAE ED-100A). Which of them are made is this project's profile.
use Rattle.std.specs.Prelude.{ℕ, List, [], ◌∷◌}
use Rattle.generated_scripts.specs.declared.line.MadePayload.{MadePayload}
use Rattle.generated_scripts.specs.declared.line.MadePayload.TheVariants.{Demand, Periodic, Event, Emergency, Cancel, CancelAll, Malformed}

-- The octets of a payload. A periodic report has the predicted route in each second report; an event contract has its lateral limit and the
-- change of waypoint; the malformed one ends behind the tag of a reporting interval.
abbrev pub payload_octets : MadePayload → List ℕ
payload_octets (Demand number) = 0x07 ∷ number ∷ []
payload_octets (Periodic number interval) = 0x07 ∷ number ∷ 0x0B ∷ interval ∷ 0x0D ∷ 0x02 ∷ []
payload_octets (Event number lateral) = 0x08 ∷ number ∷ 0x0A ∷ lateral ∷ 0x14 ∷ []
payload_octets (Emergency number interval) = 0x09 ∷ number ∷ 0x0B ∷ interval ∷ []
payload_octets (Cancel number) = 0x02 ∷ number ∷ []
payload_octets CancelAll = 0x01 ∷ []
payload_octets (Malformed number) = 0x07 ∷ number ∷ 0x0B ∷ []
