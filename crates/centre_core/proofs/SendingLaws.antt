-- A message has a payload.
use Rattle.std.proofs.Common.{◌≤◌, Bool, true, false, ◌==◌, [], ◌∷◌, length, flat_map, if◌then◌else◌, arith}
use Rattle.std.proofs.lemmas.List.{length-append}
use Rattle.adsc_requests.specs.Contents.{Content, content_of}
use Rattle.adsc_requests.specs.Grammar.{group_octets, head_octets, message_octets}
use Rattle.adsc_requests.specs.declared.message.Message.{Message}
use Rattle.centre_core.specs.Sending.{message_payload}

head_there : (m : Content) → 1 ≤ length (head_octets m)
head_there m = at (m.tag == 1)
  where
    at : (unnumbered : Bool) → 1 ≤ length (if unnumbered then m.tag ∷ [] else m.tag ∷ m.number ∷ [])
    at true = omega arith
    at false = omega arith

octets_there : (m : Content) → 1 ≤ length (message_octets m)
unfolding message_octets
octets_there m = omega (arith, head_there m, length-append (head_octets m) (flat_map group_octets m.groups))

pub payload_there : (message : Message) → 1 ≤ length (message_payload message)
payload_there message = omega (arith, octets_there (content_of message), length-append (message_octets (content_of message)) [])
