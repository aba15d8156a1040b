use Rattle.std.proofs.Common.{◌≡◌, List, length, map, ap, ◌∙◌, arith}
use Rattle.adsc_requests.specs.Contents.{content_of}
use Rattle.adsc_requests.specs.Grammar.{joined}
use Rattle.adsc_requests.specs.declared.message.Message.{Message}
use Rattle.centre_core.specs.Sending.{message_payload}
use Rattle.centre_core.proofs.SendingLaws.{payload_there}
use Rattle.adsc_run.proofs.carried.entry_of.Goals as goal

pub returns-in-Message-clause-taken : goal.returns-in-Message-clause-taken
returns-in-Message-clause-taken c setting inside =
    let payload : c.encode_uplink.result.items ≡ message_payload c.in-Message.message =
    c.encode_uplink.ensures.octets ∙ ap (λ (ms : List Message). joined (map content_of ms)) c.only.ensures in
    (inside, omega (arith, payload_there c.in-Message.message, ap length payload), omega (arith, c.encode_uplink.ensures.len))
