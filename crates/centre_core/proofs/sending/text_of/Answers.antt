use Rattle.std.proofs.Common.{◌≡◌, List, length, map, ap, ◌∙◌, arith}
use Rattle.std.proofs.lemmas.Bool.{le-leb}
use Rattle.std.specs.Cmp.Derive.{both_true}
use Rattle.adsc_requests.specs.Contents.{content_of}
use Rattle.adsc_requests.specs.Grammar.{joined}
use Rattle.adsc_requests.specs.declared.message.Message.{Message}
use Rattle.centre_core.specs.Sending.{message_payload}
use Rattle.centre_core.proofs.SendingLaws.{payload_there}
use Rattle.centre_core.proofs.sending.text_of.Goals as goal

pub invariant_of-envelope : goal.invariant_of-envelope
invariant_of-envelope c =
    let payload : c.encode_uplink.result.items ≡ message_payload c.args.message =
    c.encode_uplink.ensures.octets ∙ ap (λ (ms : List Message). joined (map content_of ms)) c.only-uplink.ensures in
    record {
      well_formed = both_true (le-leb 1 (length c.encode_uplink.result.items) (omega (arith, payload_there c.args.message, ap length payload)))
          (le-leb (length c.encode_uplink.result.items) 255 (omega (arith, c.encode_uplink.ensures.len)));
    }
