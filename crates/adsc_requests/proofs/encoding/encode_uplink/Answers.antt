use Rattle.std.proofs.Common.{◌≡◌, ◌∙◌, sym, ap, subst, List, ℕ, map, arith, take_all, length}
use Rattle.adsc_requests.specs.Contents.{content_of, contents_of}
use Rattle.adsc_requests.specs.Grammar.{EncodesContents, joined, uplink_octets}
use Rattle.adsc_requests.specs.declared.message.Message.{Message}
use Rattle.adsc_requests.proofs.Whole.{written_encodes}
use Rattle.adsc_requests.proofs.encoding.encode_uplink.Goals as goal

pub returns-clause-encoding : goal.returns-clause-encoding
returns-clause-encoding c =
    let written : c.loop-message.out.items ≡ uplink_octets c.args.uplink.now
    = c.loop-message.invariant.octets
    ∙ ap (λ (ms : List Message). joined (map content_of ms))
    (take_all c.loop-message.message-index c.args.uplink.now.messages.items (omega (arith, ap length c.as_slice-message-items.ensures.value))) in
    subst (λ (o : List ℕ). EncodesContents (contents_of c.args.uplink.now) o) (sym written) (written_encodes c.args.uplink.now)
