use Rattle.std.proofs.Common.{◌≡◌, ◌≤◌, ◌*◌, length, take, map}
use Rattle.adsc_requests.specs.Contents.{content_of}
use Rattle.adsc_requests.specs.Grammar.{joined}
use Rattle.adsc_requests.proofs.encoding.encode_uplink.Given as goal

abbrev pub invariant-loop-message : goal.invariant-loop-message
invariant-loop-message l = record {
  octets : l.out.items ≡ joined (map content_of (take l.message-index l.uplink.messages.items));
  len : length l.out.items ≤ 19 * l.message-index;
}
