use Rattle.std.proofs.Common.{◌≡◌, ◌≤◌, ◌+◌, ◌-◌, length, map}
use Rattle.adsc_requests.specs.Contents.{content_of}
use Rattle.adsc_requests.specs.Reading.{messages_at, uplink_at}
use Rattle.adsc_requests.proofs.MessageLoop.{with_front}
use Rattle.adsc_requests.proofs.decoding.uplink.read_uplink.Given as goal

-- Reading on behind the messages that were read gives what reading all gives.
abbrev pub invariant-loop : goal.invariant-loop
invariant-loop l = record {
  reads : with_front (map content_of l.messages.items) (messages_at (4 - l.counter) l.number l.rest) ≡ uplink_at l.fn.payload;
  counted : length l.messages.items ≡ l.counter;
  begun : 1 ≤ length l.rest + length l.messages.items;
}
