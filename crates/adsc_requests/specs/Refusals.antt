-- What a refusal tells of the first fault.
use Rattle.std.specs.Prelude.{◌≡◌, ℕ, ◌+◌, ◌*◌, List}
use Rattle.adsc_requests.specs.Contents.{Content}
use Rattle.adsc_requests.specs.Grammar.{EncodesUplink, EncodesContents}
use Rattle.adsc_requests.specs.Faults.{IsFirstFault}
use Rattle.adsc_requests.specs.declared.message.Uplink.{Uplink}
use Rattle.adsc_requests.specs.declared.refusal.Refusal.{Refusal}

-- The refusal tells the payload's first fault: its first bit, its reason and number, and its octet, which is
-- counted from 1.
pub record IsFirstUplinkFault (r : Refusal) (payload : List ℕ) : Type 0 where
  pub at : ℕ
  pub fault : IsFirstFault payload at r.reason r.number
  pub bit : r.bit ≡ 8 * at
  pub octet : r.octet ≡ at + 1

-- Some uplink has this payload as an encoding.
abbrev pub HasUplink : List ℕ → Type 0
HasUplink payload = (u : Uplink) × EncodesUplink u payload

-- The payload has a first fault.
abbrev pub HasFault : List ℕ → Type 0
HasFault payload = (r : Refusal) × IsFirstUplinkFault r payload

-- The payload is an encoding of some messages, seen as what they ask.
abbrev pub HasContents : List ℕ → Type 0
HasContents payload = (contents : List Content) × EncodesContents contents payload
