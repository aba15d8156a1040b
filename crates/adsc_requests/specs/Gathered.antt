-- The groups of a request as far as they were read.
use Rattle.std.specs.Prelude.{◌≡◌, ℕ, List, Bool, false, Option, if◌then◌else◌, ℤ}
use Rattle.adsc_requests.specs.Tables.{allows}
use Rattle.adsc_requests.specs.Contents.{Group, collected, has_tag, event_octets, report_octets}
use Rattle.adsc_requests.specs.declared.message.Range.{Range}
use Rattle.adsc_requests.specs.declared.message.Intent.{Intent}
use Rattle.adsc_requests.specs.declared.decoding.gathered.Gathered.{Gathered}

-- The octets of each group that was read, whether it is one of event requests or of periodic requests.
unfoldable pub field_octets : Option ℕ → Option ℕ → List (Option ℕ) → Option ℤ → Option Range → Bool → Option Intent → ℕ → Option (List ℕ)
field_octets lateral interval moduli vrate range waypoint intent t =
    if allows 8 t then event_octets lateral vrate range waypoint t else report_octets interval moduli intent t

-- The groups that were read, by rising tag.
abbrev pub gathered_groups : Gathered → List Group
gathered_groups a = collected (field_octets a.lateral a.interval a.moduli.m a.vrate a.range a.waypoint a.intent)

-- The groups are only such as a message of this tag may have.
pub record AreAllowed (m : ℕ) (gs : List Group) : Type 0 where
  pub others : (t : ℕ) → allows m t ≡ false → has_tag t gs ≡ false
