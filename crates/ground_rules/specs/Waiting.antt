-- Which rows wait for an answer, and which texts end the quiet of a periodic row (this project's profile).
use Rattle.std.specs.Prelude.{Bool, true, false, not, ◌&&◌, ◌||◌, List}
use Rattle.std.specs.List.{list_any}
use Rattle.adsc_downlink.specs.ItemView.{items_data}
use Rattle.adsc_downlink.specs.Items.{ItemData}
use Rattle.centre_core.specs.Events.{HearsItem}
use Rattle.centre_core.specs.declared.heard.Heard.{Heard}
use Rattle.centre_core.specs.declared.heard.Heard.TheVariants as heard
use Rattle.centre_core.specs.declared.shown.Shown.{Shown}
use Rattle.centre_core.specs.declared.shown.Shown.TheVariants as shown
use Rattle.ground_rules.specs.Watching.{tells_position}

-- The row waits: its request or its cancel was sent, and wasn't answered yet.
abbrev pub waits : Shown → Bool
waits (shown.Pending request) = true
waits (shown.Cancelling request) = true
waits row = false

-- One of the items tells the aircraft's position.
abbrev pub tell_position : List ItemData → Bool
tell_position items = list_any (λ item. tells_position (HearsItem item)) items

-- What was heard ends the quiet: it answered the periodic row, which waited before and doesn't any more, or it tells a position.
abbrev pub heard_ends : Bool → Bool → Heard → Bool
heard_ends waited still_waits (heard.Downlink items matched) = (waited && not still_waits) || tell_position (items_data items)
heard_ends waited still_waits answer = false
