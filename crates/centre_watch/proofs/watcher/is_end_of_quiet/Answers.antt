use Rattle.std.proofs.Common.{Bool, List, ◌||◌, ap, ap₂, ◌∙◌}
use Rattle.std.specs.List.{list_any}
use Rattle.adsc_downlink.specs.ItemView.{item_data}
use Rattle.adsc_downlink.specs.declared.item.Item.{Item}
use Rattle.centre_core.specs.Events.{HearsItem}
use Rattle.ground_rules.specs.Watching.{tells_position}
use Rattle.centre_watch.proofs.WatchLaws.{any_map}
use Rattle.centre_watch.proofs.watcher.is_end_of_quiet.Goals as goal

pub returns-in-Downlink : goal.returns-in-Downlink
returns-in-Downlink c =
    rw c.in-Downlink.is
    (ap₂ (λ (answered told : Bool). answered || told) c.is_answered.ensures
    (c.has_position.ensures ∙ ap (λ (items : List Item). list_any (λ item. tells_position (HearsItem (item_data item))) items) c.as_slice.ensures.value
    ∙ any_map item_data (λ item. tells_position (HearsItem item)) c.in-Downlink.items.list.items))
