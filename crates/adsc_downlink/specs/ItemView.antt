-- What contracts see of the types of the items.
use Rattle.std.specs.Prelude.{List, map}
use Rattle.adsc_groups.specs.BasicView.{basic_data}
use Rattle.adsc_groups.specs.Groups.{GroupData}
use Rattle.adsc_groups.specs.GroupView.{group_data}
use Rattle.adsc_downlink.specs.Items.{ReportData, ItemData}
use Rattle.adsc_downlink.specs.declared.report.ReportGroup.{ReportGroup}
use Rattle.adsc_downlink.specs.declared.report.Report.{Report}
use Rattle.adsc_downlink.specs.declared.item.Item.{Item}
use Rattle.adsc_downlink.specs.declared.item.Item.TheVariants as item
use Rattle.adsc_downlink.specs.declared.items.Items.{Items}

-- The plain data of groups in a report, of a report, of an item, of the items of a downlink.
abbrev pub report_group_data : ReportGroup → GroupData
report_group_data group = group_data group.0

abbrev pub report_data : Report → ReportData
report_data report = record { tag = report.tag; basic = basic_data report.basic; groups = map report_group_data report.groups.items }

abbrev pub item_data : Item → ItemData
item_data (item.Ack n) = ItemData.ack n
item_data (item.Nack nack) = ItemData.nack nack.n nack.reason nack.octet
item_data (item.Noncompliance n) = ItemData.noncompliance n
item_data (item.EmergencyOff n) = ItemData.emergency_off n
item_data (item.Report report) = ItemData.report (report_data report)

abbrev pub items_data : Items → List ItemData
items_data items = map item_data items.list.items
