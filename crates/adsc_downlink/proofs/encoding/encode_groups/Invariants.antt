-- What is written, and what is still to be written, is the whole.
use Rattle.std.proofs.Common.{◌≡◌, ◌++◌, flat_map, map, drop}
use Rattle.adsc_downlink.specs.Items.{tagged_group_bits}
use Rattle.adsc_downlink.specs.ItemView.{report_group_data}
use Rattle.adsc_downlink.proofs.encoding.encode_groups.Given as goal

abbrev pub invariant-loop-group : goal.invariant-loop-group
invariant-loop-group l =
    l.out ++ flat_map tagged_group_bits (map report_group_data (drop l.group-index l.groups))
    ≡ l.fn.out ++ flat_map tagged_group_bits (map report_group_data l.groups)
