-- What is written, and the groups still to come, are all of them.
use Rattle.std.proofs.Common.{◌≡◌, ◌+◌, ◌%◌, ◌++◌, drop, flat_map, length}
use Rattle.adsc_downlink.specs.Items.{tagged_group_bits}
use Rattle.aircraft_core.specs.Reports.{groups_from}
use Rattle.aircraft_core.proofs.reports.write_groups.Given as goal

abbrev pub invariant-loop-place : goal.invariant-loop-place
invariant-loop-place l = record {
  all : l.out ++ flat_map tagged_group_bits (groups_from l.setup l.sample (12 + l.place) (drop l.place l.due))
      ≡ l.fn.out ++ flat_map tagged_group_bits (groups_from l.setup l.sample 12 l.due);
  octets : length l.out % 8 ≡ 0;
}
