-- What was read, and what is still to be read, is what reading gives from the beginning.
use Rattle.std.proofs.Common.{◌≡◌, ◌-◌, ◌≤◌, map}
use Rattle.arrayvec.specs.ArrayVec.{array_vec_len}
use Rattle.adsc_downlink.specs.ItemView.{report_group_data}
use Rattle.adsc_downlink.specs.Reading.{groups_at}
use Rattle.adsc_downlink.proofs.Stepping.{with_front}
use Rattle.adsc_downlink.proofs.decoding.decode_groups.Given as goal

abbrev pub invariant-loop-groups : goal.invariant-loop-groups
invariant-loop-groups l = record {
  few : array_vec_len l.groups ≤ 8;
  whole : groups_at 8 l.fn.from ≡ with_front (map report_group_data l.groups.items) (groups_at (8 - array_vec_len l.groups) l.from);
}

abbrev pub decreases-loop-groups : goal.decreases-loop-groups
decreases-loop-groups l = 8 - array_vec_len l.groups
