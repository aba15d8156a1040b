use Rattle.std.proofs.Common.{length, arith}
use Rattle.aircraft_core.proofs.GroupsLaws.{group_fits}
use Rattle.aircraft_core.proofs.reports.write_group.Goals as goal

pub put-requires-clause-room : goal.put-requires-clause-room
put-requires-clause-room c =
    let fits = group_fits c.group-group.result _ (length c.args.out.now) c.group-group.ensures c.requires.room in
    omega (arith, fits)

pub encode_group-requires : goal.encode_group-requires
encode_group-requires c =
    let fits = group_fits c.group-group.result _ (length c.args.out.now) c.group-group.ensures c.requires.room in
    omega (arith, fits, c.put.ensures.len)
