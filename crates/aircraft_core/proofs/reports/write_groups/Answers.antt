use Rattle.std.proofs.Common.{rules, refl, arith}
use Rattle.aircraft_core.proofs.GroupsLaws.{group_more, group_room, groups_small, groups_written}
use Rattle.aircraft_core.proofs.reports.write_groups.Goals as goal

pub write_due_group-requires-clause-room : goal.write_due_group-requires-clause-room
write_due_group-requires-clause-room c =
    group_room c.args.setup.now c.args.sample.now c.args.due.now c.loop-place.place _ _ (omega (arith, c.loop-place-test.true)) refl
    c.args.out.now c.loop-place.out c.loop-place.invariant.all (search rules) c.requires.room

pub loop-place-preserved : goal.loop-place-preserved
loop-place-preserved c = record {
  all = group_more c.args.setup.now c.args.sample.now c.args.due.now c.loop-place.place _ _ (omega (arith, c.loop-place-test.true)) refl
      c.loop-place.out c.write_due_group.new.out _ c.loop-place.invariant.all c.write_due_group.ensures.bits;
  octets = c.write_due_group.ensures.whole;
}

pub returns-clause-size : goal.returns-clause-size
returns-clause-size c =
    groups_small c.args.setup.now c.args.sample.now c.args.due.now c.args.out.now c.loop-place.out (search rules)
    (groups_written c.args.setup.now c.args.sample.now c.args.due.now c.loop-place.place c.loop-place.out _ (omega (arith, c.loop-place-test.false)) c.loop-place.invariant.all)
