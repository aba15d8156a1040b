-- Each clause follows from what the reading gives.
use Rattle.adsc_groups.proofs.GroupLaws.{group_exactly, group_refused_exactly}
use Rattle.adsc_groups.proofs.group.coding.decode_group.Goals as goal

pub returns-clause-read : goal.returns-clause-read
returns-clause-read c = group_exactly c.args.tag c.args.from.now c.group_from.new.from c.group_from.result c.group_from.ensures.gives

pub returns-clause-refused : goal.returns-clause-refused
returns-clause-refused c = group_refused_exactly c.args.tag c.args.from.now c.group_from.new.from c.group_from.result c.group_from.ensures.gives
