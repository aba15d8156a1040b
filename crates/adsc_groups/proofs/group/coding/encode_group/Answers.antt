-- What is written is the canonical encoding.
use Rattle.adsc_groups.proofs.GroupLaws.{group_encodes}
use Rattle.adsc_groups.proofs.group.coding.encode_group.Goals as goal

pub returns-clause-encodes : goal.returns-clause-encodes
returns-clause-encodes c = group_encodes c.args.group.now
