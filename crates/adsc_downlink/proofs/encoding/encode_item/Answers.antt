-- Each kind of item is whole octets.
use Rattle.adsc_downlink.proofs.Sizes.{whole_item}
use Rattle.adsc_downlink.proofs.encoding.encode_item.Goals as goal

pub returns-clause-whole : goal.returns-clause-whole
returns-clause-whole c = whole_item c.args.item.now
