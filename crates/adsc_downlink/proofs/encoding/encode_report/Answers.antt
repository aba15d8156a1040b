-- A report has the tag and the basic data at least.
use Rattle.std.proofs.Common.{arith, map}
use Rattle.adsc_downlink.specs.ItemView.{report_group_data}
use Rattle.adsc_downlink.proofs.Canonical.{canonical_report}
use Rattle.adsc_downlink.proofs.Sizes.{length-report_bits}
use Rattle.adsc_downlink.proofs.encoding.encode_report.Goals as goal

pub put-requires-clause-room : goal.put-requires-clause-room
put-requires-clause-room c =
    omega (arith, length-report_bits c.args.report.now.tag c.args.report.now.basic (map report_group_data c.args.report.now.groups.items), c.requires)

pub encode_basic-requires : goal.encode_basic-requires
encode_basic-requires c =
    omega (arith, length-report_bits c.args.report.now.tag c.args.report.now.basic (map report_group_data c.args.report.now.groups.items), c.requires, c.put.ensures.len)

pub returns-clause-encodes : goal.returns-clause-encodes
returns-clause-encodes c = canonical_report c.args.report.now
