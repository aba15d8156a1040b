use Rattle.std.proofs.Common.{◌≡◌, ◌++◌, ap, sym, subst, ◌∙◌}
use Rattle.adsc_downlink.specs.Items.{item_bits}
use Rattle.contract_table.specs.Dues.{rules_item}
use Rattle.contract_table.specs.declared.due.DueItem.{DueItem}
use Rattle.aircraft_core.specs.Reports.{item_on}
use Rattle.aircraft_core.proofs.SizeLaws.{ack_fits, emergency_off_fits, nack_fits, noncompliance_fits}
use Rattle.aircraft_core.proofs.WritingLaws.{report_is_item}
use Rattle.aircraft_core.proofs.items.write_item.Goals as goal

pub write_short-requires-clause-short : goal.write_short-requires-clause-short
write_short-requires-clause-short c = ack_fits c.in-Ack.n

pub write_short-requires-in-Nack-clause-short : goal.write_short-requires-in-Nack-clause-short
write_short-requires-in-Nack-clause-short c = nack_fits c.in-Nack.n c.in-Nack.reason c.in-Nack.octet

pub write_short-requires-in-Noncompliance-clause-short : goal.write_short-requires-in-Noncompliance-clause-short
write_short-requires-in-Noncompliance-clause-short c = noncompliance_fits c.in-Noncompliance.n

pub write_short-requires-in-EmergencyOff-clause-short : goal.write_short-requires-in-EmergencyOff-clause-short
write_short-requires-in-EmergencyOff-clause-short c = emergency_off_fits c.in-EmergencyOff.n

pub returns-in-Report-clause-bits : goal.returns-in-Report-clause-bits
returns-in-Report-clause-bits c =
    subst (λ (due : DueItem). c.write_report.new.out ≡ c.args.out.now ++ item_bits (item_on c.args.setup.now c.args.sample.now (rules_item due))) (sym c.in-Report.is)
    (c.write_report.ensures.bits ∙ ap (λ bits. c.args.out.now ++ bits) (report_is_item c.args.setup.now c.args.sample.now c.in-Report.tag c.in-Report.groups))
