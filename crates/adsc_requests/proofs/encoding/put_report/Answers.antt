use Rattle.adsc_requests.proofs.WritingLemmas.{report_written}
use Rattle.adsc_requests.proofs.encoding.put_report.Goals as goal

pub returns-clause-octets : goal.returns-clause-octets
returns-clause-octets c =
    rw (c.put_intent.ensures.octets, c.put_moduli.ensures.octets, c.put_octet.ensures.octets)
    (report_written c.args.interval c.args.groups.m c.args.intent c.args.out.now.items)
