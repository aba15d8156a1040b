use Rattle.std.proofs.Common.{rules, subst}
use Rattle.adsc_requests.specs.Grammar.{EncodesUplink}
use Rattle.net_script.proofs.request.request_of.Goals as goal

pub returns-clause-some : goal.returns-clause-some
returns-clause-some c =
    record {
      octets = c.in_ok-octets.octets.items;
      uplink = c.in-Ok.uplink;
      bytes = c.in_ok-octets.ensures.bytes;
      few = search rules;
      digits = c.in_ok-octets.ensures.spelled;
      encoding = subst (EncodesUplink c.in-Ok.uplink) c.as_slice.ensures.value c.in-Ok.ensures.uplink;
      sole = c.in_ok-message.ensures.some;
      asks = search rules;
    }
