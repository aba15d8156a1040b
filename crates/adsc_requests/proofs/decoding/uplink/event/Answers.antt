use Rattle.std.proofs.Common.{◌∙◌, sym}
use Rattle.adsc_requests.proofs.GatheredLemmas.{event-watches, event-empty}
use Rattle.adsc_requests.proofs.decoding.uplink.event.Goals as goal

pub returns-then-watches : goal.returns-then-watches
returns-then-watches c =
    let a = c.args.gathered in
    event-watches a.lateral a.interval a.moduli.m a.vrate a.range a.waypoint a.intent c.args.n c.args.left c.requires (sym c.watches.ensures ∙ c.if-watches.true)

pub returns-else-watches : goal.returns-else-watches
returns-else-watches c =
    let a = c.args.gathered in
    event-empty a.lateral a.interval a.moduli.m a.vrate a.range a.waypoint a.intent c.args.n c.args.left c.requires (sym c.watches.ensures ∙ c.if-watches.false)
