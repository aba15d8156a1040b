use Rattle.std.proofs.Common.{◌≡◌, ◌<◌, [], length, ap, sym, ◌∙◌, subst, arith}
use Rattle.std.proofs.lemmas.List.{get_or_read}
use Rattle.adsc_io.specs.Lines.{script_lines}
use Rattle.aircraft_core.specs.Aircraft.{Aircraft}
use Rattle.aircraft_core.specs.Downlinks.{AreDownlinks}
use Rattle.aircraft_core.specs.Outboxes.{OutboxState, outbox_of}
use Rattle.aircraft_core.proofs.JournalLaws.{downlinks_kept, ended_kept}
use Rattle.aircraft_core.proofs.craft.Craft.outbox.Goals as goal

pub returns-clause-texts : goal.returns-clause-texts
returns-clause-texts c =
    let craft = c.self.inside in
    let within : c.args.link < length craft.setup.addresses = subst (λ (a : Aircraft). c.args.link < length a.setting.addresses) (sym c.self.view_is) c.requires in
    let read : c.bytes.result.now ≡ (outbox_of craft.outboxes.items c.args.link).sent
    = c.bytes.ensures ∙ ap (λ (o : OutboxState). o.sent)
    (get_or_read craft.outboxes.items c.args.link c.index.result.now (omega (arith, within, c.self.invariant.outboxes.each_link)) c.index.ensures (record { sent = []; room = 0 })) in
    subst (λ (a : Aircraft). AreDownlinks a.setting a.journal c.args.link (script_lines c.bytes.result.now)) c.self.view_is
    (rw read (downlinks_kept craft.setup craft.journal.items craft.latest craft.table craft.outboxes.items c.args.link c.self.invariant.outboxes within))

pub returns-clause-ended : goal.returns-clause-ended
returns-clause-ended c =
    let craft = c.self.inside in
    let within : c.args.link < length craft.setup.addresses = subst (λ (a : Aircraft). c.args.link < length a.setting.addresses) (sym c.self.view_is) c.requires in
    let read : c.bytes.result.now ≡ (outbox_of craft.outboxes.items c.args.link).sent
    = c.bytes.ensures ∙ ap (λ (o : OutboxState). o.sent)
    (get_or_read craft.outboxes.items c.args.link c.index.result.now (omega (arith, within, c.self.invariant.outboxes.each_link)) c.index.ensures (record { sent = []; room = 0 })) in
    rw read (ended_kept craft.setup craft.journal.items craft.latest craft.table craft.outboxes.items c.args.link c.self.invariant.outboxes within)
