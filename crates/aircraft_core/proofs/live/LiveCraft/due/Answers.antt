use Rattle.std.proofs.Common.{◌<◌, [], ◌∷◌, ◌++◌, length, refl, ap, sym, ◌∙◌, subst, arith}
use Rattle.std.proofs.lemmas.List.{get_or_read}
use Rattle.aircraft_core.specs.AddedTexts.{AreAdded, listed}
use Rattle.aircraft_core.specs.LiveAircraft.{LiveAircraft, StandsAfter}
use Rattle.aircraft_core.specs.Outboxes.{OutboxState}
use Rattle.aircraft_core.proofs.LiveLaws.{few_added}
use Rattle.aircraft_core.proofs.live.LiveCraft.due.Goals as goal

pub returns : goal.returns
returns c journal entry stands =
    let craft = c.self.inside in
    let within : c.args.link < length craft.setup.addresses = subst (λ (a : LiveAircraft). c.args.link < length a.setting.addresses) (sym c.self.view_is) c.requires in
    let here = subst (λ (a : LiveAircraft). StandsAfter a (journal ++ entry ∷ [])) (sym c.self.view_is) stands in
    let holds = here.holds journal entry c.args.link refl within in
    let read = ap (λ (o : OutboxState). o.sent)
    (get_or_read craft.outboxes.items c.args.link c.index.result.now (omega (arith, within, c.self.invariant.outboxes)) c.index.ensures (record { sent = []; room = 0 })) in
    let same = c.text.ensures holds.texts (few_added craft.setup journal entry c.args.link holds.texts holds.are_added) (read ∙ holds.spelled) in
    subst (λ (a : LiveAircraft). AreAdded a.setting journal entry c.args.link (listed c.text.result)) c.self.view_is
    (subst (AreAdded craft.setup journal entry c.args.link) (sym same) holds.are_added)
